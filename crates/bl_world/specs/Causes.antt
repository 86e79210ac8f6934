-- How jobs end, and that they stay so.
use Rattle.std.specs.Prelude.{◌≡◌, ◌⊎◌, ℕ, ◌+◌, ◌-◌, true, false, List, [], ◌∷◌, ◌++◌, Contains, None, IsSome}
use Rattle.bl_value.specs.declared.log_code.LogCode.{LogCode}
use Rattle.bl_value.specs.declared.log_code.LogCode.TheVariants.{ListFault, NoPreviousLoad, SourceNotFound, TooManyFiles}
use Rattle.bl_files.specs.declared.feed.Feed.{Feed}
use Rattle.bl_files.specs.declared.plan_result.PlanResult.{PlanResult}
use Rattle.bl_files.specs.declared.plan_result.PlanResult.TheVariants as plan
use Rattle.bl_files.specs.Carried.{AreCarried}
use Rattle.bl_queue.specs.declared.job.Job.{Job}
use Rattle.bl_queue.specs.declared.job_status.JobStatus.TheVariants.{CancelledByUser, Failed}
use Rattle.bl_queue.specs.Statuses.{has_ended}
use Rattle.bl_queue.specs.Jobs.{Kept, has_open}
use Rattle.bl_queue.specs.Changes.{new_job, with_job}
use Rattle.bl_queue.specs.Doomed.{IsDoomed, unsatisfied}
use Rattle.bl_queue.specs.Rows.{fed_job}
use Rattle.bl_queue.specs.Runs.{cancelled_job, feeds_of, goes_on_from, job_after_feed, number_of, refused_job, run_after, running_job, whole_status}
use Rattle.bl_entry.specs.declared.entry.Entry.{Entry}
use Rattle.bl_entry.specs.declared.entry.Entry.TheVariants.{Submit, Cancel, Start, Batch, FeedEnd as End}
use Rattle.bl_world.specs.Worlds.{IsWorldOf, Step, World, moment_of}

-- A job that has ended stays as it is, in every later world that keeps it: its status, its files and its end log.
abbrev pub EndedJobsStay : Type 0
EndedJobsStay = (newer older : List Entry) (before after : World) → IsWorldOf older before → IsWorldOf (newer ++ older) after
    → (it later : Job) → Contains before.kept.jobs it → has_ended it.status ≡ true → Contains after.kept.jobs later → later.number ≡ it.number → later ≡ it

-- ---- a job ends for one cause, named by the entry that ends it

-- the entry cancels the job of this number
abbrev pub IsCancelOf : Entry → ℕ → Type 0
IsCancelOf (Submit moment job id request) number = ⊥
IsCancelOf (Cancel moment job) number = job ≡ number
IsCancelOf (Start moment job planned) number = ⊥
IsCancelOf (Batch moment job feed from rows digest duplicates logs changes) number = ⊥
IsCancelOf (End moment job feed how) number = ⊥

abbrev pub HasFiles : PlanResult → Type 0
HasFiles (plan.Feeds found) = Unit {0}
HasFiles plan.NoPrevious = ⊥
HasFiles plan.SourceNotFound = ⊥
HasFiles plan.ListFault = ⊥
HasFiles (plan.TooManyFiles n) = ⊥

-- it starts the job by a plan without files
abbrev pub IsFaultOf : Entry → ℕ → Type 0
IsFaultOf (Submit moment job id request) number = ⊥
IsFaultOf (Cancel moment job) number = ⊥
IsFaultOf (Start moment job planned) number = (job ≡ number) × (¬ HasFiles planned)
IsFaultOf (Batch moment job feed from rows digest duplicates logs changes) number = ⊥
IsFaultOf (End moment job feed how) number = ⊥

-- it starts the job with files, or ends one of them
abbrev pub IsOnFilesOf : Entry → ℕ → Type 0
IsOnFilesOf (Submit moment job id request) number = ⊥
IsOnFilesOf (Cancel moment job) number = ⊥
IsOnFilesOf (Start moment job planned) number = (job ≡ number) × HasFiles planned
IsOnFilesOf (Batch moment job feed from rows digest duplicates logs changes) number = ⊥
IsOnFilesOf (End moment job feed how) number = job ≡ number

-- the jobs once one has started, and before others end with it
abbrev pub AreRefused : ℕ → ℕ → LogCode → Kept → List Job → Type 0
AreRefused moment job code kept jobs = jobs ≡ with_job job (refused_job moment (run_after (goes_on_from kept.jobs job)) (number_of (goes_on_from kept.jobs job)) code) kept.jobs

abbrev pub AreStarted : ℕ → ℕ → PlanResult → Kept → List Job → Type 0
AreStarted moment job (plan.Feeds found) kept jobs =
    (feeds : List Feed) × AreCarried (feeds_of (goes_on_from kept.jobs job)) found feeds
    × (jobs ≡ with_job job (running_job moment (run_after (goes_on_from kept.jobs job)) (number_of (goes_on_from kept.jobs job)) feeds) kept.jobs)
AreStarted moment job plan.NoPrevious kept jobs = AreRefused moment job NoPreviousLoad kept jobs
AreStarted moment job plan.SourceNotFound kept jobs = AreRefused moment job SourceNotFound kept jobs
AreStarted moment job plan.ListFault kept jobs = AreRefused moment job ListFault kept jobs
AreStarted moment job (plan.TooManyFiles n) kept jobs = AreRefused moment job TooManyFiles kept jobs

-- the jobs once the entry has changed its own one, or taken it on, and before others end with it
abbrev pub AreBetween : Entry → Kept → List Job → Type 0
AreBetween (Submit moment job id request) kept jobs = jobs ≡ kept.jobs ++ new_job moment (kept.last + 1) id request ∷ []
AreBetween (Cancel moment job) kept jobs = jobs ≡ with_job job (cancelled_job moment) kept.jobs
AreBetween (Start moment job planned) kept jobs = AreStarted moment job planned kept jobs
AreBetween (Batch moment job feed from rows digest duplicates logs changes) kept jobs = jobs ≡ with_job job (fed_job moment (feed - 1) rows digest duplicates logs) kept.jobs
AreBetween (End moment job feed how) kept jobs = jobs ≡ with_job job (job_after_feed moment (feed - 1) how) kept.jobs

-- a walk over unended jobs leads from the job to one that has failed then
abbrev pub EndsWithOthers : Kept → Entry → Job → Type 0
EndsWithOthers kept entry it = (jobs : List Job) × AreBetween entry kept jobs × (old : Job) × Contains jobs old × IsDoomed jobs old × (it ≡ unsatisfied (moment_of entry) old)

abbrev pub EndsBy : Kept → Entry → Job → Type 0
EndsBy kept entry it =
    ((it.status ≡ CancelledByUser) × IsCancelOf entry it.number)
    ⊎ (EndsWithOthers kept entry it
    ⊎ (((it.status ≡ Failed) × IsSome it.end_log × IsFaultOf entry it.number)
    ⊎ ((it.status ≡ whole_status it.feeds) × (it.end_log ≡ None) × (has_open it ≡ false) × IsOnFilesOf entry it.number)))

-- Each job that has ended in a world ended before, or by the entry that led to it.
abbrev pub JobsEndForOneCause : Type 0
JobsEndForOneCause = (entries : List Entry) (entry : Entry) (before after : World) → IsWorldOf entries before → Step before entry after
    → (it : Job) → Contains after.kept.jobs it → has_ended it.status ≡ true → Contains before.kept.jobs it ⊎ EndsBy before.kept entry it
