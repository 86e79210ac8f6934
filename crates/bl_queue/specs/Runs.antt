-- What becomes of a job when it is started, goes on, has a file ended, and is cancelled.
use Rattle.std.specs.Prelude.{◌≡◌, ℕ, suc, zero, ◌+◌, ◌-◌, ◌&&◌, Bool, true, false, if◌then◌else◌, List, [], ◌∷◌, length, ◌≤◌, map, slice_get, option_and_then, IsSomeAnd, None, Some}
use Rattle.std.specs.declared.option.Option.{Option}
use Rattle.std.specs.List.{list_all, list_any}
use Rattle.bl_value.specs.declared.log_code.LogCode.{LogCode}
use Rattle.bl_value.specs.declared.log_code.LogCode.TheVariants.{FeedModified, ListFault, NoPreviousLoad, ReadFault, SourceNotFound, TooManyFiles}
use Rattle.bl_files.specs.declared.feed.Feed.{Feed}
use Rattle.bl_files.specs.declared.feed_end.FeedEnd.{FeedEnd}
use Rattle.bl_files.specs.declared.feed_end.FeedEnd.TheVariants as end
use Rattle.bl_files.specs.declared.feed_status.FeedStatus.{FeedStatus}
use Rattle.bl_files.specs.declared.feed_status.FeedStatus.TheVariants as feed
use Rattle.bl_files.specs.declared.log.Log.{Log}
use Rattle.bl_files.specs.declared.found.Found.{Found}
use Rattle.bl_files.specs.declared.mode.Mode.{Mode}
use Rattle.bl_files.specs.declared.mode.Mode.TheVariants.{New, Resume, Auto}
use Rattle.bl_files.specs.declared.plan_result.PlanResult.{PlanResult}
use Rattle.bl_files.specs.declared.plan_result.PlanResult.TheVariants as plan
use Rattle.bl_files.specs.Carried.{AreCarried, most_files}
use Rattle.bl_files.specs.Statuses.{is_completed, is_failed, is_open}
use Rattle.bl_queue.specs.declared.job.Job.{Job}
use Rattle.bl_queue.specs.declared.job_status.JobStatus.{JobStatus}
use Rattle.bl_queue.specs.declared.job_status.JobStatus.TheVariants.{CancelledByUser, Completed, Failed, InProgress, NotStarted}
use Rattle.bl_queue.specs.Jobs.{Kept, front_job, has_open, is_unended, job_of}
use Rattle.bl_queue.specs.Previous.{previous_job}
use Rattle.bl_queue.specs.Changes.{IsChanged}

-- a file that hasn't ended ends with this status
abbrev pub open_ended : FeedStatus → Feed → Feed
open_ended status feed = if is_open feed.status then record feed { status = status } else feed

abbrev pub with_open_ended : FeedStatus → List Feed → List Feed
with_open_ended status feeds = map (open_ended status) feeds

-- ---- the job is cancelled

abbrev pub cancelled_job : ℕ → Job → Job
cancelled_job moment job = record job {
  status = CancelledByUser;
  latest = moment;
  feeds = with_open_ended feed.CancelledByUser job.feeds;
}

-- the job is kept, and hasn't ended
abbrev pub MayCancel : List Job → ℕ → Type 0
MayCancel jobs number = IsSomeAnd (job_of number jobs) (λ it. is_unended it ≡ true)

-- nor has it a file that hasn't
abbrev pub MayEnd : List Job → ℕ → Type 0
MayEnd jobs number = IsSomeAnd (job_of number jobs)
    (λ it. (is_unended it ≡ true) × (has_open it ≡ false))

-- ---- a file ends

-- the job has a file at this place, and it hasn't ended
abbrev pub IsOpenAt : ℕ → Job → Type 0
IsOpenAt place job = IsSomeAnd (slice_get job.feeds place) (λ feed. is_open feed.status ≡ true)

-- the file of this number, counted from 1, may end
pub record MayEndFeed (jobs : List Job) (job feed : ℕ) : Type 0 where
  pub number : 1 ≤ feed
  pub front : IsSomeAnd (front_job jobs) (λ it. (it.number ≡ job) × IsOpenAt (feed - 1) it)

abbrev pub end_status : FeedEnd → FeedStatus
end_status end.Completed = feed.Completed
end_status (end.Stopped log) = feed.Failed
end_status end.ReadError = feed.ReadError
end_status end.Modified = feed.Modified

-- a log that is about no record
abbrev pub bare_log : LogCode → Log
bare_log code = record { code = code; number = 0; column = 0 }

abbrev pub end_log : FeedEnd → Option Log
end_log end.Completed = None
end_log (end.Stopped log) = Some log
end_log end.ReadError = Some (bare_log ReadFault)
end_log end.Modified = Some (bare_log FeedModified)

abbrev pub ended_feed : FeedEnd → Feed → Feed
ended_feed how feed = record feed { status = end_status how; end_log = end_log how }

-- The end of one file stops the job: where it could not be read, and where the load stops at
-- errors, each but a whole one.
abbrev pub stops : Bool → FeedEnd → Bool
stops fail_on_error end.Completed = false
stops fail_on_error (end.Stopped log) = fail_on_error
stops fail_on_error end.ReadError = true
stops fail_on_error end.Modified = fail_on_error

-- the file at this place is changed
abbrev pub with_feed : ℕ → (Feed → Feed) → List Feed → List Feed
with_feed zero change [] = []
with_feed (suc place) change [] = []
with_feed zero change (feed ∷ feeds) = change feed ∷ feeds
with_feed (suc place) change (feed ∷ feeds) = feed ∷ with_feed place change feeds

-- where the end of a file stops the job, each other one that hasn't ended ends
abbrev pub stopped : Bool → FeedEnd → List Feed → List Feed
stopped fail_on_error how feeds =
    if stops fail_on_error how then with_open_ended feed.CancelledDueToErrors feeds else feeds

abbrev pub feeds_after : Bool → ℕ → FeedEnd → List Feed → List Feed
feeds_after fail_on_error place how feeds =
    stopped fail_on_error how (with_feed place (ended_feed how) feeds)

-- a job all of whose files are completed is completed, and else it failed
abbrev pub whole_status : List Feed → JobStatus
whole_status feeds = if list_all (λ feed. is_completed feed.status) feeds then Completed else Failed

-- the job has ended where each of its files has
abbrev pub closed : Job → Job
closed job = if has_open job then job else record job { status = whole_status job.feeds }

abbrev pub job_after_feed : ℕ → ℕ → FeedEnd → Job → Job
job_after_feed moment place how job =
    closed (record job {
      latest = moment;
      feeds = feeds_after job.request.fail_on_error place how job.feeds;
    })

-- ---- a job is started

-- the job is the first that hasn't ended, and isn't started
abbrev pub MayStart : List Job → ℕ → Type 0
MayStart jobs number = IsSomeAnd (front_job jobs)
    (λ it. (it.number ≡ number) × (it.status ≡ NotStarted))

-- the load that it goes on with: the previous one, but where it is to begin anew
abbrev pub by_mode : Mode → Option Job → Option Job
by_mode New previous = None
by_mode Resume previous = previous
by_mode Auto previous = previous

abbrev pub goes_on_from : List Job → ℕ → Option Job
goes_on_from jobs number = option_and_then (λ job. by_mode job.request.mode (previous_job jobs job))
    (job_of number jobs)

-- the run of a load, and the number of the one before it
abbrev pub run_after : Option Job → ℕ
run_after None = 1
run_after (Some older) = older.run + 1

abbrev pub number_of : Option Job → ℕ
number_of None = 0
number_of (Some older) = older.number

abbrev pub feeds_of : Option Job → List Feed
feeds_of None = []
feeds_of (Some older) = older.feeds

abbrev pub started_job : ℕ → ℕ → ℕ → Job → Job
started_job moment run previous job =
    record job { started = moment; latest = moment; run = run; previous = previous }

-- A file that isn't read has failed at once. It stops a load that is to stop at errors.
abbrev pub begun : Bool → List Feed → List Feed
begun fail_on_error feeds = if fail_on_error && list_any (λ feed. is_failed feed.status) feeds
    then with_open_ended feed.CancelledDueToErrors feeds else feeds

-- it goes on with these files, and has ended where each of them has
abbrev pub running_job : ℕ → ℕ → ℕ → List Feed → Job → Job
running_job moment run previous feeds job =
    closed (record (started_job moment run previous job) {
      status = InProgress;
      feeds = begun job.request.fail_on_error feeds;
    })

-- or it fails for this reason
abbrev pub refused_job : ℕ → ℕ → ℕ → LogCode → Job → Job
refused_job moment run previous code job =
    record (started_job moment run previous job) { status = Failed; end_log = Some (bare_log code) }

abbrev pub IsRefused : ℕ → ℕ → LogCode → Kept → Kept → Type 0
IsRefused moment number code old new =
    IsChanged moment number (refused_job moment (run_after (goes_on_from old.jobs number))
    (number_of (goes_on_from old.jobs number)) code) old new

-- the files that were found, and those that go on from the load before
abbrev pub IsRunning : ℕ → ℕ → List Found → Kept → Kept → Type 0
IsRunning moment number found old new =
    (feeds : List Feed)
    × AreCarried (feeds_of (goes_on_from old.jobs number)) found feeds
    × IsChanged moment number (running_job moment (run_after (goes_on_from old.jobs number))
    (number_of (goes_on_from old.jobs number)) feeds) old new

abbrev pub IsStarted : ℕ → ℕ → PlanResult → Kept → Kept → Type 0
IsStarted moment number (plan.Feeds found) old new = IsRunning moment number found old new
IsStarted moment number plan.NoPrevious old new = IsRefused moment number NoPreviousLoad old new
IsStarted moment number plan.SourceNotFound old new = IsRefused moment number SourceNotFound old new
IsStarted moment number plan.ListFault old new = IsRefused moment number ListFault old new
IsStarted moment number (plan.TooManyFiles n) old new = IsRefused moment number TooManyFiles old new

-- the files that go on from these are not too many
abbrev pub FitsIn : List Feed → List Found → Type 0
FitsIn previous found = (feeds : List Feed) × AreCarried previous found feeds
    × (length feeds ≤ most_files)

abbrev pub HasRoom : List Job → ℕ → PlanResult → Type 0
HasRoom jobs number (plan.Feeds found) = FitsIn (feeds_of (goes_on_from jobs number)) found
HasRoom jobs number plan.NoPrevious = Unit {0}
HasRoom jobs number plan.SourceNotFound = Unit {0}
HasRoom jobs number plan.ListFault = Unit {0}
HasRoom jobs number (plan.TooManyFiles n) = Unit {0}
