-- The next work, and the job and the file that it is of.
use Rattle.std.specs.Prelude.{◌≡◌, ℕ, ◌+◌, ◌-◌, Bool, true, false, not, cond, List, refl, IfSome, Some, None}
use Rattle.std.specs.declared.option.Option.{Option}
use Rattle.std.proofs.Common.{sym, ap, subst, ◌∙◌, arith}
use Rattle.std.proofs.lemmas.Bool.{true≢false}
use Rattle.std.proofs.lemmas.List.Elements.{All-contains}
use Rattle.bl_files.specs.declared.feed.Feed.{Feed}
use Rattle.bl_queue.specs.declared.job.Job.{Job}
use Rattle.bl_queue.specs.declared.job_status.JobStatus.{JobStatus}
use Rattle.bl_queue.specs.declared.job_status.JobStatus.TheVariants.{NotStarted, InQueue, InProgress, Completed, CancelledByUser, Failed, DependencyNotSatisfied}
use Rattle.bl_queue.specs.Statuses.{has_ended, is_in_progress, is_in_queue, is_to_start}
use Rattle.bl_queue.specs.Jobs.{AreJobs, Kept, front_job, has_open, waits}
use Rattle.bl_queue.specs.Runs.{goes_on_from, number_of}
use Rattle.bl_queue.proofs.ChangedJobs.{front_in}
use Rattle.bl_queue.proofs.RunChanges.{running_begun}
use Rattle.bl_world.specs.declared.work.Work.TheVariants.{Idle, Plan, Continue}
use Rattle.bl_world.specs.Works.{Placed, file_work, first_open, job_work, work_of}
use Rattle.bl_world.specs.Worlds.{AreNext, IsFirstOpen, lacks_previous}
use Rattle.bl_world.proofs.OpenFiles.{IsFound, first_found, none_first, open_found, some_first}

-- ---- a file goes on

-- what goes on where a Continue is next
pub record GoesOn (jobs : List Job) (job feed from : ℕ) : Type 0 where
  pub it : Job
  pub of : Feed
  pub next : AreNext jobs job feed it of
  pub from_is : from ≡ of.taken

continued : (jobs : List Job) (job feed from : ℕ) (it : Job) → front_job jobs ≡ Some it → (next : Placed) → first_open 1 it.feeds ≡ Some next → file_work it (Some next) ≡ Continue job feed from → GoesOn jobs job feed from
continued jobs job feed from it is next opens h =
    let found : IsFound 1 it.feeds next = open_found 1 it.feeds next opens in
    let number : it.number ≡ job = cc in
    let place : next.place ≡ feed = cc in
    let taken : next.feed.taken ≡ from = cc in
    let at : found.place ≡ feed - 1 = omega (arith, found.place_is, place) in
    record { it = it; of = next.feed; next = (is, number, omega (arith, found.place_is, place), subst (λ p. IsFirstOpen it.feeds p next.feed) at found.first); from_is = sym taken }

-- the job and the file of the Continue that is next
pub continue_is : (jobs : List Job) (job feed from : ℕ) → work_of jobs ≡ Continue job feed from → GoesOn jobs job feed from
continue_is jobs job feed from h = by_front (front_job jobs) refl h where
  by_file : (it : Job) → front_job jobs ≡ Some it → (o : Option Placed) → first_open 1 it.feeds ≡ o → file_work it o ≡ Continue job feed from → GoesOn jobs job feed from
  by_file it is None opens h = absurd (cc)
  by_file it is (Some next) opens h = continued jobs job feed from it is next opens h

  by_start : (it : Job) → front_job jobs ≡ Some it → (b : Bool) → cond b (Plan it.number (number_of (goes_on_from jobs it.number)) (lacks_previous jobs it)) (file_work it (first_open 1 it.feeds)) ≡ Continue job feed from → GoesOn jobs job feed from
  by_start it is true h = absurd (cc)
  by_start it is false h = by_file it is (first_open 1 it.feeds) refl h

  by_front : (o : Option Job) → front_job jobs ≡ o → job_work jobs o ≡ Continue job feed from → GoesOn jobs job feed from
  by_front None is h = absurd (cc)
  by_front (Some it) is h = by_start it is (is_to_start it.status) h

-- a job with an unended file is in progress
module _ (kept : Kept) (are : AreJobs kept) (it : Job) (is : front_job kept.jobs ≡ Some it) where
  pub open_runs : has_open it ≡ is_in_progress it.status
  open_runs = All-contains (λ job. has_open job ≡ is_in_progress job.status) kept.jobs it are.running (front_in kept.jobs it is).0

-- where a job and a file are next, their Continue is
pub next_continue : (kept : Kept) → AreJobs kept → (job feed : ℕ) (it : Job) (of : Feed) → AreNext kept.jobs job feed it of → work_of kept.jobs ≡ Continue job feed of.taken
next_continue kept are job feed it of next =
    let running : is_in_progress it.status ≡ true = sym (open_runs kept are it next.0) ∙ some_first it.feeds (feed - 1) of next.3 in
    let at : 1 + (feed - 1) ≡ feed = omega (arith, next.2) in
    ap (job_work kept.jobs) next.0
    ∙ ap (λ b. cond b (Plan it.number (number_of (goes_on_from kept.jobs it.number)) (lacks_previous kept.jobs it)) (file_work it (first_open 1 it.feeds))) (running_begun it.status running)
    ∙ ap (file_work it) (first_found 1 it.feeds (feed - 1) of next.3)
    ∙ (λ i. Continue (next.1 i) (at i) of.taken)

-- ---- a job is planned

-- what is planned where a Plan is next
pub record IsToPlan (jobs : List Job) (job previous : ℕ) (no_previous : Bool) : Type 0 where
  pub it : Job
  pub front : front_job jobs ≡ Some it
  pub number : it.number ≡ job
  pub waits : is_to_start it.status ≡ true
  pub previous_is : previous ≡ number_of (goes_on_from jobs job)
  pub lacks : lacks_previous jobs it ≡ no_previous

pub plan_is : (jobs : List Job) (job previous : ℕ) (no_previous : Bool) → work_of jobs ≡ Plan job previous no_previous → IsToPlan jobs job previous no_previous
plan_is jobs job previous no_previous h = by_front (front_job jobs) refl h where
  by_file : (it : Job) (o : Option Placed) → file_work it o ≡ Plan job previous no_previous → IsToPlan jobs job previous no_previous
  by_file it None h = absurd (cc)
  by_file it (Some next) h = absurd (cc)

  by_start : (it : Job) → front_job jobs ≡ Some it → (b : Bool) → is_to_start it.status ≡ b → cond b (Plan it.number (number_of (goes_on_from jobs it.number)) (lacks_previous jobs it)) (file_work it (first_open 1 it.feeds)) ≡ Plan job previous no_previous → IsToPlan jobs job previous no_previous
  by_start it is true to h =
      let number : it.number ≡ job = cc in
      let before : number_of (goes_on_from jobs it.number) ≡ previous = cc in
      let lacks : lacks_previous jobs it ≡ no_previous = cc in
      record { it = it; front = is; number = number; waits = to; previous_is = sym before ∙ ap (λ n. number_of (goes_on_from jobs n)) number; lacks = lacks }
  by_start it is false to h = by_file it (first_open 1 it.feeds) h

  by_front : (o : Option Job) → front_job jobs ≡ o → job_work jobs o ≡ Plan job previous no_previous → IsToPlan jobs job previous no_previous
  by_front None is h = absurd (cc)
  by_front (Some it) is h = by_start it is (is_to_start it.status) refl h

not_queued : (s : JobStatus) → is_to_start s ≡ true → is_in_queue s ≡ false → s ≡ NotStarted
not_queued NotStarted to out = refl
not_queued InQueue to out = absurd (true≢false out)
not_queued InProgress to out = absurd (true≢false (sym to))
not_queued Completed to out = absurd (true≢false (sym to))
not_queued CancelledByUser to out = absurd (true≢false (sym to))
not_queued Failed to out = absurd (true≢false (sym to))
not_queued DependencyNotSatisfied to out = absurd (true≢false (sym to))

-- the job at the front isn't started
pub plan_rests : (kept : Kept) → AreJobs kept → (it : Job) → front_job kept.jobs ≡ Some it → is_to_start it.status ≡ true → it.status ≡ NotStarted
plan_rests kept are it is to = not_queued it.status to (subst (λ (o : Option Job). IfSome o (λ job. waits job ≡ false)) is are.front)

-- ---- nothing is to be done

unended_runs : (s : JobStatus) → has_ended s ≡ false → is_to_start s ≡ false → is_in_progress s ≡ true
unended_runs NotStarted ended to = absurd (true≢false to)
unended_runs InQueue ended to = absurd (true≢false to)
unended_runs InProgress ended to = refl
unended_runs Completed ended to = absurd (true≢false ended)
unended_runs CancelledByUser ended to = absurd (true≢false ended)
unended_runs Failed ended to = absurd (true≢false ended)
unended_runs DependencyNotSatisfied ended to = absurd (true≢false ended)

not_true : (b : Bool) → not b ≡ true → b ≡ false
not_true true h = absurd (true≢false (sym h))
not_true false h = refl

-- no job is unended where nothing is to be done
pub idle_front : (kept : Kept) → AreJobs kept → work_of kept.jobs ≡ Idle → front_job kept.jobs ≡ None
idle_front kept are h = by_front (front_job kept.jobs) refl h where
  by_file : (it : Job) → front_job kept.jobs ≡ Some it → is_to_start it.status ≡ false → (o : Option Placed) → first_open 1 it.feeds ≡ o → file_work it o ≡ Idle → front_job kept.jobs ≡ None
  by_file it is to None opens h =
      let ended : has_ended it.status ≡ false = not_true (has_ended it.status) (front_in kept.jobs it is).1 in
      absurd (true≢false (sym (unended_runs it.status ended to) ∙ sym (open_runs kept are it is) ∙ none_first 1 it.feeds opens))
  by_file it is to (Some next) opens h = absurd (cc)

  by_start : (it : Job) → front_job kept.jobs ≡ Some it → (b : Bool) → is_to_start it.status ≡ b → cond b (Plan it.number (number_of (goes_on_from kept.jobs it.number)) (lacks_previous kept.jobs it)) (file_work it (first_open 1 it.feeds)) ≡ Idle → front_job kept.jobs ≡ None
  by_start it is true to h = absurd (cc)
  by_start it is false to h = by_file it is to (first_open 1 it.feeds) refl h

  by_front : (o : Option Job) → front_job kept.jobs ≡ o → job_work kept.jobs o ≡ Idle → front_job kept.jobs ≡ None
  by_front None is h = is
  by_front (Some it) is h = by_start it is (is_to_start it.status) refl h

-- and the other way
pub front_idle : (jobs : List Job) → front_job jobs ≡ None → work_of jobs ≡ Idle
front_idle jobs none = ap (job_work jobs) none
