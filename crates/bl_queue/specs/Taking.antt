-- What the list of jobs keeps beside its jobs: where the job stands whose rows were taken last.
use Rattle.std.specs.Prelude.{◌≡◌, ℕ, ◌≤◌, List, length, slice_get, IfSome, IsSomeAnd}
use Rattle.std.specs.declared.option.Option.{Option}
use Rattle.bl_files.specs.declared.feed.Feed.{Feed}
use Rattle.bl_files.specs.ErrorFeed.{most_logs, row_logs}
use Rattle.bl_queue.specs.declared.job.Job.{Job}
use Rattle.bl_queue.specs.declared.taking.Standing.{Standing}
use Rattle.bl_queue.specs.declared.taking.Taking.{Taking}
use Rattle.bl_queue.specs.Jobs.{AreJobs, Kept}

-- the files have so many logs, and no more than are kept
pub record HaveLogs (feeds : List Feed) (logs : ℕ) : Type 0 where
  pub few : logs ≤ most_logs
  pub are : length (row_logs feeds) ≡ logs

abbrev pub IsTaking : List Job → Taking → Type 0
IsTaking jobs taking = IsSomeAnd (slice_get jobs taking.place)
    (λ job. (job.number ≡ taking.number) × HaveLogs job.feeds taking.logs)

abbrev pub IsStanding : List Job → ℕ → Standing → Type 0
IsStanding jobs number standing =
    IsSomeAnd (slice_get jobs standing.place)
    (λ job. (job.number ≡ number) × IfSome standing.logs (HaveLogs job.feeds))

pub record AreKept (kept : Kept) (taking : Option Taking) : Type 0 where
  pub are : AreJobs kept
  pub known : IfSome taking (IsTaking kept.jobs)
