-- Parts of the rules by which an entry may follow, and of the world after it, as single functions have them.
use Rattle.std.specs.Prelude.{◌≡◌, ◌↔◌, ◌≢◌, ℕ, ◌+◌, ◌<◌, ◌≤◌, ◌^◌, true, List, [], ◌++◌, length, None}
use Rattle.std.specs.List.{All, AllPairs}
use Rattle.bl_value.specs.declared.row.DigestRow.{DigestRow}
use Rattle.bl_files.specs.declared.feed.Feed.{Feed}
use Rattle.bl_files.specs.declared.log.Log.{Log}
use Rattle.bl_files.specs.declared.plan_result.PlanResult.{PlanResult}
use Rattle.bl_files.specs.declared.plan_result.PlanResult.TheVariants as plan
use Rattle.bl_files.specs.Codes.{is_row_code}
use Rattle.bl_graph.specs.Graph.{Graph}
use Rattle.bl_job.specs.declared.batch_result.BatchResult.{BatchResult}
use Rattle.bl_job.specs.Batches.{batch as batch_of, so_far}
use Rattle.bl_job.specs.Batched.{CountsRows}
use Rattle.bl_queue.specs.declared.job.Job.{Job}
use Rattle.bl_queue.specs.declared.job_status.JobStatus.TheVariants.{NotStarted}
use Rattle.bl_queue.specs.Checks.{refusal}
use Rattle.bl_queue.specs.Jobs.{Kept, number_in}
use Rattle.bl_queue.specs.Runs.{MayCancel}
use Rattle.bl_entry.specs.declared.entry.Entry.{Entry}
use Rattle.bl_entry.specs.declared.entry.Entry.TheVariants.{Submit, Cancel, Start, Batch, FeedEnd as End}
use Rattle.bl_world.specs.declared.job_commit.JobCommit.{JobCommit}
use Rattle.bl_world.specs.Worlds.{AreNext, FitsEnd, FitsStart, World, lacks_previous}

-- The job of this number is to be started, and the plan says that no load is there to go on with where that is so.
abbrev pub MayBePlanned : List Job → ℕ → PlanResult → Job → Type 0
MayBePlanned jobs number planned it = (it.number ≡ number) × (it.status ≡ NotStarted) × ((planned ≡ plan.NoPrevious) ↔ (lacks_previous jobs it ≡ true))

-- so many rows behind these, with so many duplicates and logs
pub record AreCounted (from rows duplicates logs : ℕ) : Type 0 where
  pub some : 1 ≤ rows
  pub few : rows ≤ 1000
  pub room : from + rows < 2 ^ 48
  pub among : duplicates + logs ≤ rows

-- logs of rows, by their numbers
pub record AreRowLogs (from rows : ℕ) (logs : List Log) : Type 0 where
  pub codes : All (λ log. is_row_code log.code ≡ true) logs
  pub rise : AllPairs (λ a b. a.number < b.number) logs
  pub within : All (λ log. (from < log.number) × (log.number ≤ from + rows)) logs

-- so many rows of this file of the job, behind those taken, with what is told of them
pub record FitsFile (from rows duplicates : ℕ) (logs : List Log) (it : Job) (of : Feed) : Type 0 where
  pub from_is : from ≡ of.taken
  pub counted : AreCounted from rows duplicates (length logs)
  pub told : AreRowLogs from rows logs
  pub none : it.request.fail_on_error ≡ true → logs ≡ []

-- a batch may follow as far as the kept jobs know
pub record FitsRows (kept : Kept) (number feed from rows duplicates : ℕ) (logs : List Log) : Type 0 where
  pub it : Job
  pub of : Feed
  pub next : AreNext kept.jobs number feed it of
  pub file : FitsFile from rows duplicates logs it of

-- the rule of the entry's kind, but for its changes
abbrev pub FitsJobs : Kept → Entry → Type 0
FitsJobs kept (Submit moment job id request) = (job ≡ kept.last + 1) × (number_in id ≡ job) × (refusal kept request ≡ None)
FitsJobs kept (Cancel moment job) = MayCancel kept.jobs job
FitsJobs kept (Start moment job planned) = FitsStart kept job planned
FitsJobs kept (Batch moment job feed from rows digest duplicates logs changes) = FitsRows kept job feed from rows duplicates logs
FitsJobs kept (End moment job feed how) = FitsEnd kept job feed how

-- one entry more, of this moment and with these commits
pub record IsOneMore (at : ℕ) (more : List JobCommit) (old new : World) : Type 0 where
  pub entries : new.entries ≡ old.entries + 1
  pub moment : new.moment ≡ at
  pub graph : new.graph ≡ old.graph
  pub commits : new.commits ≡ old.commits ++ more

-- what the rows of this file came to in the graph, and the graph behind them
pub record IsMade (jobs : List Job) (graph : Graph) (number feed : ℕ) (rows : List DigestRow) (next : Graph) (made : BatchResult) : Type 0 where
  pub it : Job
  pub of : Feed
  pub front : AreNext jobs number feed it of
  pub batch : so_far next made ≡ batch_of it.request graph rows

-- The counts and logs of a batch stand to its rows as they always do.
pub record AreCountsOf (rows : List DigestRow) (made : BatchResult) : Type 0 where
  pub counts : CountsRows rows made
  pub within : All (λ log. log.number ≤ made.rows) made.logs

-- Rows were taken, and made more changes than an entry's bytes can count.
pub record HasMany (made : BatchResult) : Type 0 where
  pub some : made.rows ≢ 0
  pub many : 2 ^ 32 ≤ length made.changes
