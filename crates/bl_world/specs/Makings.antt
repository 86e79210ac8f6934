-- The entry that a call appends, in the world that it finds.
use Rattle.std.specs.Prelude.{◌≡◌, ◌↔◌, ◌⊎◌, ◌≢◌, ℕ, ◌+◌, ◌<◌, ◌≤◌, ◌^◌, max, true, List, [], ◌∷◌, length, map, take, Some}
use Rattle.bl_outside.specs.declared.digest.Digest.{Digest}
use Rattle.bl_value.specs.declared.row.DigestRow.{DigestRow}
use Rattle.bl_files.specs.declared.feed.Feed.{Feed}
use Rattle.bl_files.specs.declared.feed_end.FeedEnd.{FeedEnd}
use Rattle.bl_files.specs.declared.feed_end.FeedEnd.TheVariants as ends
use Rattle.bl_files.specs.declared.load_request.LoadRequest.{LoadRequest}
use Rattle.bl_files.specs.declared.log.Log.{Log}
use Rattle.bl_files.specs.declared.plan_result.PlanResult.{PlanResult}
use Rattle.bl_files.specs.declared.plan_result.PlanResult.TheVariants as plan
use Rattle.bl_files.specs.Carried.{CarriedNumber, most_files}
use Rattle.bl_job.specs.declared.batch_result.BatchResult.{BatchResult}
use Rattle.bl_job.specs.Batches.{batch}
use Rattle.bl_job.specs.Joined.{behind}
use Rattle.bl_queue.specs.declared.job.Job.{Job}
use Rattle.bl_queue.specs.Jobs.{job_with_id}
use Rattle.bl_queue.specs.Runs.{HasRoom, feeds_of, goes_on_from}
use Rattle.bl_entry.specs.Encoding.{entry_bytes}
use Rattle.bl_entry.specs.declared.entry.Entry.{Entry}
use Rattle.bl_entry.specs.declared.entry.Entry.TheVariants.{Submit, Cancel, Start, Batch, FeedEnd as End}
use Rattle.bl_world.specs.LoadIds.{load_number}
use Rattle.bl_world.specs.Worlds.{AreNext, ArePlanned, Follows, World}
use Rattle.bl_world.specs.declared.work.Work.{Work}
use Rattle.bl_world.specs.declared.work.Work.TheVariants.{Idle, Plan, Continue}

-- the moment of an entry that is made now; moments never fall
abbrev pub next_moment : ℕ → World → ℕ
next_moment now world = max now world.moment

-- ---- a load is taken on, or cancelled

abbrev pub SubmitEntry : ℕ → LoadRequest → ℕ → World → Entry → Type 0
SubmitEntry salt request now world entry =
    entry ≡ Submit (next_moment now world) (world.kept.last + 1) (load_number salt (world.kept.last + 1)) request

abbrev pub CancelEntry : ℕ → ℕ → World → Entry → Type 0
CancelEntry id now world entry = (it : Job) × (job_with_id id world.kept.jobs ≡ Some it) × (entry ≡ Cancel (next_moment now world) it.number)

-- ---- a job is started

-- so many files would go on, and they are too many
abbrev pub HasTooMany : List Job → ℕ → PlanResult → ℕ → Type 0
HasTooMany jobs job (plan.Feeds found) n = CarriedNumber (feeds_of (goes_on_from jobs job)) found n × (most_files < n)
HasTooMany jobs job plan.NoPrevious n = ⊥
HasTooMany jobs job plan.SourceNotFound n = ⊥
HasTooMany jobs job plan.ListFault n = ⊥
HasTooMany jobs job (plan.TooManyFiles m) n = ⊥

-- the plan as it is recorded: of too many files only their number
abbrev pub IsRecordedAs : List Job → ℕ → PlanResult → PlanResult → Type 0
IsRecordedAs jobs job planned recorded =
    (HasRoom jobs job planned × (recorded ≡ planned)) ⊎ ((n : ℕ) × HasTooMany jobs job planned n × (recorded ≡ plan.TooManyFiles n))

abbrev pub PlanEntry : ℕ → PlanResult → ℕ → World → Entry → Type 0
PlanEntry job planned now world entry =
    (recorded : PlanResult) × IsRecordedAs world.kept.jobs job planned recorded × (entry ≡ Start (next_moment now world) job recorded)

-- ---- rows are taken, or a file ends

-- the digest behind these rows, where it was this one before them
abbrev pub digest_behind : Digest → List DigestRow → Digest
digest_behind digest [] = digest
digest_behind digest (row ∷ rows) = digest_behind row.digest rows

-- The file's rows are a batch, or the first of them stops the job.
abbrev pub IsRowsEntry : ℕ → ℕ → ℕ → Feed → List DigestRow → BatchResult → Entry → Type 0
IsRowsEntry moment job feed of rows made entry =
    ((made.rows ≢ 0) × (entry ≡ Batch moment job feed of.taken made.rows (digest_behind of.digest (take made.rows rows)) made.duplicates (map (behind of.taken) made.logs) made.changes))
    ⊎ ((made.rows ≡ 0) × (log : Log) × (made.stop ≡ Some log) × (entry ≡ End moment job feed (ends.Stopped (behind of.taken log))))

abbrev pub RowsEntry : ℕ → ℕ → List DigestRow → ℕ → World → Entry → Type 0
RowsEntry job feed rows now world entry =
    (it : Job) × (of : Feed) × AreNext world.kept.jobs job feed it of
    × IsRowsEntry (next_moment now world) job feed of rows (batch it.request world.graph rows).result entry

abbrev pub EndEntry : ℕ → ℕ → FeedEnd → ℕ → World → Entry → Type 0
EndEntry job feed how now world entry = entry ≡ End (next_moment now world) job feed how

-- The rows' entry may follow, and would have so many changes that its bytes don't fit a body.
abbrev pub HasLongEntry : ℕ → ℕ → List DigestRow → ℕ → World → Type 0
HasLongEntry job feed rows now world = (entry : Entry) × RowsEntry job feed rows now world entry × Follows world entry × (2 ^ 32 ≤ length (entry_bytes entry))

-- ---- what is handed in with the work

-- The work is the plan of this job, and this may be its plan: NoPrevious exactly where the work says so.
abbrev pub FitsPlan : Work → ℕ → PlanResult → Type 0
FitsPlan Idle job planned = ⊥
FitsPlan (Plan number previous no_previous) job planned = (number ≡ job) × ArePlanned planned × ((planned ≡ plan.NoPrevious) ↔ (no_previous ≡ true))
FitsPlan (Continue number feed from) job planned = ⊥

-- the work is on this file
abbrev pub IsOnFeed : Work → ℕ → ℕ → Type 0
IsOnFeed Idle job feed = ⊥
IsOnFeed (Plan number previous no_previous) job feed = ⊥
IsOnFeed (Continue number place from) job feed = (number ≡ job) × (place ≡ feed)

-- the file ends otherwise than by a record that was refused
abbrev pub IsUnstopped : FeedEnd → Type 0
IsUnstopped ends.Completed = Unit {0}
IsUnstopped (ends.Stopped log) = ⊥
IsUnstopped ends.ReadError = Unit {0}
IsUnstopped ends.Modified = Unit {0}
