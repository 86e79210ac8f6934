-- The entry of a loader's turn.
use Rattle.std.specs.Prelude.{◌≡◌, ◌≢◌, ℕ, ◌<◌, ◌≤◌, Bool, true, false, if◌then◌else◌, List, [], ◌∷◌, drop, length, Some, ◌⊎◌}
use Rattle.bl_value.specs.declared.row.DigestRow.{DigestRow}
use Rattle.bl_files.specs.declared.feed.Feed.{Feed}
use Rattle.bl_files.specs.declared.feed_end.FeedEnd.{FeedEnd}
use Rattle.bl_files.specs.declared.feed_end.FeedEnd.TheVariants as end
use Rattle.bl_files.specs.declared.plan_result.PlanResult.{PlanResult}
use Rattle.bl_files.specs.declared.plan_result.PlanResult.TheVariants as plan
use Rattle.bl_files.specs.Carried.{most_files}
use Rattle.bl_files.specs.Plans.{HasRisingNames}
use Rattle.bl_outside.specs.Folders.{Files}
use Rattle.bl_queue.specs.declared.job.Job.{Job}
use Rattle.bl_queue.specs.Jobs.{front_job}
use Rattle.bl_queue.specs.Runs.{feeds_of, goes_on_from}
use Rattle.bl_queue.specs.Statuses.{is_to_start}
use Rattle.bl_entry.specs.declared.entry.Entry.{Entry}
use Rattle.bl_world.specs.Makings.{EndEntry, PlanEntry, RowsEntry}
use Rattle.bl_world.specs.Worlds.{AreNext, IsWorldOf, World, lacks_previous}
use Rattle.bl_chain.specs.declared.batch_size.BatchSize.{BatchSize}
use Rattle.bl_chain.specs.Tables.{Table}
use Rattle.bl_chain.specs.BatchSizes.{is_full, no_rows, with_row}
use Rattle.bl_chain.specs.Turns.{GoesOn, IsEndOf, IsPlanOf}
use Rattle.bl_chain.specs.Folders.{AreTablesOf, Folder}

-- ---- plans

-- What is found at the source of a load that goes on from these feeds. The first that holds: it is to go on from a load
-- and there is none; the source is neither a file nor a folder; too many names are listed; the files, by their names.
abbrev pub IsFoundPlan : Folder → List ℕ → Bool → List Feed → PlanResult → Type 0
IsFoundPlan folder source no_previous previous plan.NoPrevious = no_previous ≡ true
IsFoundPlan folder source no_previous previous plan.SourceNotFound = (no_previous ≡ false) × ((tables : List Table) → ¬ folder source tables)
IsFoundPlan folder source no_previous previous (plan.TooManyFiles number) =
    (no_previous ≡ false) × (tables : List Table) × folder source tables × (most_files < length tables) × (number ≡ length tables)
IsFoundPlan folder source no_previous previous (plan.Feeds found) =
    (no_previous ≡ false) × (tables : List Table) × folder source tables × (length tables ≤ most_files) × IsPlanOf tables previous found × HasRisingNames (plan.Feeds found)
IsFoundPlan folder source no_previous previous plan.ListFault = ⊥

-- ---- batches

-- the rows of a batch of this size so far, with the bytes of each
abbrev pub batch_from : BatchSize → List DigestRow → List ℕ → List DigestRow
batch_from size [] sizes = []
batch_from size (row ∷ rows) [] = []
batch_from size (row ∷ rows) (bytes ∷ sizes) =
    row ∷ (if is_full (with_row size row.row bytes) then [] else batch_from (with_row size row.row bytes) rows sizes)

-- The rows behind those that were taken, up to the one with which the batch is full, or all of them.
abbrev pub next_batch : Table → ℕ → List DigestRow
next_batch table taken = batch_from no_rows (drop taken table.rows) (drop taken table.sizes)

-- these rows come next, and there is one
abbrev pub IsNextRows : List Table → Feed → List DigestRow → Type 0
IsNextRows tables feed rows = (table : Table) × GoesOn tables feed table × (rows ≡ next_batch table feed.taken) × (rows ≢ [])

-- ---- turns

-- An end that the files of the source alone decide: all records are taken, or no told file goes on. Where the source is
-- gone no files are told, and so the file is modified.
abbrev pub IsDecidedEnd : Folder → List ℕ → Feed → FeedEnd → Type 0
IsDecidedEnd folder source of end.Completed = (tables : List Table) × folder source tables × IsEndOf tables of end.Completed
IsDecidedEnd folder source of end.Modified = (tables : List Table) → folder source tables → (table : Table) → ¬ GoesOn tables of table
IsDecidedEnd folder source of end.ReadError = ⊥
IsDecidedEnd folder source of (end.Stopped log) = ⊥

-- the first unended job is started
abbrev pub IsPlanTurn : Folder → World → ℕ → Entry → Type 0
IsPlanTurn folder before now entry =
    (it : Job) × (front_job before.kept.jobs ≡ Some it) × (is_to_start it.status ≡ true)
    × (planned : PlanResult)
    × IsFoundPlan folder it.request.source (lacks_previous before.kept.jobs it) (feeds_of (goes_on_from before.kept.jobs it.number)) planned
    × PlanEntry it.number planned now before entry

-- the file ends, completed or modified
abbrev pub IsEndTurn : Folder → List ℕ → ℕ → ℕ → Feed → World → ℕ → Entry → Type 0
IsEndTurn folder source number place of before now entry = (how : FeedEnd) × IsDecidedEnd folder source of how × EndEntry number place how now before entry

-- Or its next rows are taken, before the first of them that stops the load. Where the first one does, it ends the file.
abbrev pub IsRowsTurn : Folder → List ℕ → ℕ → ℕ → Feed → World → ℕ → Entry → Type 0
IsRowsTurn folder source number place of before now entry =
    (tables : List Table) × folder source tables × (rows : List DigestRow) × IsNextRows tables of rows × RowsEntry number place rows now before entry

-- the first unended file of the running job goes on
abbrev pub IsFileTurn : Folder → World → ℕ → Entry → Type 0
IsFileTurn folder before now entry =
    (number : ℕ) × (place : ℕ) × (it : Job) × (of : Feed)
    × AreNext before.kept.jobs number place it of
    × (IsEndTurn folder it.request.source number place of before now entry ⊎ IsRowsTurn folder it.request.source number place of before now entry)

-- The entry that a turn appends in this world.
abbrev pub IsTurn : Folder → World → ℕ → Entry → Type 0
IsTurn folder before now entry = IsPlanTurn folder before now entry ⊎ IsFileTurn folder before now entry

-- There is one at most.
abbrev pub OneTurn : Type 0
OneTurn =
    (files : Files) (entries : List Entry) (before : World) (now : ℕ) (a b : Entry)
    → IsWorldOf entries before
    → IsTurn (AreTablesOf files) before now a
    → IsTurn (AreTablesOf files) before now b
    → a ≡ b
