-- What is prepared for a turn.
use Rattle.std.specs.Prelude.{◌≡◌, ◌≢◌, ◌↔◌, ◌≤◌, ◌<◌, ◌^◌, ℕ, ◌+◌, Bool, true, false, List, [], length, None, Some, IfSome}
use Rattle.std.specs.declared.option.Option.{Option}
use Rattle.std.specs.FinMap.{get}
use Rattle.bl_outside.specs.Folders.{Files, HasInside}
use Rattle.bl_value.specs.declared.row.DigestRow.{DigestRow}
use Rattle.bl_files.specs.Sources.{path_of}
use Rattle.bl_files.specs.declared.feed.Feed.{Feed}
use Rattle.bl_files.specs.declared.feed_end.FeedEnd.{FeedEnd}
use Rattle.bl_files.specs.declared.feed_end.FeedEnd.TheVariants as end
use Rattle.bl_files.specs.declared.load_request.LoadRequest.{LoadRequest}
use Rattle.bl_files.specs.declared.plan_result.PlanResult.{PlanResult}
use Rattle.bl_files.specs.declared.plan_result.PlanResult.TheVariants as plan
use Rattle.bl_world.specs.declared.task.Task.{Task}
use Rattle.bl_world.specs.declared.work.Work.{Work}
use Rattle.bl_world.specs.declared.work.Work.TheVariants as work
use Rattle.bl_world.specs.Makings.{IsUnstopped}
use Rattle.bl_engine.specs.Findings.{EndsFile, PlansWork, TakesRows}
use Rattle.bl_chain.specs.Tables.{Table}
use Rattle.bl_chain.specs.NextEntries.{next_batch}
use Rattle.bl_job.specs.Batched.{AreValidRows}
use Rattle.bl_rows.specs.Contents.{Fields}
use Rattle.bl_load.specs.Batching.{TakesNext}
use Rattle.bl_load.specs.SourceFiles.{IsFileAt, IsFileOf}
use Rattle.bl_load.specs.Planning.{IsPlanOfNames}
use Rattle.bl_load.specs.Resuming.{IsStill}
use Rattle.bl_load.specs.declared.open_file.OpenFile.{OpenFile}
use Rattle.bl_load.specs.declared.prepared.Prepared.{Prepared}
use Rattle.bl_load.specs.declared.prepared.Prepared.TheVariants.{Nothing, Plan, Rows, End}

-- ---- a plan

-- neither a file nor a folder
abbrev pub IsNowhere : Files → List ℕ → Type 0
IsNowhere files source = (path : List ℕ) → path_of source ≡ Some path → (get files path ≡ None) × ¬ HasInside files path

-- The plan of a source, for a load that goes on with these feeds. The first that holds: it is to go on with a load and
-- there is none; nothing is at the source; too many names are listed; the files, by their names.
abbrev pub IsPlanFor : Files → List ℕ → Bool → List Feed → PlanResult → Type 0
IsPlanFor files source no_previous previous plan.NoPrevious = no_previous ≡ true
IsPlanFor files source no_previous previous plan.SourceNotFound = (no_previous ≡ false) × IsNowhere files source
IsPlanFor files source no_previous previous (plan.TooManyFiles number) =
    (no_previous ≡ false) × (path : List ℕ) × (path_of source ≡ Some path) × IsPlanOfNames files path previous (plan.TooManyFiles number)
IsPlanFor files source no_previous previous (plan.Feeds found) =
    (no_previous ≡ false) × (path : List ℕ) × (path_of source ≡ Some path) × IsPlanOfNames files path previous (plan.Feeds found)
IsPlanFor files source no_previous previous plan.ListFault = Unit {0}

-- ---- a file that goes on

-- the rows that come next, up to the one with which the batch is full
abbrev pub AreRowsFor : Files → List ℕ → Feed → List DigestRow → Type 0
AreRowsFor files source feed rows =
    (table : Table) × IsFileOf files source feed.name table × IsStill feed table × (rows ≡ next_batch table feed.taken) × (rows ≢ [])

-- all records are taken, or no file is still the one that the feed was begun with
abbrev pub IsEndFor : Files → List ℕ → Feed → FeedEnd → Type 0
IsEndFor files source feed end.Completed = (table : Table) × IsFileOf files source feed.name table × IsStill feed table × (feed.taken ≡ length table.rows)
IsEndFor files source feed end.Modified = (table : Table) → IsFileOf files source feed.name table → ¬ IsStill feed table
IsEndFor files source feed end.ReadError = Unit {0}
IsEndFor files source feed (end.Stopped log) = ⊥

-- the same of the file of the feed's name at a path
abbrev pub AreRowsAt : Files → List ℕ → Feed → List DigestRow → Type 0
AreRowsAt files path feed rows =
    (table : Table) × IsFileAt files path feed.name table × IsStill feed table × (rows ≡ next_batch table feed.taken) × (rows ≢ [])

abbrev pub IsEndAt : Files → List ℕ → Feed → FeedEnd → Type 0
IsEndAt files path feed end.Completed = (table : Table) × IsFileAt files path feed.name table × IsStill feed table × (feed.taken ≡ length table.rows)
IsEndAt files path feed end.Modified = (table : Table) → IsFileAt files path feed.name table → ¬ IsStill feed table
IsEndAt files path feed end.ReadError = Unit {0}
IsEndAt files path feed (end.Stopped log) = ⊥

abbrev pub IsForFileAt : Files → List ℕ → Feed → Prepared → Type 0
IsForFileAt files path feed Nothing = ⊥
IsForFileAt files path feed (Plan planned) = ⊥
IsForFileAt files path feed (Rows rows) = AreRowsAt files path feed rows
IsForFileAt files path feed (End how) = IsEndAt files path feed how

-- An open file gives its next rows, and is held then, or it has ended.
abbrev pub GoesOnWith : Fields → List Fields → OpenFile → Option OpenFile → Prepared → Type 0
GoesOnWith header records file held Nothing = ⊥
GoesOnWith header records file held (Plan planned) = ⊥
GoesOnWith header records file held (Rows rows) =
    (new : OpenFile) × (held ≡ Some new) × TakesNext header records file new rows × (rows ≢ [])
GoesOnWith header records file held (End how) = (how ≡ end.Completed) × (file.taken ≡ length records) × (held ≡ None)

-- It may be committed for a file of which so many records were taken.
abbrev pub MayFollow : ℕ → Prepared → Type 0
MayFollow taken Nothing = ⊥
MayFollow taken (Plan planned) = ⊥
MayFollow taken (Rows rows) = AreValidRows rows × (1 ≤ length rows) × (length rows ≤ 1000) × (taken + length rows < 2 ^ 48)
MayFollow taken (End how) = IsUnstopped how

-- ---- any work

abbrev pub IsForPlan : Files → Task → LoadRequest → Prepared → Type 0
IsForPlan files task request Nothing = ⊥
IsForPlan files task request (Plan planned) = IsPlanFor files request.source task.no_previous task.previous planned
IsForPlan files task request (Rows rows) = ⊥
IsForPlan files task request (End how) = ⊥

abbrev pub IsForFile : Files → List ℕ → Feed → Prepared → Type 0
IsForFile files source feed Nothing = ⊥
IsForFile files source feed (Plan planned) = ⊥
IsForFile files source feed (Rows rows) = AreRowsFor files source feed rows
IsForFile files source feed (End how) = IsEndFor files source feed how

-- What is prepared for a task, where the files are told. Faults of the folder may come in place of it.
abbrev pub IsForWork : Files → Task → Work → Prepared → Type 0
IsForWork files task work.Idle prepared = prepared ≡ Nothing
IsForWork files task (work.Plan job previous no_previous) prepared = IfSome task.request (λ request. IsForPlan files task request prepared)
IsForWork files task (work.Continue job feed from) prepared = IfSome task.request (λ request. IfSome task.feed (λ of. IsForFile files request.source of prepared))

abbrev pub Prepares : Files → Task → Prepared → Type 0
Prepares files task prepared = IsForWork files task task.work prepared

-- ---- what may be committed

-- What is prepared meets the condition of the engine's call. Nothing is prepared just where there is no work.
abbrev pub MayCommit : Work → Prepared → Type 0
MayCommit is Nothing = is ≡ work.Idle
MayCommit is (Plan planned) = PlansWork is planned
MayCommit is (Rows rows) = TakesRows is rows
MayCommit is (End how) = EndsFile is how

-- the folder failed
abbrev pub is_fault : Prepared → Bool
is_fault Nothing = false
is_fault (Plan plan.ListFault) = true
is_fault (Plan (plan.Feeds found)) = false
is_fault (Plan plan.NoPrevious) = false
is_fault (Plan plan.SourceNotFound) = false
is_fault (Plan (plan.TooManyFiles number)) = false
is_fault (Rows rows) = false
is_fault (End end.ReadError) = true
is_fault (End end.Completed) = false
is_fault (End end.Modified) = false
is_fault (End (end.Stopped log)) = false

abbrev pub is_plan : Prepared → Bool
is_plan Nothing = false
is_plan (Plan planned) = true
is_plan (Rows rows) = false
is_plan (End how) = false
