-- Entries that are made over the same files: each is one of a turn, or one that no file decides.
use Rattle.std.specs.Prelude.{◌≡◌, ℕ, List, Some}
use Rattle.bl_files.specs.declared.feed.Feed.{Feed}
use Rattle.bl_files.specs.declared.plan_result.PlanResult.{PlanResult}
use Rattle.bl_files.specs.declared.plan_result.PlanResult.TheVariants as plan
use Rattle.bl_outside.specs.Folders.{Files}
use Rattle.bl_queue.specs.declared.job.Job.{Job}
use Rattle.bl_queue.specs.Jobs.{front_job}
use Rattle.bl_queue.specs.Runs.{feeds_of, goes_on_from}
use Rattle.bl_entry.specs.declared.entry.Entry.{Entry}
use Rattle.bl_entry.specs.declared.entry.Entry.TheVariants.{Submit, Cancel, Start, Batch, FeedEnd as End}
use Rattle.bl_world.specs.Worlds.{AreNext, World}
use Rattle.bl_chain.specs.Tables.{Table}
use Rattle.bl_chain.specs.Turns.{IsBatchOf, IsEndMade, IsPlanOf}
use Rattle.bl_chain.specs.Folders.{AreTablesOf, Folder}
use Rattle.bl_chain.specs.NextEntries.{IsTurn}

-- a plan of files has those of the source; any other may be any
abbrev pub IsPlanMade : Folder → World → ℕ → Job → PlanResult → Type 0
IsPlanMade folder before number it (plan.Feeds found) =
    (tables : List Table) × folder it.request.source tables × IsPlanOf tables (feeds_of (goes_on_from before.kept.jobs number)) found
IsPlanMade folder before number it plan.NoPrevious = Unit {0}
IsPlanMade folder before number it plan.SourceNotFound = Unit {0}
IsPlanMade folder before number it plan.ListFault = Unit {0}
IsPlanMade folder before number it (plan.TooManyFiles n) = Unit {0}

-- A batch may be one of any number of next rows, and a file that can't be read may end at any time. Where the source is
-- gone no files are told, and nothing is asked of a batch or an end.
abbrev pub IsMade : Folder → World → Entry → Type 0
IsMade folder before (Submit moment job id request) = Unit {0}
IsMade folder before (Cancel moment job) = Unit {0}
IsMade folder before (Start moment number planned) = (it : Job) → front_job before.kept.jobs ≡ Some it → IsPlanMade folder before number it planned
IsMade folder before (Batch moment number place from rows digest duplicates logs changes) =
    (it : Job) (feed : Feed)
    → AreNext before.kept.jobs number place it feed
    → (tables : List Table)
    → folder it.request.source tables
    → IsBatchOf tables it.request before.graph feed from rows digest duplicates logs changes
IsMade folder before (End moment number place how) =
    (it : Job) (feed : Feed)
    → AreNext before.kept.jobs number place it feed
    → (tables : List Table)
    → folder it.request.source tables
    → IsEndMade tables it before.graph feed how

-- The entry of a turn is one of them.
abbrev pub TurnsAreMade : Type 0
TurnsAreMade =
    (files : Files) (before : World) (now : ℕ) (entry : Entry)
    → IsTurn (AreTablesOf files) before now entry
    → IsMade (AreTablesOf files) before entry
