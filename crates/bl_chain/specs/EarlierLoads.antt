-- Loads that were started before.
use Rattle.std.specs.Prelude.{◌≡◌, ℕ, true, List, ◌++◌, Some, Contains}
use Rattle.bl_outside.specs.declared.digest.Digest.{Digest}
use Rattle.bl_value.specs.declared.change.Change.{Change}
use Rattle.bl_files.specs.declared.log.Log.{Log}
use Rattle.bl_queue.specs.declared.job.Job.{Job}
use Rattle.bl_queue.specs.declared.job_status.JobStatus.TheVariants.{DependencyNotSatisfied}
use Rattle.bl_queue.specs.Jobs.{front_job}
use Rattle.bl_queue.specs.Runs.{goes_on_from}
use Rattle.bl_queue.specs.Statuses.{has_ended}
use Rattle.bl_entry.specs.declared.entry.Entry.{Entry}
use Rattle.bl_entry.specs.declared.entry.Entry.TheVariants.{Batch}
use Rattle.bl_world.specs.Worlds.{Fits, IsWorldOf, World}

-- The load that the first unended job goes on from has ended.
abbrev pub PreviousLoadsHaveEnded : Type 0
PreviousLoadsHaveEnded =
    (entries : List Entry) (world : World) (it older : Job)
    → IsWorldOf entries world
    → front_job world.kept.jobs ≡ Some it
    → goes_on_from world.kept.jobs it.number ≡ Some older
    → has_ended older.status ≡ true

-- So no later entry is a batch of it: a chain's rows are those of all batches of its loads.
abbrev pub NoBatchesBehind : Type 0
NoBatchesBehind =
    (newer older : List Entry) (before after : World) (it previous : Job) (moment place from rows : ℕ) (digest : Digest) (duplicates : ℕ) (logs : List Log) (changes : List Change)
    → IsWorldOf older before
    → IsWorldOf (newer ++ older) after
    → front_job before.kept.jobs ≡ Some it
    → goes_on_from before.kept.jobs it.number ≡ Some previous
    → ¬ Fits after (Batch moment previous.number place from rows digest duplicates logs changes)

-- Only a job that was never started ends because of another.
abbrev pub StartedJobsAreSatisfied : Type 0
StartedJobsAreSatisfied =
    (entries : List Entry) (world : World) (it : Job)
    → IsWorldOf entries world
    → Contains world.kept.jobs it
    → it.status ≡ DependencyNotSatisfied
    → it.run ≡ 0
