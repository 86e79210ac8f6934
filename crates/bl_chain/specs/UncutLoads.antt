-- Loads over told files that aren't cut off.
use Rattle.std.specs.Prelude.{◌≡◌, ◌≢◌, ℕ, true, List, [], ◌∷◌, ◌++◌, Contains, ◌⊎◌}
use Rattle.bl_files.specs.declared.feed_end.FeedEnd.TheVariants as end
use Rattle.bl_outside.specs.Folders.{Files}
use Rattle.bl_queue.specs.declared.job.Job.{Job}
use Rattle.bl_queue.specs.declared.job_status.JobStatus.TheVariants.{CancelledByUser}
use Rattle.bl_queue.specs.Statuses.{has_ended}
use Rattle.bl_entry.specs.declared.entry.Entry.{Entry}
use Rattle.bl_entry.specs.declared.entry.Entry.TheVariants.{Submit, Cancel, Start, Batch, FeedEnd as End}
use Rattle.bl_world.specs.States.{AreNew}
use Rattle.bl_world.specs.Worlds.{Step, World}
use Rattle.bl_chain.specs.Tables.{Table}
use Rattle.bl_chain.specs.Chains.{Chain}
use Rattle.bl_chain.specs.WholeEnds.{EndsWhole, IsUncut}
use Rattle.bl_chain.specs.Folders.{AreTablesOf, Folder}
use Rattle.bl_chain.specs.MadeEntries.{IsMade}
use Rattle.bl_chain.specs.Resumption.{IsNextChain, IsQuiet, MayBegin, MayContinue, MayResume}

-- The load of this number was made over the files that are told of its source, and wasn't cut off.
pub record Uncut (folder : Folder) (entries : List Entry) (world : World) (job : ℕ) (chain : Chain) : Type 0 where
  pub tables : List Table
  pub told : folder chain.request.source tables
  pub is : IsUncut tables entries world job chain

-- the entry neither cancels the load nor ends a file of it that could not be read
abbrev pub IsNoCut : ℕ → Entry → Type 0
IsNoCut job (Cancel moment number) = number ≢ job
IsNoCut job (End moment number place end.ReadError) = number ≢ job
IsNoCut job (End moment number place end.Completed) = Unit {0}
IsNoCut job (End moment number place end.Modified) = Unit {0}
IsNoCut job (End moment number place (end.Stopped log)) = Unit {0}
IsNoCut job (Submit moment number id request) = Unit {0}
IsNoCut job (Start moment number planned) = Unit {0}
IsNoCut job (Batch moment number place from rows digest duplicates logs changes) = Unit {0}

-- One entry more, made over the same files, keeps a load uncut that it doesn't cut off.
abbrev pub UncutGoesOn : Type 0
UncutGoesOn =
    (files : Files) (entries : List Entry) (before world : World) (job : ℕ) (chain next : Chain) (entry : Entry)
    → Uncut (AreTablesOf files) entries before job chain
    → Step before entry world
    → IsMade (AreTablesOf files) before entry
    → IsQuiet job entry
    → IsNoCut job entry
    → IsNextChain job chain entry next
    → Uncut (AreTablesOf files) (entry ∷ entries) world job next

-- ---- any number of entries more

-- What is asked of a load of the grown list that is to end whole: the same as of one that resumes, and that nothing cut
-- it off. Those that it goes on from may have been cut off.
abbrev pub MayEndWhole : Folder → List Entry → List Entry → World → ℕ → Chain → Type 0
MayEndWhole folder old [] world job chain = Uncut folder old world job chain
MayEndWhole folder old (entry ∷ new) world job chain =
    (before : World) × Step before entry world × (
    MayBegin (new ++ old) before entry job chain
    ⊎ (((previous : ℕ) × (earlier : Chain) × MayResume folder old new before previous earlier × MayContinue before entry job previous earlier chain)
    ⊎ ((earlier : Chain) × MayEndWhole folder old new before job earlier × IsQuiet job entry × IsNoCut job entry × IsNextChain job earlier entry chain))
    )

-- Where it has ended, and not by its cancel, it has ended as one uninterrupted load.
abbrev pub UncutLoadsResume : Type 0
UncutLoadsResume =
    (files : Files) (old new : List Entry) (world : World) (job : ℕ) (chain : Chain)
    → AreNew (IsMade (AreTablesOf files)) old new
    → MayEndWhole (AreTablesOf files) old new world job chain
    → (uncut : Uncut (AreTablesOf files) (new ++ old) world job chain) × ((it : Job)
    → Contains world.kept.jobs it
    → it.number ≡ job
    → has_ended it.status ≡ true
    → it.status ≢ CancelledByUser
    → EndsWhole uncut.tables chain it)
