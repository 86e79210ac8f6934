-- A list of entries that grows by entries made over the same files.
use Rattle.std.specs.Prelude.{◌≡◌, ◌≢◌, ℕ, ◌+◌, List, [], ◌∷◌, ◌++◌, Some, None, ◌⊎◌}
use Rattle.bl_files.specs.declared.found.Found.{Found}
use Rattle.bl_files.specs.declared.plan_result.PlanResult.TheVariants as plan
use Rattle.bl_outside.specs.Folders.{Files}
use Rattle.bl_queue.specs.declared.job.Job.{Job}
use Rattle.bl_queue.specs.Jobs.{front_job}
use Rattle.bl_queue.specs.Runs.{goes_on_from}
use Rattle.bl_entry.specs.declared.entry.Entry.{Entry}
use Rattle.bl_entry.specs.declared.entry.Entry.TheVariants.{Submit, Cancel, Start, Batch, FeedEnd as End}
use Rattle.bl_world.specs.States.{AreNew}
use Rattle.bl_world.specs.Worlds.{IsWorldOf, Step, World, changes_of, job_number}
use Rattle.bl_chain.specs.Tables.{Table}
use Rattle.bl_chain.specs.Chains.{Chain, HaveSameOptions, IsUnchanged, Stands, begun_chain}
use Rattle.bl_chain.specs.Folders.{AreTablesOf, Folder}
use Rattle.bl_chain.specs.MadeEntries.{IsMade}

-- The load of this number, and those that it goes on from, were made over the files that are told of its source.
pub record Unchanged (folder : Folder) (entries : List Entry) (world : World) (job : ℕ) (chain : Chain) : Type 0 where
  pub tables : List Table
  pub told : folder chain.request.source tables
  pub is : IsUnchanged tables entries world job chain

-- ---- one entry more

-- the chain after an entry that starts none of its loads: a batch of its last load adds rows
abbrev pub IsNextChain : ℕ → Chain → Entry → Chain → Type 0
IsNextChain job earlier (Batch moment number place from rows digest duplicates logs changes) chain =
    ((number ≡ job) × (chain ≡ record earlier { rows = earlier.rows + rows })) ⊎ ((number ≢ job) × (chain ≡ earlier))
IsNextChain job earlier (End moment number place how) chain = chain ≡ earlier
IsNextChain job earlier (Cancel moment number) chain = chain ≡ earlier
IsNextChain job earlier (Start moment number planned) chain = chain ≡ earlier
IsNextChain job earlier (Submit moment number id request) chain = chain ≡ earlier

-- it is no commit of another load
abbrev pub IsQuiet : ℕ → Entry → Type 0
IsQuiet job entry = job_number entry ≢ job → changes_of entry ≡ []

-- the load goes on
abbrev pub UnchangedGoesOn : Folder → Type 0
UnchangedGoesOn folder =
    (entries : List Entry) (before world : World) (job : ℕ) (chain next : Chain) (entry : Entry)
    → Unchanged folder entries before job chain
    → Step before entry world
    → IsMade folder before entry
    → IsQuiet job entry
    → IsNextChain job chain entry next
    → Unchanged folder (entry ∷ entries) world job next

-- another load goes on from it
abbrev pub UnchangedContinues : Folder → Type 0
UnchangedContinues folder =
    (entries : List Entry) (before world : World) (job number moment : ℕ) (found : List Found) (chain : Chain) (it older : Job)
    → Unchanged folder entries before job chain
    → Step before (Start moment number (plan.Feeds found)) world
    → IsMade folder before (Start moment number (plan.Feeds found))
    → front_job before.kept.jobs ≡ Some it
    → goes_on_from before.kept.jobs number ≡ Some older
    → older.number ≡ job
    → HaveSameOptions chain.request it.request
    → Unchanged folder (Start moment number (plan.Feeds found) ∷ entries) world number (record chain { request = it.request })

-- a load begins, which goes on from none
abbrev pub UnchangedBegins : Folder → Type 0
UnchangedBegins folder =
    (entries : List Entry) (before world : World) (number moment : ℕ) (found : List Found) (it : Job)
    → IsWorldOf entries before
    → Step before (Start moment number (plan.Feeds found)) world
    → IsMade folder before (Start moment number (plan.Feeds found))
    → front_job before.kept.jobs ≡ Some it
    → goes_on_from before.kept.jobs number ≡ None
    → Unchanged folder (Start moment number (plan.Feeds found) ∷ entries) world number (begun_chain before it)

pub record KeepsUnchanged (folder : Folder) : Type 0 where
  pub goes_on : UnchangedGoesOn folder
  pub continues : UnchangedContinues folder
  pub begins : UnchangedBegins folder

-- One entry more keeps a load unchanged.
abbrev pub OneEntryMore : Type 0
OneEntryMore = (files : Files) → KeepsUnchanged (AreTablesOf files)

-- ---- any number of entries more

-- The older list leads to the world, in which the entry starts a load. It goes on from none.
abbrev pub MayBegin : List Entry → World → Entry → ℕ → Chain → Type 0
MayBegin older before entry job chain =
    IsWorldOf older before
    × (moment : ℕ) × (found : List Found) × (it : Job)
    × (entry ≡ Start moment job (plan.Feeds found))
    × (front_job before.kept.jobs ≡ Some it)
    × (goes_on_from before.kept.jobs job ≡ None)
    × (chain ≡ begun_chain before it)

-- The entry starts a load in this world, which goes on from another with the same options.
abbrev pub MayContinue : World → Entry → ℕ → ℕ → Chain → Chain → Type 0
MayContinue before entry job previous earlier chain =
    (moment : ℕ) × (found : List Found) × (it : Job) × (older : Job)
    × (entry ≡ Start moment job (plan.Feeds found))
    × (front_job before.kept.jobs ≡ Some it)
    × (goes_on_from before.kept.jobs job ≡ Some older)
    × (older.number ≡ previous)
    × HaveSameOptions earlier.request it.request
    × (chain ≡ record earlier { request = it.request })

-- What is asked of a load of the grown list. Where it, or one that it goes on from, had started before, the older list
-- was unchanged of that one. Since the first of them started no other load commits, and all have the same options.
abbrev pub MayResume : Folder → List Entry → List Entry → World → ℕ → Chain → Type 0
MayResume folder old [] world job chain = Unchanged folder old world job chain
MayResume folder old (entry ∷ new) world job chain =
    (before : World) × Step before entry world × (
    MayBegin (new ++ old) before entry job chain
    ⊎ (((previous : ℕ) × (earlier : Chain) × MayResume folder old new before previous earlier × MayContinue before entry job previous earlier chain)
    ⊎ ((earlier : Chain) × MayResume folder old new before job earlier × IsQuiet job entry × IsNextChain job earlier entry chain))
    )

-- then it comes to what one uninterrupted load comes to
abbrev pub Resumes : Folder → Type 0
Resumes folder =
    (old new : List Entry) (world : World) (job : ℕ) (chain : Chain)
    → AreNew (IsMade folder) old new
    → MayResume folder old new world job chain
    → (unchanged : Unchanged folder (new ++ old) world job chain) × Stands unchanged.tables world job chain

-- A load that was stopped, cancelled and resumed over the same files comes to what one uninterrupted load comes to.
abbrev pub LoadsResume : Type 0
LoadsResume = (files : Files) → Resumes (AreTablesOf files)
