-- What a load comes to, over an engine and over a store.
use Rattle.std.specs.Prelude.{◌≡◌, ◌⊎◌, ◌≤◌, ℕ, true, List, Err}
use Rattle.std.specs.declared.option.Option.{Option}
use Rattle.bl_outside.specs.Counts.{Rose}
use Rattle.bl_outside.specs.Folders.{Files}
use Rattle.bl_outside.specs.Sound.{IsSound}
use Rattle.bl_outside.specs.declared.disk.Disk.{Ghosts}
use Rattle.bl_outside.specs.declared.disks.Disks.{Disks}
use Rattle.bl_files.specs.declared.load_request.LoadRequest.{LoadRequest}
use Rattle.bl_queue.specs.declared.job.Job.{Job}
use Rattle.bl_entry.specs.declared.entry.Entry.{Entry}
use Rattle.bl_world.specs.States.{at_rest}
use Rattle.bl_world.specs.Worlds.{IsWorldOf, World}
use Rattle.bl_engine.specs.Calls.{Handles}
use Rattle.bl_engine.specs.Engines.{IsAt, View}
use Rattle.bl_engine.specs.Images.{HasEntries, IsLeft}
use Rattle.bl_engine.specs.Openings.{IsTold, Judges}
use Rattle.bl_load.specs.Turns.{DrainsOver}
use Rattle.bl_cli.specs.declared.asked.Asked.{Asked}
use Rattle.bl_cli.specs.declared.status.Status.{Status}
use Rattle.bl_cli.specs.declared.status.Status.TheVariants.{WriteFault, StoreFault, BadStore, JournalFull, NumbersUsedUp}
use Rattle.bl_cli.specs.Ends.{IsDone, IsOfLoad, IsQuiet, IsStatusOf, MayHaveBegun}
use Rattle.bl_cli.specs.LoadFaults.{status_trouble}
use Rattle.bl_cli.specs.Loads.{IsLoadOf, LacksRoom}
use Rattle.bl_cli.specs.Outputs.{load_output}
use Rattle.bl_cli.specs.Printing.{Adds, AddsFront, Written}
use Rattle.bl_cli.specs.Stores.{LeadsTo, OfFiles, RunsOver, WasFound}

-- ---- a load over an engine

-- The load was made, and its output, or a front of it, was added.
pub record PrintsLoad {D : Type 0} (P : List ℕ → List ℕ → List ℕ → Type 0) (salt : ℕ) (load : Asked) (old new : View D) (before after : Option (List ℕ)) (it : Job) : Type 0 where
  pub ready : new.ready ≡ true
  pub job : IsLoadOf salt load.request old.world new.world it
  pub prints : Written before after (P (load_output load.changes it new.world.commits))

pub record LoadsOver {D : Type 0} (of : Ghosts D) (files : Option Files) (salt : ℕ) (load : Asked) (old new : View D) (before after : Option (List ℕ)) (was now : ℕ) (status : Status) : Type 0 where
  pub done : IsDone status → (it : Job) × IsStatusOf it.status status × PrintsLoad Adds salt load old new before after it
  pub begun : MayHaveBegun status → (after ≡ before) ⊎ ((it : Job) × PrintsLoad AddsFront salt load old new before after it)
  pub quiet : IsQuiet status → after ≡ before
  pub ends : IsOfLoad status
  pub write_fault : status ≡ WriteFault → Rose was now
  pub used_up : status ≡ NumbersUsedUp → old.world.kept.last ≡ 4294967295
  pub full : status ≡ JournalFull → OfFiles files (λ told. (entries : List Entry) → IsAt of old entries → LacksRoom of told salt load.request (at_rest entries) new.journal)
  pub drains : OfFiles files (λ told. (entries : List Entry) → IsAt of old entries → DrainsOver of told old new (at_rest entries))
  pub handles : Handles of old new (status_trouble status)
  pub later : was ≤ now

-- ---- a load over a store

-- The load that is asked for was made, and has ended as this job in this world, to which the store
-- leads.
pub record WasMade {D : Type 0} (of : Ghosts D) (salt : ℕ) (load : Asked) (old new : Disks D) (world : World) (it : Job) : Type 0 where
  pub before : World
  pub found : WasFound of old before
  pub job : IsLoadOf salt load.request before world it
  pub leads : (entries : List Entry) × IsWorldOf entries world
  pub acknowledged : IsSound of old.journal → LeadsTo of new world

-- The same, and its output, or a front of it, was added.
pub record PrintsJob {D : Type 0} (P : List ℕ → List ℕ → List ℕ → Type 0) (of : Ghosts D) (salt : ℕ) (load : Asked) (old new : Disks D) (before after : Option (List ℕ)) (it : Job) : Type 0 where
  pub world : World
  pub made : WasMade of salt load old new world it
  pub prints : Written before after (P (load_output load.changes it world.commits))

-- the last number of a load was given when the store was opened
abbrev pub IsUsedUp : {D : Type 0} → Ghosts D → Disks D → Type 0
IsUsedUp of disks = (world : World) × WasFound of disks world × (world.kept.last ≡ 4294967295)

-- The store was opened, and then the entry of a turn over these files, or that of the load, had no
-- room in the journal, whose last gate stands at this place.
pub record HasNoPlace {D : Type 0} (of : Ghosts D) (files : Files) (salt : ℕ) (request : LoadRequest) (old new : Disks D) : Type 0 where
  -- the entries that were found, in an image that a crash might have left before
  pub first : List Entry
  pub image : List ℕ
  pub was : of.may_leave old.journal image
  pub has : HasEntries image first
  pub place : ℕ
  pub lacks : LacksRoom of files salt request (at_rest first) (record { disk = new.journal; place = place })

pub record LoadRuns {D : Type 0} (of : Ghosts D) (files : Option Files) (salt : ℕ) (load : Asked) (old new : Disks D) (before after : Option (List ℕ)) (was now : ℕ) (status : Status) : Type 0 where
  pub done : IsDone status → (it : Job) × IsStatusOf it.status status × PrintsJob Adds of salt load old new before after it
  pub begun : MayHaveBegun status → (after ≡ before) ⊎ ((it : Job) × PrintsJob AddsFront of salt load old new before after it)
  pub quiet : IsQuiet status → after ≡ before
  pub ends : IsOfLoad status
  pub write_fault : status ≡ WriteFault → Rose was now
  pub store_fault : status ≡ StoreFault → Rose (of.faults old.journal) (of.faults new.journal)
  pub bad_store : (place : ℕ) → status ≡ BadStore place → IsTold of old.journal → Judges (of.seen old.journal) (Err place)
  pub used_up : status ≡ NumbersUsedUp → IsUsedUp of old
  pub full : status ≡ JournalFull → IsLeft of old → OfFiles files (λ told. HasNoPlace of told salt load.request old new)
  pub runs : IsLeft of old → OfFiles files (λ told. RunsOver of told old new)
  pub left : IsLeft of old → OfFiles files (λ told. IsLeft of new)
  pub slots : (new.left ≡ old.left) × (new.right ≡ old.right)
  pub later : was ≤ now
