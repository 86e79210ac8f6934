-- What a script comes to, over an engine and over a store.
use Rattle.std.specs.Prelude.{◌≡◌, ◌⊎◌, ℕ, true, List, None, Some, Result, Ok as ok, Err}
use Rattle.std.specs.declared.option.Option.{Option}
use Rattle.bl_outside.specs.Counts.{Rose}
use Rattle.bl_outside.specs.Folders.{Files}
use Rattle.bl_outside.specs.Sound.{IsSound}
use Rattle.bl_outside.specs.declared.disk.Disk.{Ghosts}
use Rattle.bl_outside.specs.declared.disks.Disks.{Disks}
use Rattle.bl_world.specs.States.{State}
use Rattle.bl_engine.specs.Engines.{Stays, View}
use Rattle.bl_engine.specs.Images.{IsLeft}
use Rattle.bl_engine.specs.Openings.{IsTold, Judges, Opens}
use Rattle.bl_engine.specs.declared.refusals.Trouble.{Trouble}
use Rattle.bl_load.specs.Turns.{DrainsOver}
use Rattle.bl_load.specs.declared.turn_fault.TurnFault.{TurnFault}
use Rattle.bl_session.specs.declared.step.SessionFault.{SessionFault}
use Rattle.bl_session.specs.declared.step.SessionFault.TheVariants as session
use Rattle.bl_script.specs.declared.script_end.ScriptEnd.{ScriptEnd}
use Rattle.bl_script.specs.declared.script_end.ScriptEnd.TheVariants as end
use Rattle.bl_script.specs.KeptStores.{IsKept}
use Rattle.bl_script.specs.Scripts.{Plays}
use Rattle.bl_cli.specs.declared.status.Status.{Status}
use Rattle.bl_cli.specs.declared.status.Status.TheVariants.{Ok, ReadFault, WriteFault, StoreFault, BadStore, NoMemory, InputTooLong, TornInput}
use Rattle.bl_cli.specs.Ends.{IsOfScript}
use Rattle.bl_cli.specs.LoadFaults.{fault_from, status_of, turn_fault_from}
use Rattle.bl_cli.specs.Stores.{LeadsTo, OfFiles, RunsOver}

-- ---- what a script is given

-- What the input has left, where it is told, and its count of faults before and after; and the
-- folder's count before.
pub record Input : Type 0 where
  pub left : Option (List ℕ)
  pub was : ℕ
  pub now : ℕ
  pub folder : ℕ

abbrev pub input_of : Option (List ℕ) → ℕ → ℕ → ℕ → Input
input_of left was now folder = record { left = left; was = was; now = now; folder = folder }

-- ---- how it ends

-- Ok, or the status of the first turn that was refused
abbrev pub drained_status : Option TurnFault → Status
drained_status None = Ok
drained_status (Some fault) = status_of (turn_fault_from fault)

abbrev pub end_status : ScriptEnd → Status
end_status (end.Drained refused) = drained_status refused
end_status end.Torn = TornInput
end_status end.TooLong = InputTooLong

abbrev pub session_status : SessionFault → Status
session_status session.ReadFault = ReadFault
session_status session.WriteFault = WriteFault
session_status session.NoMemory = NoMemory

abbrev pub script_status : Result ScriptEnd SessionFault → Status
script_status (ok ended) = end_status ended
script_status (Err fault) = session_status fault

-- ---- over an engine that is ready

-- The requests of the input were answered, with turns behind each.
pub record ScriptsOver {D : Type 0} (of : Ghosts D) (files : Option Files) (salt turns : ℕ) (input : Input) (old new : View D) (before after : Option (List ℕ)) (status : Status) : Type 0 where
  pub result : Result ScriptEnd SessionFault
  pub plays : Plays of salt turns files input.folder input.left old new before after result
  pub status_is : status ≡ script_status result

-- What holds of the engine and of the faults however it ends.
pub record LeavesEngine {D : Type 0} (of : Ghosts D) (files : Option Files) (input : Input) (old new : View D) (was now : ℕ) (status : Status) : Type 0 where
  pub drains : (told : Files) → files ≡ Some told → (state : State) → Stays of old state → DrainsOver of told old new state
  pub keeps : IsKept of old new
  pub read_fault : status ≡ ReadFault → Rose input.was input.now
  pub write_fault : status ≡ WriteFault → Rose was now
  pub store_fault : status ≡ StoreFault → Rose (of.faults old.journal.disk) (of.faults new.journal.disk)
  pub never_bad : (state : State) → Stays of old state → (place : ℕ) → ¬ (status ≡ BadStore place)

-- ---- over a store

-- The store could not be opened, and nothing was answered.
pub record IsUnopened {D : Type 0} (of : Ghosts D) (old new : Disks D) (before after : Option (List ℕ)) (status : Status) : Type 0 where
  pub why : Trouble
  pub place : ℕ
  pub opens : Opens of old.journal (record { disk = new.journal; place = place }) (Err why)
  pub status_is : status ≡ status_of (fault_from why)
  pub quiet : after ≡ before

-- Over the engine that the opening made the requests of the input were answered, with turns behind
-- each. A crash then leaves entries that lead to its last world, where it is ready.
pub record IsPlayed {D : Type 0} (of : Ghosts D) (files : Option Files) (salt turns : ℕ) (input : Input) (old new : Disks D) (before after : Option (List ℕ)) (status : Status) : Type 0 where
  pub engine : View D
  pub opens : Opens of old.journal engine.journal (ok engine.world)
  pub ready : engine.ready ≡ true
  pub last : View D
  pub over : ScriptsOver of files salt turns input engine last before after status
  pub journal : new.journal ≡ last.journal.disk
  pub stands : last.ready ≡ true → IsSound of old.journal → LeadsTo of new last.world

-- Memory ran out before a store was opened.
pub record IsUnasked {D : Type 0} (old new : Disks D) (before after : Option (List ℕ)) (status : Status) : Type 0 where
  pub memory : status ≡ NoMemory
  pub same : new ≡ old
  pub quiet : after ≡ before

-- The whole promise of a script.
abbrev pub Scripts : {D : Type 0} → Ghosts D → Option Files → ℕ → ℕ → Input → Disks D → Disks D → Option (List ℕ) → Option (List ℕ) → Status → Type 0
Scripts of files salt turns input old new before after status =
    IsPlayed of files salt turns input old new before after status ⊎ (IsUnopened of old new before after status ⊎ IsUnasked old new before after status)

-- A bad store is found by the opening, or by a turn over a store that this program hasn't left.
abbrev pub FindsBad : {D : Type 0} → Ghosts D → Disks D → ℕ → Type 0
FindsBad of disks place = (IsTold of disks.journal → Judges (of.seen disks.journal) (Err place)) ⊎ (¬ (IsLeft of disks))

pub record ScriptRuns {D : Type 0} (of : Ghosts D) (files : Option Files) (salt turns : ℕ) (input : Input) (old new : Disks D) (before after : Option (List ℕ)) (was now : ℕ) (status : Status) : Type 0 where
  pub script : Scripts of files salt turns input old new before after status
  pub ends : IsOfScript status
  pub read_fault : status ≡ ReadFault → Rose input.was input.now
  pub write_fault : status ≡ WriteFault → Rose was now
  pub store_fault : status ≡ StoreFault → Rose (of.faults old.journal) (of.faults new.journal)
  pub bad_store : (place : ℕ) → status ≡ BadStore place → FindsBad of old place
  pub runs : IsLeft of old → OfFiles files (λ told. RunsOver of told old new)
  pub left : IsLeft of old → OfFiles files (λ told. IsLeft of new)
  pub slots : (new.left ≡ old.left) × (new.right ≡ old.right)
