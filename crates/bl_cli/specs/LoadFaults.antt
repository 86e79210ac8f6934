-- Why a load isn't finished.
use Rattle.std.specs.Prelude.{◌≡◌, None, Some, Result, Ok, Err}
use Rattle.std.specs.declared.option.Option.{Option}
use Rattle.bl_outside.specs.declared.refusals.Outside.{Outside}
use Rattle.bl_outside.specs.declared.refusals.Outside.TheVariants as outside
use Rattle.bl_engine.specs.declared.refusals.Trouble.{Trouble}
use Rattle.bl_engine.specs.declared.refusals.Trouble.TheVariants as trouble
use Rattle.bl_engine.specs.declared.refusals.SubmitRefusal.{SubmitRefusal}
use Rattle.bl_engine.specs.declared.refusals.SubmitRefusal.TheVariants as submit
use Rattle.bl_load.specs.declared.turn_fault.TurnFault.{TurnFault}
use Rattle.bl_load.specs.declared.turn_fault.TurnFault.TheVariants as turn
use Rattle.bl_cli.specs.declared.status.Status.{Status}
use Rattle.bl_cli.specs.declared.status.Status.TheVariants as status
use Rattle.bl_cli.specs.declared.load_fault.LoadFault.{LoadFault}
use Rattle.bl_cli.specs.declared.load_fault.LoadFault.TheVariants as fault

-- the status with which the run ends
abbrev pub status_of : LoadFault → Status
status_of fault.WriteFault = status.WriteFault
status_of fault.StoreFault = status.StoreFault
status_of (fault.BadStore place) = status.BadStore place
status_of fault.NoMemory = status.NoMemory
status_of fault.JournalFull = status.JournalFull
status_of fault.NumbersUsedUp = status.NumbersUsedUp

abbrev pub fault_from : Trouble → LoadFault
fault_from trouble.StoreFault = fault.StoreFault
fault_from (trouble.BadStore place) = fault.BadStore place
fault_from trouble.NoMemory = fault.NoMemory

abbrev pub turn_fault_from : TurnFault → LoadFault
turn_fault_from turn.JournalFull = fault.JournalFull
turn_fault_from turn.StoreFault = fault.StoreFault
turn_fault_from (turn.BadStore place) = fault.BadStore place
turn_fault_from turn.NoMemory = fault.NoMemory

abbrev pub print_fault_from : Outside → LoadFault
print_fault_from outside.Failed = fault.WriteFault
print_fault_from outside.NoMemory = fault.NoMemory

-- the trouble of the store that it tells of
abbrev pub fault_trouble : LoadFault → Option Trouble
fault_trouble fault.WriteFault = None
fault_trouble fault.StoreFault = Some trouble.StoreFault
fault_trouble (fault.BadStore place) = Some (trouble.BadStore place)
fault_trouble fault.NoMemory = Some trouble.NoMemory
fault_trouble fault.JournalFull = None
fault_trouble fault.NumbersUsedUp = None

abbrev pub trouble_of : {T : Type 0} → Result T LoadFault → Option Trouble
trouble_of (Ok done) = None
trouble_of (Err why) = fault_trouble why

-- The refusals of a load that waits behind no other and depends on none, where none is unended.
abbrev pub MayRefuse : SubmitRefusal → Type 0
MayRefuse submit.TooManyDependencies = ⊥
MayRefuse (submit.UnknownDependency place) = ⊥
MayRefuse (submit.Busy id) = ⊥
MayRefuse submit.QueueFull = ⊥
MayRefuse submit.NumbersUsedUp = Unit {0}
MayRefuse submit.JournalFull = Unit {0}
MayRefuse submit.StoreFault = Unit {0}
MayRefuse (submit.BadStore place) = Unit {0}
MayRefuse submit.NoMemory = Unit {0}

-- the fault that tells of such a refusal
abbrev pub TellsOf : SubmitRefusal → LoadFault → Type 0
TellsOf submit.TooManyDependencies told = ⊥
TellsOf (submit.UnknownDependency place) told = ⊥
TellsOf (submit.Busy id) told = ⊥
TellsOf submit.QueueFull told = ⊥
TellsOf submit.NumbersUsedUp told = told ≡ fault.NumbersUsedUp
TellsOf submit.JournalFull told = told ≡ fault.JournalFull
TellsOf submit.StoreFault told = told ≡ fault.StoreFault
TellsOf (submit.BadStore place) told = told ≡ fault.BadStore place
TellsOf submit.NoMemory told = told ≡ fault.NoMemory

-- the trouble of the store that a status tells of
abbrev pub status_trouble : Status → Option Trouble
status_trouble status.Ok = None
status_trouble status.JobNotCompleted = None
status_trouble status.Usage = None
status_trouble status.ReadFault = None
status_trouble status.WriteFault = None
status_trouble status.StoreFault = Some trouble.StoreFault
status_trouble (status.BadStore place) = Some (trouble.BadStore place)
status_trouble status.NoMemory = Some trouble.NoMemory
status_trouble status.InputTooLong = None
status_trouble status.TornInput = None
status_trouble status.JournalFull = None
status_trouble status.NumbersUsedUp = None
status_trouble status.UnknownLoad = None
status_trouble status.NoRecords = None

-- a fault of turns
abbrev pub IsOfTurns : LoadFault → Type 0
IsOfTurns fault.WriteFault = ⊥
IsOfTurns fault.StoreFault = Unit {0}
IsOfTurns (fault.BadStore place) = Unit {0}
IsOfTurns fault.NoMemory = Unit {0}
IsOfTurns fault.JournalFull = Unit {0}
IsOfTurns fault.NumbersUsedUp = ⊥

-- a fault of a look at the store
abbrev pub IsOfLook : LoadFault → Type 0
IsOfLook fault.WriteFault = ⊥
IsOfLook fault.StoreFault = Unit {0}
IsOfLook (fault.BadStore place) = Unit {0}
IsOfLook fault.NoMemory = Unit {0}
IsOfLook fault.JournalFull = ⊥
IsOfLook fault.NumbersUsedUp = ⊥

-- one that isn't of the output
abbrev pub IsOfStore : LoadFault → Type 0
IsOfStore fault.WriteFault = ⊥
IsOfStore fault.StoreFault = Unit {0}
IsOfStore (fault.BadStore place) = Unit {0}
IsOfStore fault.NoMemory = Unit {0}
IsOfStore fault.JournalFull = Unit {0}
IsOfStore fault.NumbersUsedUp = Unit {0}
