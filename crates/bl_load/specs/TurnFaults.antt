-- Why a turn isn't made.
use Rattle.std.specs.Prelude.{None, Some, Result, Ok, Err}
use Rattle.std.specs.declared.option.Option.{Option}
use Rattle.bl_engine.specs.declared.refusals.Trouble.{Trouble}
use Rattle.bl_engine.specs.declared.refusals.Trouble.TheVariants as trouble
use Rattle.bl_engine.specs.declared.refusals.TurnRefusal.{TurnRefusal}
use Rattle.bl_engine.specs.declared.refusals.TurnRefusal.TheVariants as refusal
use Rattle.bl_engine.specs.Outcomes.{Outcome, Done, Full, Stopped}
use Rattle.bl_load.specs.declared.turn_fault.TurnFault.{TurnFault}
use Rattle.bl_load.specs.declared.turn_fault.TurnFault.TheVariants as fault

abbrev pub fault_from : Trouble → TurnFault
fault_from trouble.StoreFault = fault.StoreFault
fault_from (trouble.BadStore place) = fault.BadStore place
fault_from trouble.NoMemory = fault.NoMemory

-- the trouble of the store that a turn tells
abbrev pub told_trouble : TurnFault → Option Trouble
told_trouble fault.JournalFull = None
told_trouble fault.StoreFault = Some trouble.StoreFault
told_trouble (fault.BadStore place) = Some (trouble.BadStore place)
told_trouble fault.NoMemory = Some trouble.NoMemory

abbrev pub trouble_of : {T : Type 0} → Result T TurnFault → Option Trouble
trouble_of (Ok done) = None
trouble_of (Err why) = told_trouble why

abbrev pub IsNotStale : TurnRefusal → Type 0
IsNotStale (refusal.Stale next) = ⊥
IsNotStale refusal.JournalFull = Unit {0}
IsNotStale refusal.StoreFault = Unit {0}
IsNotStale (refusal.BadStore place) = Unit {0}
IsNotStale refusal.NoMemory = Unit {0}

-- how a turn answers a refusal that isn't stale
abbrev pub fault_of : TurnRefusal → TurnFault
fault_of (refusal.Stale next) = fault.NoMemory
fault_of refusal.JournalFull = fault.JournalFull
fault_of refusal.StoreFault = fault.StoreFault
fault_of (refusal.BadStore place) = fault.BadStore place
fault_of refusal.NoMemory = fault.NoMemory

-- how a turn ends
abbrev pub fault_outcome : {T : Type 0} → Result T TurnFault → Outcome
fault_outcome (Ok done) = Done
fault_outcome (Err fault.JournalFull) = Full
fault_outcome (Err fault.StoreFault) = Stopped trouble.StoreFault
fault_outcome (Err (fault.BadStore place)) = Stopped (trouble.BadStore place)
fault_outcome (Err fault.NoMemory) = Stopped trouble.NoMemory
