-- How runs end: classes of statuses.
use Rattle.std.specs.Prelude.{◌≡◌, ◌⊎◌, ℕ, true}
use Rattle.bl_outside.specs.Counts.{Rose}
use Rattle.bl_queue.specs.declared.job_status.JobStatus.{JobStatus}
use Rattle.bl_queue.specs.declared.job_status.JobStatus.TheVariants.{Completed}
use Rattle.bl_queue.specs.Statuses.{has_failed}
use Rattle.bl_cli.specs.declared.status.Status.{Status}
use Rattle.bl_cli.specs.declared.status.Status.TheVariants.{Ok, JobNotCompleted, Usage, ReadFault, WriteFault, StoreFault, BadStore, NoMemory, InputTooLong, TornInput, JournalFull, NumbersUsedUp, UnknownLoad, NoRecords}

-- what was asked for was done and printed
abbrev pub IsDone : Status → Type 0
IsDone Ok = Unit {0}
IsDone JobNotCompleted = Unit {0}
IsDone Usage = ⊥
IsDone ReadFault = ⊥
IsDone WriteFault = ⊥
IsDone StoreFault = ⊥
IsDone (BadStore place) = ⊥
IsDone NoMemory = ⊥
IsDone InputTooLong = ⊥
IsDone TornInput = ⊥
IsDone JournalFull = ⊥
IsDone NumbersUsedUp = ⊥
IsDone UnknownLoad = ⊥
IsDone NoRecords = ⊥

-- a status with a line on the error output
abbrev pub HasLine : Status → Type 0
HasLine Ok = ⊥
HasLine JobNotCompleted = ⊥
HasLine Usage = Unit {0}
HasLine ReadFault = Unit {0}
HasLine WriteFault = Unit {0}
HasLine StoreFault = Unit {0}
HasLine (BadStore place) = Unit {0}
HasLine NoMemory = Unit {0}
HasLine InputTooLong = Unit {0}
HasLine TornInput = Unit {0}
HasLine JournalFull = Unit {0}
HasLine NumbersUsedUp = Unit {0}
HasLine UnknownLoad = Unit {0}
HasLine NoRecords = Unit {0}

-- the output may have been begun, whole or in part
abbrev pub MayHaveBegun : Status → Type 0
MayHaveBegun Ok = ⊥
MayHaveBegun JobNotCompleted = ⊥
MayHaveBegun Usage = ⊥
MayHaveBegun ReadFault = Unit {0}
MayHaveBegun WriteFault = Unit {0}
MayHaveBegun StoreFault = ⊥
MayHaveBegun (BadStore place) = ⊥
MayHaveBegun NoMemory = Unit {0}
MayHaveBegun InputTooLong = Unit {0}
MayHaveBegun TornInput = Unit {0}
MayHaveBegun JournalFull = ⊥
MayHaveBegun NumbersUsedUp = ⊥
MayHaveBegun UnknownLoad = ⊥
MayHaveBegun NoRecords = ⊥

-- nothing was printed but by a script
abbrev pub IsQuiet : Status → Type 0
IsQuiet Ok = ⊥
IsQuiet JobNotCompleted = ⊥
IsQuiet Usage = Unit {0}
IsQuiet ReadFault = ⊥
IsQuiet WriteFault = ⊥
IsQuiet StoreFault = Unit {0}
IsQuiet (BadStore place) = Unit {0}
IsQuiet NoMemory = ⊥
IsQuiet InputTooLong = ⊥
IsQuiet TornInput = ⊥
IsQuiet JournalFull = Unit {0}
IsQuiet NumbersUsedUp = Unit {0}
IsQuiet UnknownLoad = Unit {0}
IsQuiet NoRecords = Unit {0}

-- nothing was there to be shown
abbrev pub IsNothing : Status → Type 0
IsNothing Ok = ⊥
IsNothing JobNotCompleted = ⊥
IsNothing Usage = ⊥
IsNothing ReadFault = ⊥
IsNothing WriteFault = ⊥
IsNothing StoreFault = ⊥
IsNothing (BadStore place) = ⊥
IsNothing NoMemory = ⊥
IsNothing InputTooLong = ⊥
IsNothing TornInput = ⊥
IsNothing JournalFull = ⊥
IsNothing NumbersUsedUp = ⊥
IsNothing UnknownLoad = Unit {0}
IsNothing NoRecords = Unit {0}

-- the statuses of a load
abbrev pub IsOfLoad : Status → Type 0
IsOfLoad Ok = Unit {0}
IsOfLoad JobNotCompleted = Unit {0}
IsOfLoad Usage = ⊥
IsOfLoad ReadFault = ⊥
IsOfLoad WriteFault = Unit {0}
IsOfLoad StoreFault = Unit {0}
IsOfLoad (BadStore place) = Unit {0}
IsOfLoad NoMemory = Unit {0}
IsOfLoad InputTooLong = ⊥
IsOfLoad TornInput = ⊥
IsOfLoad JournalFull = Unit {0}
IsOfLoad NumbersUsedUp = Unit {0}
IsOfLoad UnknownLoad = ⊥
IsOfLoad NoRecords = ⊥

-- the statuses of a command that shows something
abbrev pub IsOfShow : Status → Type 0
IsOfShow Ok = Unit {0}
IsOfShow JobNotCompleted = ⊥
IsOfShow Usage = ⊥
IsOfShow ReadFault = ⊥
IsOfShow WriteFault = Unit {0}
IsOfShow StoreFault = Unit {0}
IsOfShow (BadStore place) = Unit {0}
IsOfShow NoMemory = Unit {0}
IsOfShow InputTooLong = ⊥
IsOfShow TornInput = ⊥
IsOfShow JournalFull = ⊥
IsOfShow NumbersUsedUp = ⊥
IsOfShow UnknownLoad = Unit {0}
IsOfShow NoRecords = Unit {0}

-- the statuses of a script
abbrev pub IsOfScript : Status → Type 0
IsOfScript Ok = Unit {0}
IsOfScript JobNotCompleted = ⊥
IsOfScript Usage = ⊥
IsOfScript ReadFault = Unit {0}
IsOfScript WriteFault = Unit {0}
IsOfScript StoreFault = Unit {0}
IsOfScript (BadStore place) = Unit {0}
IsOfScript NoMemory = Unit {0}
IsOfScript InputTooLong = Unit {0}
IsOfScript TornInput = Unit {0}
IsOfScript JournalFull = Unit {0}
IsOfScript NumbersUsedUp = ⊥
IsOfScript UnknownLoad = ⊥
IsOfScript NoRecords = ⊥

-- the statuses of the help
abbrev pub IsOfHelp : Status → Type 0
IsOfHelp Ok = Unit {0}
IsOfHelp JobNotCompleted = ⊥
IsOfHelp Usage = ⊥
IsOfHelp ReadFault = ⊥
IsOfHelp WriteFault = Unit {0}
IsOfHelp StoreFault = ⊥
IsOfHelp (BadStore place) = ⊥
IsOfHelp NoMemory = Unit {0}
IsOfHelp InputTooLong = ⊥
IsOfHelp TornInput = ⊥
IsOfHelp JournalFull = ⊥
IsOfHelp NumbersUsedUp = ⊥
IsOfHelp UnknownLoad = ⊥
IsOfHelp NoRecords = ⊥

-- the status by that of the job
abbrev pub IsStatusOf : JobStatus → Status → Type 0
IsStatusOf ended Ok = ended ≡ Completed
IsStatusOf ended JobNotCompleted = has_failed ended ≡ true
IsStatusOf ended Usage = ⊥
IsStatusOf ended ReadFault = ⊥
IsStatusOf ended WriteFault = ⊥
IsStatusOf ended StoreFault = ⊥
IsStatusOf ended (BadStore place) = ⊥
IsStatusOf ended NoMemory = ⊥
IsStatusOf ended InputTooLong = ⊥
IsStatusOf ended TornInput = ⊥
IsStatusOf ended JournalFull = ⊥
IsStatusOf ended NumbersUsedUp = ⊥
IsStatusOf ended UnknownLoad = ⊥
IsStatusOf ended NoRecords = ⊥

-- The words ask for nothing, and memory may run out.
abbrev pub IsUnasked : Status → Type 0
IsUnasked status = (status ≡ Usage) ⊎ (status ≡ NoMemory)

-- no count rose
pub record IsCalm (disk disk' input input' out out' err err' : ℕ) : Type 0 where
  pub disk_calm : ¬ Rose disk disk'
  pub input_calm : ¬ Rose input input'
  pub out_calm : ¬ Rose out out'
  pub err_calm : ¬ Rose err err'

-- the statuses of a command over a store that this program left, where no count rose
abbrev pub IsCalmEnd : Status → Type 0
IsCalmEnd Ok = Unit {0}
IsCalmEnd JobNotCompleted = Unit {0}
IsCalmEnd Usage = ⊥
IsCalmEnd ReadFault = ⊥
IsCalmEnd WriteFault = ⊥
IsCalmEnd StoreFault = ⊥
IsCalmEnd (BadStore place) = ⊥
IsCalmEnd NoMemory = Unit {0}
IsCalmEnd InputTooLong = Unit {0}
IsCalmEnd TornInput = Unit {0}
IsCalmEnd JournalFull = Unit {0}
IsCalmEnd NumbersUsedUp = Unit {0}
IsCalmEnd UnknownLoad = Unit {0}
IsCalmEnd NoRecords = Unit {0}
