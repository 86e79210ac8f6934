-- What a run of the program comes to.
use Rattle.std.specs.Prelude.{◌≡◌, ◌⊎◌, ℕ, List, Err}
use Rattle.std.specs.declared.option.Option.{Option}
use Rattle.bl_outside.specs.Counts.{Rose}
use Rattle.bl_outside.specs.Folders.{Files}
use Rattle.bl_outside.specs.Sound.{IsSound}
use Rattle.bl_outside.specs.declared.disk.Disk.{Ghosts}
use Rattle.bl_outside.specs.declared.disks.Disks.{Disks}
use Rattle.bl_queue.specs.declared.job.Job.{Job}
use Rattle.bl_engine.specs.Images.{IsLeft}
use Rattle.bl_engine.specs.Openings.{IsTold, Judges}
use Rattle.bl_cli.specs.declared.help.TheConstants.{HELP}
use Rattle.bl_cli.specs.declared.command.Command.{Command}
use Rattle.bl_cli.specs.declared.command.Command.TheVariants as command
use Rattle.bl_cli.specs.declared.status.Status.{Status}
use Rattle.bl_cli.specs.declared.status.Status.TheVariants.{Ok, Usage, ReadFault, WriteFault, StoreFault, BadStore, JournalFull, NumbersUsedUp}
use Rattle.bl_cli.specs.Commands.{AskForNothing, AsksFor}
use Rattle.bl_cli.specs.Ends.{HasLine, IsDone, IsNothing, IsOfHelp, IsOfLoad, IsOfScript, IsOfShow, IsQuiet, IsStatusOf, IsUnasked, MayHaveBegun}
use Rattle.bl_cli.specs.LoadRuns.{HasNoPlace, IsUsedUp, PrintsJob}
use Rattle.bl_cli.specs.Printing.{Adds, AddsFront, Written}
use Rattle.bl_cli.specs.ScriptRuns.{Input, Scripts}
use Rattle.bl_cli.specs.Shows.{HasNothing, PrintsShown}
use Rattle.bl_cli.specs.Statuses.{line_of}
use Rattle.bl_cli.specs.Stores.{IsUntouched, OfFiles, RunsOver}

-- ---- commands

-- A command was done, its whole output was added, and the status says how it ended. What a script
-- did is told by `Scripts`, whatever its status.
abbrev pub IsCarriedOut : {D : Type 0} → Ghosts D → ℕ → Command → Disks D → Disks D → Option (List ℕ) → Option (List ℕ) → Status → Type 0
IsCarriedOut of salt (command.Load load) old new before after status = (it : Job) × IsStatusOf it.status status × PrintsJob Adds of salt load old new before after it
IsCarriedOut of salt (command.Script turns) old new before after status = status ≡ Ok
IsCarriedOut of salt (command.Show what) old new before after status = (status ≡ Ok) × PrintsShown Adds of what old new before after
IsCarriedOut of salt command.Help old new before after status = (status ≡ Ok) × Written before after (Adds HELP.now)

-- A command was done, and a front of its output was added.
abbrev pub IsBegun : {D : Type 0} → Ghosts D → ℕ → Command → Disks D → Disks D → Option (List ℕ) → Option (List ℕ) → Type 0
IsBegun of salt (command.Load load) old new before after = (it : Job) × PrintsJob AddsFront of salt load old new before after it
IsBegun of salt (command.Script turns) old new before after = Unit {0}
IsBegun of salt (command.Show what) old new before after = PrintsShown AddsFront of what old new before after
IsBegun of salt command.Help old new before after = Written before after (AddsFront HELP.now)

-- There was nothing that the command could show.
abbrev pub FindsNothing : {D : Type 0} → Ghosts D → Command → Disks D → Status → Type 0
FindsNothing of (command.Load load) disks status = ⊥
FindsNothing of (command.Script turns) disks status = ⊥
FindsNothing of (command.Show what) disks status = HasNothing of what disks status
FindsNothing of command.Help disks status = ⊥

-- A load's next entry had no room in the journal. Of a script it is told by `Scripts`.
abbrev pub FindsNoRoom : {D : Type 0} → Ghosts D → Files → ℕ → Command → Disks D → Disks D → Type 0
FindsNoRoom of files salt (command.Load load) old new = HasNoPlace of files salt load.request old new
FindsNoRoom of files salt (command.Script turns) old new = Unit {0}
FindsNoRoom of files salt (command.Show what) old new = ⊥
FindsNoRoom of files salt command.Help old new = ⊥

-- the statuses that it may have
abbrev pub IsEndOf : Command → Status → Type 0
IsEndOf (command.Load load) status = IsOfLoad status
IsEndOf (command.Script turns) status = IsOfScript status
IsEndOf (command.Show what) status = IsOfShow status
IsEndOf command.Help status = IsOfHelp status

-- What it leaves alone. To show something, a store is opened, which settles an entry whose fate
-- wasn't known; the help opens none.
abbrev pub Keeps : {D : Type 0} → Ghosts D → Command → Disks D → Disks D → Type 0
Keeps of (command.Load load) old new = Unit {0}
Keeps of (command.Script turns) old new = Unit {0}
Keeps of (command.Show what) old new = IsSound of old.journal → IsUntouched of old new
Keeps of command.Help old new = new ≡ old

-- it answers requests
abbrev pub IsScript : Command → Type 0
IsScript (command.Load load) = ⊥
IsScript (command.Script turns) = Unit {0}
IsScript (command.Show what) = ⊥
IsScript command.Help = ⊥

-- ---- the line of the status

-- The line of a status was added to the error output, or its sink failed in a front of it, and then
-- the status says so.
abbrev pub Reports : Option (List ℕ) → Option (List ℕ) → ℕ → ℕ → Status → Status → Type 0
Reports old new before now status result =
    ((result ≡ status) × Written old new (Adds (line_of status))) ⊎ ((result ≡ WriteFault) × Rose before now × HasLine status × Written old new (AddsFront (line_of status)))

-- The line of the result was added whole, or the error output failed in a front of a line.
abbrev pub HasReported : Option (List ℕ) → Option (List ℕ) → ℕ → ℕ → Status → Type 0
HasReported old new before now result =
    Written old new (Adds (line_of result)) ⊎ ((result ≡ WriteFault) × Rose before now × ((status : Status) × Written old new (AddsFront (line_of status))))

-- What a script came to, by a status that may have turned into a fault of the error output.
abbrev pub HasScripted : {D : Type 0} → Ghosts D → Option Files → ℕ → ℕ → Input → Disks D → Disks D → Option (List ℕ) → Option (List ℕ) → ℕ → ℕ → Status → Type 0
HasScripted of files salt turns input old new before after errs errs' result =
    (status : Status) × Scripts of files salt turns input old new before after status × ((result ≡ status) ⊎ ((result ≡ WriteFault) × Rose errs errs'))

-- ---- the run

-- a fact of what the words ask for
abbrev pub OfWords : List (List ℕ) → (Command → Type 0) → Type 0
OfWords words P = (asked : Command) × AsksFor words asked × P asked

-- What the words come to, but for the line of the status.
pub record Answers {D : Type 0} (of : Ghosts D) (files : Option Files) (salt : ℕ) (words : List (List ℕ)) (input : Input) (old new : Disks D) (before after : Option (List ℕ)) (was now : ℕ) (status : Status) : Type 0 where
  pub done : IsDone status → OfWords words (λ asked. IsCarriedOut of salt asked old new before after status)
  pub begun : MayHaveBegun status → (after ≡ before) ⊎ OfWords words (λ asked. IsBegun of salt asked old new before after)
  pub quiet : IsQuiet status → (after ≡ before) ⊎ OfWords words IsScript
  pub script : (turns : ℕ) → AsksFor words (command.Script turns) → Scripts of files salt turns input old new before after status
  pub nothing : IsNothing status → OfWords words (λ asked. FindsNothing of asked old status)
  pub fits : (asked : Command) → AsksFor words asked → IsEndOf asked status × Keeps of asked old new
  pub usage : status ≡ Usage → AskForNothing words
  pub unasked : AskForNothing words → IsUnasked status × (new ≡ old)
  pub read_fault : status ≡ ReadFault → Rose input.was input.now
  pub write_fault : status ≡ WriteFault → Rose was now
  pub store_fault : status ≡ StoreFault → Rose (of.faults old.journal) (of.faults new.journal)
  pub bad_store : (place : ℕ) → status ≡ BadStore place → (IsTold of old.journal → Judges (of.seen old.journal) (Err place)) ⊎ (OfWords words IsScript × (¬ (IsLeft of old)))
  pub used_up : status ≡ NumbersUsedUp → IsUsedUp of old
  pub full : status ≡ JournalFull → IsLeft of old → OfFiles files (λ told. OfWords words (λ asked. FindsNoRoom of told salt asked old new))
  pub runs : IsLeft of old → OfFiles files (λ told. RunsOver of told old new)
  pub left : IsLeft of old → OfFiles files (λ told. IsLeft of new)
  pub slots : (new.left ≡ old.left) × (new.right ≡ old.right)
