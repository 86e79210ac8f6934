-- The whole promise of a script.
use Rattle.std.proofs.Common.{◌≡◌, ℕ, List, Some, OnOk, IsErrOf, ◌∙◌}
use Rattle.std.specs.Prelude.{Result}
use Rattle.std.specs.declared.option.Option.{Option}
use Rattle.bl_outside.specs.Folders.{Files}
use Rattle.bl_outside.specs.declared.disk.Disk.{Ghosts}
use Rattle.bl_world.specs.States.{State}
use Rattle.bl_engine.specs.Calls.{Handles}
use Rattle.bl_engine.specs.Engines.{Stays, View}
use Rattle.bl_engine.specs.Openings.{NeverBad}
use Rattle.bl_load.specs.TurnFaults.{trouble_of}
use Rattle.bl_load.specs.Turns.{DrainsAnyhow, DrainsFull, DrainsOver, IsDrained}
use Rattle.bl_load.specs.declared.turn_fault.TurnFault.{TurnFault}
use Rattle.bl_load.specs.declared.turn_fault.TurnFault.TheVariants.{JournalFull}
use Rattle.bl_session.specs.declared.step.SessionFault.{SessionFault}
use Rattle.bl_script.specs.declared.script_end.ScriptEnd.{ScriptEnd}
use Rattle.bl_script.specs.Turns.{IsLastDrain}
use Rattle.bl_script.specs.Scripts.{Plays, RunsScript}
use Rattle.bl_script.proofs.MadeTurns.{of_files}
use Rattle.bl_script.proofs.KeptStores.{plays_kept}
use Rattle.bl_script.proofs.DrainedRounds.{plays_anyhow, plays_over}
use Rattle.bl_script.proofs.RefusedTurns.{never_bad, store_fault}

pub whole : {D : Type 0} (of : Ghosts D) (only : (disk : D) (c : List ℕ) → of.left_since disk (of.moment disk) c → of.may_leave disk c) (law : NeverBad)
    (image : (disk : D) (c : List ℕ) → of.honest disk → of.seen disk ≡ Some c → of.may_leave disk c) (salt most : ℕ) (files : Option Files) (faults : ℕ) (left : Option (List ℕ)) (old new : View D) (written now : Option (List ℕ)) (result : Result ScriptEnd SessionFault)
    → Plays of salt most files faults left old new written now result → RunsScript of salt most files faults left old new written now result
whole of only law image salt most files faults left old new written now result plays = record {
  plays = plays;
  drains = plays_over of only files salt most faults left old new written now result plays;
  anyhow = plays_anyhow of only files salt most faults left old new written now result plays;
  keeps = plays_kept of files salt most faults left old new written now result plays;
  store_fault = store_fault of only files salt most faults left old new written now result plays;
  never_bad = never_bad of only files salt most faults left old new written now law image result plays;
}

-- what a call ensures of the turns at the end
pub last_drain : {D : Type 0} (of : Ghosts D) (files told : Option Files) → told ≡ files → (old new : View D) (result : Result (Unit {0}) TurnFault) → OnOk result (IsDrained new)
    → ((it : Files) → told ≡ Some it → (state : State) → Stays of old state → DrainsOver of it old new state) → ((state : State) → Stays of old state → DrainsAnyhow of old new state)
    → (IsErrOf result JournalFull → (it : Files) → told ≡ Some it → (state : State) → Stays of old state → DrainsFull of it state new) → Handles of old new (trouble_of result)
    → IsLastDrain of files old new result
last_drain of files told same old new result idle made anyhow full handles = record {
  idle = idle;
  over = of_files files (λ it. (state : State) → Stays of old state → DrainsOver of it old new state) (λ it are. made it (same ∙ are));
  anyhow = anyhow;
  full = λ refused. of_files files (λ it. (state : State) → Stays of old state → DrainsFull of it state new) (λ it are. full refused it (same ∙ are));
  handles = handles;
}
