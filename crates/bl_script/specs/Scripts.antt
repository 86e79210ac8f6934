-- A script: the requests of an input are answered one after another, with turns between them.
use Rattle.std.specs.Prelude.{◌≡◌, ◌⊎◌, ℕ, true, List, [], ◌∷◌, ◌++◌, Some, Result, Ok, Err, option_map}
use Rattle.std.specs.declared.option.Option.{Option}
use Rattle.std.specs.Result.{result_err}
use Rattle.bl_outside.specs.Counts.{Rose}
use Rattle.bl_outside.specs.Folders.{Files}
use Rattle.bl_outside.specs.declared.disk.Disk.{Ghosts}
use Rattle.bl_world.specs.States.{State}
use Rattle.bl_engine.specs.Engines.{Stays, View}
use Rattle.bl_http.specs.declared.asked.Asked.{Asked}
use Rattle.bl_http.specs.declared.asked.Asked.TheVariants as asked
use Rattle.bl_http.specs.Inputs.{Ahead, input}
use Rattle.bl_load.specs.Turns.{DrainsAnyhow, DrainsOver}
use Rattle.bl_load.specs.declared.turn_fault.TurnFault.{TurnFault}
use Rattle.bl_load.specs.declared.turn_fault.TurnFault.TheVariants.{BadStore, StoreFault}
use Rattle.bl_session.specs.declared.step.SessionFault.{SessionFault}
use Rattle.bl_session.specs.declared.step.SessionFault.TheVariants as fault
use Rattle.bl_session.specs.Steps.{Writes, WritesFront}
use Rattle.bl_script.specs.declared.script_end.ScriptEnd.{ScriptEnd}
use Rattle.bl_script.specs.declared.script_end.ScriptEnd.TheVariants.{Drained, Torn, TooLong}
use Rattle.bl_script.specs.KeptStores.{IsKept}
use Rattle.bl_script.specs.Turns.{IsLastDrain, earlier}
use Rattle.bl_script.specs.Rounds.{Answer, AreAsked, AreOpen, AreRounds, AsksNext, IsAnswerOf, Round, refusal_in, replies}

-- the input's next words are these, which are no request
abbrev pub Meets : Option Ahead → Asked → Type 0
Meets rest it = (next : Option Ahead) × AsksNext rest it next

-- The last round closes, and no other; or the input ends behind the last one.
abbrev pub IsOver : {D : Type 0} → List (Round D) → Option Ahead → Type 0
IsOver rounds rest =
    (AreOpen rounds × Meets rest asked.End)
    ⊎ ((before : List (Round _)) × (last : Round _) × (rounds ≡ before ++ last ∷ []) × AreOpen before × (last.answer.closes ≡ true))

-- Behind the rounds turns are made until one finds no work or is refused. The refusal is the first one of all turns.
pub record IsDrainedBy {D : Type 0} (of : Ghosts D) (files : Option Files) (rounds : List (Round D)) (between new : View D) (refused : Option TurnFault) : Type 0 where
  pub result : Result (Unit {0}) TurnFault
  pub drain : IsLastDrain of files between new result
  pub first : refused ≡ earlier (refusal_in rounds) (result_err result)

-- The reply to what was asked last was not written whole.
pub record IsCut {D : Type 0} (of : Ghosts D) (salt : ℕ) (rest : Option Ahead) (rounds : List (Round D)) (between new : View D) (old now : Option (List ℕ)) : Type 0 where
  pub answer : Answer D
  pub asked : Meets rest answer.asked
  pub answers : IsAnswerOf of salt between answer
  pub engine : new ≡ answer.engine
  pub front : (whole : Option (List ℕ)) × Writes (replies rounds) old whole × WritesFront answer.bytes whole now

-- how a script ends behind its rounds
abbrev pub EndsBy : {D : Type 0} → Ghosts D → ℕ → Option Files → Option Ahead → List (Round D) → View D → View D → Option (List ℕ) → Option (List ℕ) → Result ScriptEnd SessionFault → Type 0
EndsBy of salt files rest rounds between new old now (Ok (Drained refused)) = IsOver rounds rest × IsDrainedBy of files rounds between new refused × Writes (replies rounds) old now
EndsBy of salt files rest rounds between new old now (Ok Torn) = AreOpen rounds × Meets rest asked.Torn × (new ≡ between) × Writes (replies rounds) old now
EndsBy of salt files rest rounds between new old now (Ok TooLong) = AreOpen rounds × Meets rest asked.TooLong × (new ≡ between) × Writes (replies rounds) old now
EndsBy of salt files rest rounds between new old now (Err fault.ReadFault) = AreOpen rounds × (new ≡ between) × Writes (replies rounds) old now
EndsBy of salt files rest rounds between new old now (Err fault.NoMemory) = AreOpen rounds × (new ≡ between) × Writes (replies rounds) old now
EndsBy of salt files rest rounds between new old now (Err fault.WriteFault) = AreOpen rounds × IsCut of salt rest rounds between new old now

-- what is ahead of a whole input, where it is told
abbrev pub ahead_of : Option (List ℕ) → Option Ahead
ahead_of left = option_map input left

-- What is answered and made.
pub record Plays {D : Type 0} (of : Ghosts D) (salt most : ℕ) (files : Option Files) (faults : ℕ) (left : Option (List ℕ)) (old new : View D) (written now : Option (List ℕ)) (result : Result ScriptEnd SessionFault) : Type 0 where
  pub rounds : List (Round D)
  pub between : View D
  pub count : ℕ
  pub are : AreRounds of salt most files old faults rounds between count
  pub rest : Option Ahead
  pub asked : AreAsked (ahead_of left) rounds rest
  pub ends : EndsBy of salt files rest rounds between new written now result

-- The whole promise of a script.
pub record RunsScript {D : Type 0} (of : Ghosts D) (salt most : ℕ) (files : Option Files) (faults : ℕ) (left : Option (List ℕ)) (old new : View D) (written now : Option (List ℕ)) (result : Result ScriptEnd SessionFault) : Type 0 where
  pub plays : Plays of salt most files faults left old new written now result
  pub drains : (told : Files) → files ≡ Some told → (state : State) → Stays of old state → DrainsOver of told old new state
  pub anyhow : (state : State) → Stays of old state → DrainsAnyhow of old new state
  pub keeps : IsKept of old new
  -- a fault of the store is told only where a count rose
  pub store_fault : result ≡ Ok (Drained (Some StoreFault)) → Rose (of.faults old.journal.disk) (of.faults new.journal.disk)
  -- a store that stands for entries is never found bad
  pub never_bad : (state : State) → Stays of old state → (place : ℕ) → ¬ (result ≡ Ok (Drained (Some (BadStore place))))
