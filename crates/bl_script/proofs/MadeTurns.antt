-- One more turn of a round.
use Rattle.std.proofs.Common.{◌≡◌, ℕ, ◌<◌, ◌≤◌, ◌+◌, ◌-◌, Bool, true, false, List, [], ◌∷◌, ◌++◌, length, None, Some, Ok, Err, IfOk, IsErrOf, refl, sym, ◌∙◌, ap, subst, arith}
use Rattle.std.specs.Prelude.{Result}
use Rattle.std.specs.declared.option.Option.{Option}
use Rattle.std.specs.Result.{result_err}
use Rattle.std.proofs.lemmas.Bool.{true≢false}
use Rattle.bl_outside.specs.Counts.{Rose}
use Rattle.bl_outside.specs.Folders.{Files}
use Rattle.bl_outside.specs.declared.disk.Disk.{Ghosts}
use Rattle.bl_world.specs.States.{State}
use Rattle.bl_engine.specs.declared.turned.Turned.{Turned}
use Rattle.bl_engine.specs.Attempts.{HasNoRoom}
use Rattle.bl_engine.specs.Calls.{Handles}
use Rattle.bl_engine.specs.Engines.{Stays, View}
use Rattle.bl_load.specs.TurnFaults.{trouble_of}
use Rattle.bl_load.specs.Turns.{CountsUp, DrainsAnyhow, DrainsOver, MayTurn, TurnsTo}
use Rattle.bl_load.specs.declared.turn_fault.TurnFault.TheVariants.{JournalFull}
use Rattle.bl_load.specs.declared.turn_fault.TurnFault.{TurnFault}
use Rattle.bl_script.specs.Turns.{AreTurns, GoesOn, IsRoundOfTurns, IsTurnFrom, IsTurnOf, MadeTurn, MakesTurns, OfFiles, earlier, ends_round, first_refusal}

-- a fact of told files
pub of_files : (files : Option Files) (P : Files → Type 0) → ((told : Files) → files ≡ Some told → P told) → OfFiles files P
of_files None P all = tt
of_files (Some told) P all = all told refl

-- what a call ensures of a turn
pub turn_of : {D : Type 0} (of : Ghosts D) (files : Option Files) (old : View D) (faults : ℕ) (turn : MadeTurn D)
    → ((told : Files) → files ≡ Some told → ¬ Rose faults turn.faults → (state : State) → Stays of old state → IfOk turn.result (TurnsTo of told turn.now old turn.engine state))
    → ((told : Files) → files ≡ Some told → (state : State) → Stays of old state → DrainsOver of told old turn.engine state)
    → ((told : Files) → files ≡ Some told → (state : State) → Stays of old state → IsErrOf turn.result JournalFull → HasNoRoom of (MayTurn told) state turn.engine.journal)
    → ((state : State) → Stays of old state → DrainsAnyhow of old turn.engine state)
    → IfOk turn.result (CountsUp old turn.engine) → Handles of old turn.engine (trouble_of turn.result) → faults ≤ turn.faults
    → IsTurnOf of files old faults turn
turn_of {D} of files old faults turn turned made full anyhow counts handles later = record {
  over = of_files files (λ told. (state : State) → Stays of old state → IsTurnFrom of told old faults turn state)
      (λ told is state stays. record { turned = λ unrisen. turned told is unrisen state stays; made = made told is state stays; full = λ refused. full told is state stays refused });
  anyhow = anyhow;
  counts = counts;
  handles = handles;
  later = later;
}

-- ---- turns after which more are made

abbrev pub GoOn : {D : Type 0} → List (MadeTurn D) → Type 0
GoOn [] = Unit {0}
GoOn (turn ∷ turns) = (ends_round turn.result ≡ false) × GoOn turns

not_refused : (result : Result Turned TurnFault) → ends_round result ≡ false → result_err result ≡ None
not_refused (Ok told) goes = refl
not_refused (Err fault) goes = absurd (true≢false goes)

-- Turns were made one after another, and more are.
pub record HaveGoneOn {D : Type 0} (of : Ghosts D) (files : Option Files) (old : View D) (faults : ℕ) (new : View D) (now count : ℕ) : Type 0 where
  pub turns : List (MadeTurn D)
  pub are : AreTurns of files old faults turns new now
  pub going : GoOn turns
  pub counted : length turns ≡ count

module _ {D : Type 0} (of : Ghosts D) (files : Option Files) where
  pub none_gone : (old : View D) (faults : ℕ) → HaveGoneOn of files old faults old faults 0
  none_gone old faults = record { turns = []; are = (refl, refl); going = tt; counted = refl }

  are_more : (old : View D) (faults : ℕ) (turns : List (MadeTurn D)) (mid : View D) (count : ℕ) (turn : MadeTurn D) → AreTurns of files old faults turns mid count → IsTurnOf of files mid count turn
      → AreTurns of files old faults (turns ++ turn ∷ []) turn.engine turn.faults
  are_more old faults [] mid count turn are is = (subst (λ n. IsTurnOf of files old n turn) are.1 (subst (λ v. IsTurnOf of files v count turn) are.0 is), (refl, refl))
  are_more old faults (first ∷ turns) mid count turn are is = (are.0, are_more first.engine first.faults turns mid count turn are.1 is)

  go_on_more : (turns : List (MadeTurn D)) (turn : MadeTurn D) → GoOn turns → ends_round turn.result ≡ false → GoOn (turns ++ turn ∷ [])
  go_on_more [] turn going goes = (goes, tt)
  go_on_more (first ∷ turns) turn going goes = (going.0, go_on_more turns turn going.1 goes)

  more_counted : (turns : List (MadeTurn D)) (turn : MadeTurn D) → length (turns ++ turn ∷ []) ≡ length turns + 1
  more_counted [] turn = refl
  more_counted (first ∷ turns) turn = omega (arith, more_counted turns turn)

  still : (turns : List (MadeTurn D)) → turns ≡ turns
  still turns = refl

  -- all were made that may be
  all_made : (most : ℕ) (turns : List (MadeTurn D)) → GoOn turns → length turns ≡ most → IsRoundOfTurns most turns
  all_made most [] going full = omega (arith, full)
  all_made most (turn ∷ turns) going full = (
    omega (arith, full),
    subst (λ b. GoesOn {D = D} b turns (IsRoundOfTurns {D = D} (most - 1) turns)) (sym going.0) (all_made (most - 1) turns going.1 (omega (arith, full))),
  )

  -- the last one ends the round
  last_made : (most : ℕ) (turns : List (MadeTurn D)) (turn : MadeTurn D) → GoOn turns → length turns < most → ends_round turn.result ≡ true → IsRoundOfTurns most (turns ++ turn ∷ [])
  last_made most [] turn going few ends = (omega (arith, few), subst (λ (b : Bool). GoesOn {D = D} b [] (most - 1 ≡ 0)) (sym ends) (still []))
  last_made most (first ∷ turns) turn going few ends = (
    omega (arith, few),
    subst (λ b. GoesOn {D = D} b (turns ++ turn ∷ []) (IsRoundOfTurns {D = D} (most - 1) (turns ++ turn ∷ []))) (sym going.0) (last_made (most - 1) turns turn going.1 (omega (arith, few)) ends),
  )

  none_refused : (turns : List (MadeTurn D)) → GoOn turns → first_refusal turns ≡ None
  none_refused [] going = refl
  none_refused (turn ∷ turns) going = ap (λ o. earlier o (first_refusal turns)) (not_refused turn.result going.0) ∙ none_refused turns going.1

  earlier_none : (o : Option TurnFault) → earlier o None ≡ o
  earlier_none None = refl
  earlier_none (Some fault) = refl

  last_refused : (turns : List (MadeTurn D)) (turn : MadeTurn D) → GoOn turns → first_refusal (turns ++ turn ∷ []) ≡ result_err turn.result
  last_refused [] turn going = earlier_none (result_err turn.result)
  last_refused (first ∷ turns) turn going = ap (λ o. earlier o (first_refusal (turns ++ turn ∷ []))) (not_refused first.result going.0) ∙ last_refused turns turn going.1

  -- ---- the steps of the loop

  module _ (old : View D) (faults : ℕ) where
    pub one_gone : (mid : View D) (was count : ℕ) (turn : MadeTurn D) → HaveGoneOn of files old faults mid was count → IsTurnOf of files mid was turn → ends_round turn.result ≡ false → HaveGoneOn of files old faults turn.engine turn.faults (count + 1)
    one_gone mid was count turn gone is goes = record {
      turns = gone.turns ++ turn ∷ [];
      are = are_more old faults gone.turns mid was turn gone.are is;
      going = go_on_more gone.turns turn gone.going goes;
      counted = more_counted gone.turns turn ∙ ap (λ n. n + 1) gone.counted;
    }

    pub all_gone : (new : View D) (now most count : ℕ) → HaveGoneOn of files old faults new now count → count ≡ most → MakesTurns of most files old faults new now None
    all_gone new now most count gone full = record {
      turns = gone.turns;
      are = gone.are;
      all = all_made most gone.turns gone.going (gone.counted ∙ full);
      first = sym (none_refused gone.turns gone.going);
    }

    pub last_gone : (mid : View D) (was most count : ℕ) (turn : MadeTurn D) → HaveGoneOn of files old faults mid was count → IsTurnOf of files mid was turn → count < most → ends_round turn.result ≡ true
        → MakesTurns of most files old faults turn.engine turn.faults (result_err turn.result)
    last_gone mid was most count turn gone is few ends = record {
      turns = gone.turns ++ turn ∷ [];
      are = are_more old faults gone.turns mid was turn gone.are is;
      all = last_made most gone.turns turn gone.going (omega (arith, few, gone.counted)) ends;
      first = sym (last_refused gone.turns turn gone.going);
    }
