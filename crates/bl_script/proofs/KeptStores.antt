-- What rounds leave of a store.
use Rattle.std.proofs.Common.{◌≡◌, ⊎_elim, ℕ, Bool, List, [], ◌∷◌, Ok, Err, refl, sym, ◌∙◌, subst, arith}
use Rattle.std.specs.Prelude.{Result}
use Rattle.std.specs.declared.option.Option.{Option}
use Rattle.bl_outside.specs.Folders.{Files}
use Rattle.bl_outside.specs.declared.disk.Disk.{Ghosts}
use Rattle.bl_engine.specs.declared.refusals.Trouble.{Trouble}
use Rattle.bl_engine.specs.Calls.{Handles}
use Rattle.bl_engine.specs.Engines.{View}
use Rattle.bl_http.specs.Inputs.{Ahead}
use Rattle.bl_http.specs.declared.asked.Asked.{Asked}
use Rattle.bl_http.specs.declared.asked.Asked.TheVariants as asked
use Rattle.bl_http.specs.declared.request.Request.{Request}
use Rattle.bl_session.specs.declared.ask.Ask.{Ask}
use Rattle.bl_session.specs.declared.ask.Ask.TheVariants.{Submit, Cancel, List as Listing, Show, Page as Paged}
use Rattle.bl_session.specs.declared.problem.Problem.{Problem}
use Rattle.bl_session.specs.declared.reply.Reply.{Reply}
use Rattle.bl_session.specs.declared.reply.Reply.TheVariants.{MemoryOut}
use Rattle.bl_session.specs.declared.step.SessionFault.{SessionFault}
use Rattle.bl_session.specs.declared.step.SessionFault.TheVariants as fault
use Rattle.bl_session.specs.Answers.{Answered, AnswersAsked}
use Rattle.bl_session.specs.Asks.{Asks}
use Rattle.bl_script.specs.declared.script_end.ScriptEnd.{ScriptEnd}
use Rattle.bl_script.specs.declared.script_end.ScriptEnd.TheVariants.{Drained, Torn, TooLong}
use Rattle.bl_script.specs.KeptStores.{IsKept}
use Rattle.bl_script.specs.Turns.{AreTurns, MadeTurn}
use Rattle.bl_script.specs.Rounds.{Answer, AnswersBy, AreRounds, IsAnswerOf, IsRoundOf, Round}
use Rattle.bl_script.specs.Scripts.{EndsBy, Plays}

module _ {D : Type 0} (of : Ghosts D) where
  pub kept_same : (old new : View D) → new ≡ old → IsKept of old new
  kept_same old new same = subst (λ (v : View D). IsKept of old v) (sym same) (record { left = refl; right = refl; sound = ((λ s. s), λ s. s); later = omega arith })

  pub kept_then : (old mid new : View D) → IsKept of old mid → IsKept of mid new → IsKept of old new
  kept_then old mid new first second = record {
    left = second.left ∙ first.left;
    right = second.right ∙ first.right;
    sound = ((λ s. second.sound.0 (first.sound.0 s)), λ s. first.sound.1 (second.sound.1 s));
    later = omega (arith, first.later, second.later);
  }

  pub kept_by : (old new : View D) (trouble : Option Trouble) → Handles of old new trouble → IsKept of old new
  kept_by old new trouble handles = record { left = handles.left; right = handles.right; sound = handles.sound; later = handles.later }

  -- ---- an answer

  module _ (salt now : ℕ) (close : Bool) (old new : View D) (reply : Reply) where
    asked_kept : (asked : Result Ask Problem) → AnswersAsked of salt now close asked old new reply → IsKept of old new
    asked_kept (Ok (Submit load)) it = kept_by old new _ it.attempts.handles
    asked_kept (Ok (Cancel id)) it = kept_by old new _ it.attempts.handles
    asked_kept (Ok (Listing limit queued)) it = kept_by old new _ it.looks.handles
    asked_kept (Ok (Show id details errors)) it = kept_by old new _ it.looks.handles
    asked_kept (Ok (Paged ask)) it = kept_by old new _ it.looks.handles
    asked_kept (Err problem) it = kept_same old new it.0

  answered_kept : (salt now : ℕ) (request : Request) (old new : View D) (reply : Reply) → Answered of salt now request old new reply → IsKept of old new
  answered_kept salt now request old new reply answered = ⊎_elim
      (λ (none : (new ≡ old) × (reply ≡ MemoryOut)). kept_same old new none.0)
      (λ (some : (asked : Result Ask Problem) × Asks request asked × AnswersAsked of salt now request.close asked old new reply). asked_kept salt now request.close old new reply some.0 some.2)
      answered

  by_kept : (salt : ℕ) (asked : Asked) (bytes : List ℕ) (closes : Bool) (old new : View D) → AnswersBy of salt old asked bytes closes new → IsKept of old new
  by_kept salt (asked.Got request) bytes closes old new it = answered_kept salt it.1 request old new it.0 it.2
  by_kept salt (asked.Refused refusal) bytes closes old new it = kept_same old new it.0
  by_kept salt asked.End bytes closes old new it = absurd it
  by_kept salt asked.Torn bytes closes old new it = absurd it
  by_kept salt asked.TooLong bytes closes old new it = absurd it

  pub answer_kept : (salt : ℕ) (old : View D) (answer : Answer D) → IsAnswerOf of salt old answer → IsKept of old answer.engine
  answer_kept salt old answer is = by_kept salt answer.asked answer.bytes answer.closes old answer.engine is

  -- ---- rounds

  module _ (files : Option Files) where
    pub turns_kept : (old : View D) (faults : ℕ) (turns : List (MadeTurn D)) (new : View D) (now : ℕ) → AreTurns of files old faults turns new now → IsKept of old new
    turns_kept old faults [] new now are = kept_same old new are.0
    turns_kept old faults (turn ∷ turns) new now are =
        kept_then old turn.engine new (kept_by old turn.engine _ are.0.handles) (turns_kept turn.engine turn.faults turns new now are.1)

    pub round_kept : (salt most : ℕ) (old : View D) (faults : ℕ) (round : Round D) → IsRoundOf of salt most files old faults round → IsKept of old round.engine
    round_kept salt most old faults round is =
        kept_then old round.answer.engine round.engine (answer_kept salt old round.answer is.answers) (turns_kept round.answer.engine faults round.turns round.engine round.faults is.turns)

    pub rounds_kept : (salt most : ℕ) (old : View D) (faults : ℕ) (rounds : List (Round D)) (new : View D) (now : ℕ) → AreRounds of salt most files old faults rounds new now → IsKept of old new
    rounds_kept salt most old faults [] new now are = kept_same old new are.0
    rounds_kept salt most old faults (round ∷ rounds) new now are =
        kept_then old round.engine new (round_kept salt most old faults round are.0) (rounds_kept salt most round.engine round.faults rounds new now are.1)

    -- ---- the end

    ends_kept : (salt : ℕ) (rest : Option Ahead) (rounds : List (Round D)) (between new : View D) (old now : Option (List ℕ)) (result : Result ScriptEnd SessionFault) → EndsBy of salt files rest rounds between new old now result → IsKept of between new
    ends_kept salt rest rounds between new old now (Ok (Drained refused)) ends = kept_by between new _ ends.1.drain.handles
    ends_kept salt rest rounds between new old now (Ok Torn) ends = kept_same between new ends.2
    ends_kept salt rest rounds between new old now (Ok TooLong) ends = kept_same between new ends.2
    ends_kept salt rest rounds between new old now (Err fault.ReadFault) ends = kept_same between new ends.1
    ends_kept salt rest rounds between new old now (Err fault.NoMemory) ends = kept_same between new ends.1
    ends_kept salt rest rounds between new old now (Err fault.WriteFault) ends =
        subst (λ (v : View D). IsKept of between v) (sym ends.1.engine) (answer_kept salt between ends.1.answer ends.1.answers)

    pub plays_kept : (salt most faults : ℕ) (left : Option (List ℕ)) (old new : View D) (written now : Option (List ℕ)) (result : Result ScriptEnd SessionFault) → Plays of salt most files faults left old new written now result → IsKept of old new
    plays_kept salt most faults left old new written now result plays =
        kept_then old plays.between new (rounds_kept salt most old faults plays.rounds plays.between plays.count plays.are) (ends_kept salt plays.rest plays.rounds plays.between new written now result plays.ends)
