-- What rounds do to the state of a store: each call leads from one state to one on the way.
use Rattle.std.proofs.Common.{◌≡◌, ⊎_elim, ℕ, Bool, List, [], ◌∷◌, Some, Ok, Err, sym, subst}
use Rattle.std.specs.Prelude.{Result}
use Rattle.std.specs.declared.option.Option.{Option}
use Rattle.std.specs.Result.{result_err}
use Rattle.bl_outside.specs.Folders.{Files}
use Rattle.bl_outside.specs.declared.disk.Disk.{Ghosts}
use Rattle.bl_files.specs.declared.load_request.LoadRequest.{LoadRequest}
use Rattle.bl_entry.specs.declared.entry.Entry.{Entry}
use Rattle.bl_world.specs.Makings.{CancelEntry, SubmitEntry}
use Rattle.bl_world.specs.States.{State}
use Rattle.bl_world.specs.Worlds.{World}
use Rattle.bl_chain.specs.Folders.{AreTablesOf}
use Rattle.bl_chain.specs.MadeEntries.{IsMade}
use Rattle.bl_engine.specs.Calls.{Drains}
use Rattle.bl_engine.specs.Engines.{Stays, View}
use Rattle.bl_engine.specs.Outcomes.{cancel_outcome, submit_outcome, view_trouble}
use Rattle.bl_engine.specs.Streams.{page_trouble}
use Rattle.bl_engine.proofs.Composed.{attempts_more}
use Rattle.bl_engine.proofs.Drained.{drains_none}
use Rattle.bl_load.specs.Turns.{DrainsAnyhow, DrainsOver}
use Rattle.bl_load.specs.declared.turn_fault.TurnFault.{TurnFault}
use Rattle.bl_load.proofs.ResumedLoads.{drains_then}
use Rattle.bl_load.proofs.Turned.{drains_attempted, drains_looked}
use Rattle.bl_http.specs.Inputs.{Ahead}
use Rattle.bl_http.specs.declared.asked.Asked.{Asked}
use Rattle.bl_http.specs.declared.asked.Asked.TheVariants as asked
use Rattle.bl_http.specs.declared.request.Request.{Request}
use Rattle.bl_session.specs.declared.ask.Ask.{Ask}
use Rattle.bl_session.specs.declared.ask.Ask.TheVariants.{Submit, Cancel, List as Listing, Show, Page as Paged}
use Rattle.bl_session.specs.declared.problem.Problem.{Problem}
use Rattle.bl_session.specs.declared.reply.Reply.{Reply}
use Rattle.bl_session.specs.declared.reply.Reply.TheVariants.{MemoryOut}
use Rattle.bl_session.specs.declared.step.SessionFault.{SessionFault}
use Rattle.bl_session.specs.declared.step.SessionFault.TheVariants as fault
use Rattle.bl_session.specs.Answers.{Answered, AnswersAsked}
use Rattle.bl_session.specs.Asks.{Asks}
use Rattle.bl_script.specs.declared.script_end.ScriptEnd.{ScriptEnd}
use Rattle.bl_script.specs.declared.script_end.ScriptEnd.TheVariants.{Drained, Torn, TooLong}
use Rattle.bl_script.specs.Turns.{AreTurns, IsLastDrain, IsTurnFrom, IsTurnOf, MadeTurn, OfFiles}
use Rattle.bl_script.specs.Rounds.{Answer, AnswersBy, AreRounds, IsAnswerOf, IsRoundOf, Round}
use Rattle.bl_script.specs.Scripts.{EndsBy, Plays}

-- an entry that a request makes
pub record MayAsk (makes : World → Entry → Type 0) : Type 0 where
  pub submits : (salt : ℕ) (load : LoadRequest) (now : ℕ) (world : World) (entry : Entry) → SubmitEntry salt load now world entry → makes world entry
  pub cancels : (id now : ℕ) (world : World) (entry : Entry) → CancelEntry id now world entry → makes world entry

module _ {D : Type 0} (of : Ghosts D) (only : (disk : D) (c : List ℕ) → of.left_since disk (of.moment disk) c → of.may_leave disk c) (makes : World → Entry → Type 0) (may : MayAsk makes) where
  -- each call leads from each state to one on the way
  abbrev Leads : View D → View D → Type 0
  Leads old new = (s : State) → Stays of old s → Drains of makes old new s

  leads_same : (old new : View D) → new ≡ old → Leads old new
  leads_same old new same s stays = subst (λ (v : View D). Drains of makes old v s) (sym same) (drains_none of makes only old s stays)

  leads_then : (old mid new : View D) → Leads old mid → Leads mid new → Leads old new
  leads_then old mid new first second s stays = let d = first s stays in drains_then makes of old mid new s d (second d.to d.stays)

  -- ---- an answer

  module _ (salt now : ℕ) (close : Bool) (old new : View D) (reply : Reply) where
    asked_leads : (asked : Result Ask Problem) → AnswersAsked of salt now close asked old new reply → Leads old new
    asked_leads (Ok (Submit load)) it s stays =
        drains_attempted of only makes old new (submit_outcome it.answer) (attempts_more of (SubmitEntry salt load now) makes old new (submit_outcome it.answer) (may.submits salt load now) it.attempts) s stays
    asked_leads (Ok (Cancel id)) it s stays =
        drains_attempted of only makes old new (cancel_outcome it.answer) (attempts_more of (CancelEntry id now) makes old new (cancel_outcome it.answer) (may.cancels id now) it.attempts) s stays
    asked_leads (Ok (Listing limit queued)) it s stays = drains_looked of only makes old new (result_err it.answer) it.looks s stays
    asked_leads (Ok (Show id details errors)) it s stays = drains_looked of only makes old new (view_trouble it.answer) it.looks s stays
    asked_leads (Ok (Paged ask)) it s stays = drains_looked of only makes old new (page_trouble it.answer) it.looks s stays
    asked_leads (Err problem) it s stays = leads_same old new it.0 s stays

  answered_leads : (salt now : ℕ) (request : Request) (old new : View D) (reply : Reply) → Answered of salt now request old new reply → Leads old new
  answered_leads salt now request old new reply answered s stays = ⊎_elim
      (λ (none : (new ≡ old) × (reply ≡ MemoryOut)). leads_same old new none.0 s stays)
      (λ (some : (asked : Result Ask Problem) × Asks request asked × AnswersAsked of salt now request.close asked old new reply). asked_leads salt now request.close old new reply some.0 some.2 s stays)
      answered

  by_leads : (salt : ℕ) (asked : Asked) (bytes : List ℕ) (closes : Bool) (old new : View D) → AnswersBy of salt old asked bytes closes new → Leads old new
  by_leads salt (asked.Got request) bytes closes old new it s stays = answered_leads salt it.1 request old new it.0 it.2 s stays
  by_leads salt (asked.Refused refusal) bytes closes old new it s stays = leads_same old new it.0 s stays
  by_leads salt asked.End bytes closes old new it s stays = absurd it
  by_leads salt asked.Torn bytes closes old new it s stays = absurd it
  by_leads salt asked.TooLong bytes closes old new it s stays = absurd it

  pub answer_leads : (salt : ℕ) (old : View D) (answer : Answer D) → IsAnswerOf of salt old answer → Leads old answer.engine
  answer_leads salt old answer is s stays = by_leads salt answer.asked answer.bytes answer.closes old answer.engine is s stays

  -- ---- rounds

  module _ (files : Option Files) (turn_leads : (old : View D) (faults : ℕ) (turn : MadeTurn D) → IsTurnOf of files old faults turn → Leads old turn.engine)
      (drain_leads : (old new : View D) (result : Result (Unit {0}) TurnFault) → IsLastDrain of files old new result → Leads old new) where
    pub turns_lead : (old : View D) (faults : ℕ) (turns : List (MadeTurn D)) (new : View D) (now : ℕ) → AreTurns of files old faults turns new now → Leads old new
    turns_lead old faults [] new now are s stays = leads_same old new are.0 s stays
    turns_lead old faults (turn ∷ turns) new now are s stays = leads_then old turn.engine new (turn_leads old faults turn are.0) (turns_lead turn.engine turn.faults turns new now are.1) s stays

    pub round_leads : (salt most : ℕ) (old : View D) (faults : ℕ) (round : Round D) → IsRoundOf of salt most files old faults round → Leads old round.engine
    round_leads salt most old faults round is s stays =
        leads_then old round.answer.engine round.engine (answer_leads salt old round.answer is.answers) (turns_lead round.answer.engine faults round.turns round.engine round.faults is.turns) s stays

    pub rounds_lead : (salt most : ℕ) (old : View D) (faults : ℕ) (rounds : List (Round D)) (new : View D) (now : ℕ) → AreRounds of salt most files old faults rounds new now → Leads old new
    rounds_lead salt most old faults [] new now are s stays = leads_same old new are.0 s stays
    rounds_lead salt most old faults (round ∷ rounds) new now are s stays =
        leads_then old round.engine new (round_leads salt most old faults round are.0) (rounds_lead salt most round.engine round.faults rounds new now are.1) s stays

    -- ---- the end

    ends_lead : (salt : ℕ) (rest : Option Ahead) (rounds : List (Round D)) (between new : View D) (old now : Option (List ℕ)) (result : Result ScriptEnd SessionFault) → EndsBy of salt files rest rounds between new old now result → Leads between new
    ends_lead salt rest rounds between new old now (Ok (Drained refused)) ends s stays = drain_leads between new ends.1.result ends.1.drain s stays
    ends_lead salt rest rounds between new old now (Ok Torn) ends s stays = leads_same between new ends.2 s stays
    ends_lead salt rest rounds between new old now (Ok TooLong) ends s stays = leads_same between new ends.2 s stays
    ends_lead salt rest rounds between new old now (Err fault.ReadFault) ends s stays = leads_same between new ends.1 s stays
    ends_lead salt rest rounds between new old now (Err fault.NoMemory) ends s stays = leads_same between new ends.1 s stays
    ends_lead salt rest rounds between new old now (Err fault.WriteFault) ends s stays =
        subst (λ (v : View D). Drains of makes between v s) (sym ends.1.engine) (answer_leads salt between ends.1.answer ends.1.answers s stays)

    pub plays_lead : (salt most faults : ℕ) (left : Option (List ℕ)) (old new : View D) (written now : Option (List ℕ)) (result : Result ScriptEnd SessionFault) → Plays of salt most files faults left old new written now result
        → (s : State) → Stays of old s → Drains of makes old new s
    plays_lead salt most faults left old new written now result plays s stays =
        leads_then old plays.between new (rounds_lead salt most old faults plays.rounds plays.between plays.count plays.are) (ends_lead salt plays.rest plays.rounds plays.between new written now result plays.ends) s stays

-- ---- over told files, and over any

may_ask_over : (files : Files) → MayAsk (IsMade (AreTablesOf files))
may_ask_over files = record {
  submits = λ salt load now world entry is. subst (λ e. IsMade (AreTablesOf files) world e) (sym is) tt;
  cancels = λ id now world entry is. subst (λ e. IsMade (AreTablesOf files) world e) (sym is.2) tt;
}

may_ask_anyhow : MayAsk (λ world entry. Unit {0})
may_ask_anyhow = record { submits = λ salt load now world entry is. tt; cancels = λ id now world entry is. tt }

pub from_files : (files : Option Files) (told : Files) (P : Files → Type 0) → files ≡ Some told → OfFiles files P → P told
from_files files told P is all = subst (λ o. OfFiles o P) is all

module _ {D : Type 0} (of : Ghosts D) (only : (disk : D) (c : List ℕ) → of.left_since disk (of.moment disk) c → of.may_leave disk c) (files : Option Files) where
  pub turn_anyhow : (old : View D) (faults : ℕ) (turn : MadeTurn D) → IsTurnOf of files old faults turn → (s : State) → Stays of old s → DrainsAnyhow of old turn.engine s
  turn_anyhow old faults turn is = is.anyhow

  pub turns_anyhow : (old : View D) (faults : ℕ) (turns : List (MadeTurn D)) (new : View D) (now : ℕ) → AreTurns of files old faults turns new now → (s : State) → Stays of old s → DrainsAnyhow of old new s
  turns_anyhow = turns_lead of only (λ world entry. Unit {0}) may_ask_anyhow files turn_anyhow (λ old new result drain. drain.anyhow)

  pub answer_anyhow : (salt : ℕ) (old : View D) (answer : Answer D) → IsAnswerOf of salt old answer → (s : State) → Stays of old s → DrainsAnyhow of old answer.engine s
  answer_anyhow = answer_leads of only (λ world entry. Unit {0}) may_ask_anyhow

  pub round_anyhow : (salt most : ℕ) (old : View D) (faults : ℕ) (round : Round D) → IsRoundOf of salt most files old faults round → (s : State) → Stays of old s → DrainsAnyhow of old round.engine s
  round_anyhow = round_leads of only (λ world entry. Unit {0}) may_ask_anyhow files turn_anyhow (λ old new result drain. drain.anyhow)

  pub rounds_anyhow : (salt most : ℕ) (old : View D) (faults : ℕ) (rounds : List (Round D)) (new : View D) (now : ℕ) → AreRounds of salt most files old faults rounds new now → (s : State) → Stays of old s → DrainsAnyhow of old new s
  rounds_anyhow = rounds_lead of only (λ world entry. Unit {0}) may_ask_anyhow files turn_anyhow (λ old new result drain. drain.anyhow)

  module _ (salt most faults : ℕ) (left : Option (List ℕ)) (old new : View D) (written now : Option (List ℕ)) (result : Result ScriptEnd SessionFault) (plays : Plays of salt most files faults left old new written now result) where
    pub plays_anyhow : (s : State) → Stays of old s → DrainsAnyhow of old new s
    plays_anyhow = plays_lead of only (λ world entry. Unit {0}) may_ask_anyhow files turn_anyhow (λ old new result drain. drain.anyhow) salt most faults left old new written now result plays

    pub plays_over : (told : Files) → files ≡ Some told → (s : State) → Stays of old s → DrainsOver of told old new s
    plays_over told is =
        plays_lead of only (IsMade (AreTablesOf told)) (may_ask_over told) files
        (λ old faults turn made s stays. (from_files files told (λ told. (state : State) → Stays of old state → IsTurnFrom of told old faults turn state) is made.over s stays).made)
        (λ old new result drain. from_files files told (λ told. (state : State) → Stays of old state → DrainsOver of told old new state) is drain.over)
        salt most faults left old new written now result plays
