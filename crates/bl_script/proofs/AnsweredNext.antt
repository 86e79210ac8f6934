-- What a step of a session does is the answer to what stands next.
use Rattle.std.proofs.Common.{◌≡◌, ◌⊎◌, inl, inr, ⊎_elim, ◌≤◌, ℕ, Bool, true, false, List, Ok, Err, refl, sym, ◌∙◌, ap, subst}
use Rattle.std.specs.Prelude.{Result}
use Rattle.std.specs.declared.option.Option.{Option}
use Rattle.bl_outside.specs.declared.disk.Disk.{Ghosts}
use Rattle.bl_engine.specs.Engines.{View}
use Rattle.bl_http.specs.declared.asked.Asked.{Asked}
use Rattle.bl_http.specs.declared.asked.Asked.TheVariants as asked
use Rattle.bl_http.specs.declared.request.Request.{Request}
use Rattle.bl_http.specs.Buffers.{BufferRecord, input_limit}
use Rattle.bl_http.specs.Readings.{ReadsOne}
use Rattle.bl_http.specs.declared.refusal.HeadRefusal.{HeadRefusal}
use Rattle.bl_http.proofs.InputLemmas.{request_uses}
use Rattle.bl_session.specs.declared.reply.Reply.{Reply}
use Rattle.bl_session.specs.declared.step.Step.{Step}
use Rattle.bl_session.specs.declared.step.Step.TheVariants.{Answered as answered, Closed}
use Rattle.bl_session.specs.declared.step.SessionFault.{SessionFault}
use Rattle.bl_session.specs.declared.step.SessionFault.TheVariants as fault
use Rattle.bl_session.specs.Answers.{Answered}
use Rattle.bl_session.specs.Replies.{ends, refusal_bytes, reply_bytes}
use Rattle.bl_session.specs.Steps.{ActsOn, RefusesBy, Sends, StepIs, Writes, WritesFront, step_of}
use Rattle.bl_script.specs.Rounds.{AnswersBy, AsksNext, ahead_in}
use Rattle.bl_script.specs.PlayedRounds.{AnswersNext, FailsBy, HasBroken, HasMet, HasRested, Place, StepsTo, UsesUp}
use Rattle.bl_script.proofs.Ahead.{asks_next}

module _ {D : Type 0} (of : Ghosts D) (salt : ℕ) (old new : Place D) (faults : new.faults ≡ old.faults) where
  -- what was asked has this answer, which was written
  sent : (asked : Asked) (bytes : List ℕ) (closes : Bool) → AnswersBy of salt old.engine asked bytes closes new.engine → AsksNext old.ahead asked new.ahead → Writes bytes old.written new.written → StepsTo of salt old new (step_of closes)
  sent asked bytes true answers next writes = record {
    answer = record { asked = asked; bytes = bytes; closes = true; engine = new.engine };
    answers = answers;
    asked = next;
    writes = writes;
    closes_is = refl;
    engine = refl;
    faults = faults;
  }
  sent asked bytes false answers next writes = record {
    answer = record { asked = asked; bytes = bytes; closes = false; engine = new.engine };
    answers = answers;
    asked = next;
    writes = writes;
    closes_is = refl;
    engine = refl;
    faults = faults;
  }

  -- a front of it was
  broken : (asked : Asked) (bytes : List ℕ) (closes : Bool) → AnswersBy of salt old.engine asked bytes closes new.engine → AsksNext old.ahead asked new.ahead → WritesFront bytes old.written new.written → HasBroken of salt old new
  broken asked bytes closes answers next front = record {
    answer = record { asked = asked; bytes = bytes; closes = closes; engine = new.engine };
    asked = (new.ahead, next);
    answers = answers;
    engine = refl;
    front = front;
  }

  rested : new.engine ≡ old.engine → new.written ≡ old.written → HasRested old new
  rested engine written = record { engine = engine; faults = faults; written = written }

  by_reply : (request : Request) (now : ℕ) (reply : Reply) → Answered of salt now request old.engine new.engine reply → AsksNext old.ahead (asked.Got request) new.ahead
      → (result : Result Step SessionFault) → Sends reply old.written new.written result → AnswersNext of salt old new result
  by_reply request now reply answers next (Ok step) sends =
      subst (λ s. StepsTo of salt old new s) (sym sends.0) (sent (asked.Got request) (reply_bytes reply) (ends reply) (reply, now, answers, refl, refl) next sends.1)
  by_reply request now reply answers next (Err why) sends =
      subst (λ w. FailsBy of salt old new w) (sym sends.0) (broken (asked.Got request) (reply_bytes reply) (ends reply) (reply, now, answers, refl, refl) next sends.1)

  by_refusal : (refusal : HeadRefusal) → new.engine ≡ old.engine → AsksNext old.ahead (asked.Refused refusal) new.ahead
      → (result : Result Step SessionFault) → RefusesBy refusal old.written new.written result → AnswersNext of salt old new result
  by_refusal refusal same next (Ok step) refuses =
      subst (λ s. StepsTo of salt old new s) (sym refuses.0) (sent (asked.Refused refusal) (refusal_bytes refusal) true (same, refl, refl) next refuses.1)
  by_refusal refusal same next (Err fault.ReadFault) refuses = absurd refuses
  by_refusal refusal same next (Err fault.WriteFault) refuses = broken (asked.Refused refusal) (refusal_bytes refusal) true (same, refl, refl) next refuses
  by_refusal refusal same next (Err fault.NoMemory) refuses = rested same refuses

  met : (asked : Asked) → new.engine ≡ old.engine → new.written ≡ old.written → AsksNext old.ahead asked new.ahead → HasMet asked old new
  met asked engine written next = record { rests = rested engine written; asked_is = next }

  -- ---- a step

  module _ {P : Type 0} (Answers : P → Request → Reply → P → Type 0) (view : P → View D) (desk desk_now : P) (was : old.engine ≡ view desk) (is : new.engine ≡ view desk_now)
      (tells : (request : Request) (reply : Reply) → Answers desk request reply desk_now → (now : ℕ) × Answered of salt now request old.engine new.engine reply) where
    same : desk_now ≡ desk → new.engine ≡ old.engine
    same rests = is ∙ ap view rests ∙ sym was

    acted : (asked : Asked) → AsksNext old.ahead asked new.ahead → (result : Result Step SessionFault) → ActsOn Answers asked desk desk_now old.written new.written result → AnswersNext of salt old new result
    acted (asked.Got request) next result acts = let told = tells request acts.reply acts.answers in by_reply request told.0 acts.reply told.1 next result acts.sends
    acted (asked.Refused refusal) next result acts = by_refusal refusal (same acts.0) next result acts.1
    acted asked.End next result acts = subst (λ r. AnswersNext of salt old new r) (sym acts.1) (met asked.End (same acts.0.0) acts.0.1 next)
    acted asked.Torn next result acts = subst (λ r. AnswersNext of salt old new r) (sym acts.1) (met asked.Torn (same acts.0.0) acts.0.1 next)
    acted asked.TooLong next result acts = subst (λ r. AnswersNext of salt old new r) (sym acts.1) (met asked.TooLong (same acts.0.0) acts.0.1 next)

    module _ (left left_now : Option (List ℕ)) (buffer buffer_now : BufferRecord) (ahead_was : old.ahead ≡ ahead_in buffer left) (ahead_is : new.ahead ≡ ahead_in buffer_now left_now) where
      pub stepped : (result : Result Step SessionFault) → StepIs Answers left left_now buffer buffer_now desk desk_now old.written new.written result → buffer_now.taken ≤ input_limit → AnswersNext of salt old new result
      stepped result (inl unread) within = ⊎_elim
          (λ read. subst (λ r. AnswersNext of salt old new r) (sym read) (rested (same unread.rests.0) unread.rests.1))
          (λ memory. subst (λ r. AnswersNext of salt old new r) (sym memory) (rested (same unread.rests.0) unread.rests.1))
          unread.fault
      stepped result (inr acts) within =
          acted acts.asked
          (subst (λ o. AsksNext o acts.asked new.ahead) (sym ahead_was) (subst (λ o. AsksNext (ahead_in buffer left) acts.asked o) (sym ahead_is) (asks_next left left_now buffer buffer_now acts.asked acts.reads within)))
          result acts.acts

-- ---- what an answer leaves as it was stays so in a step

module _ {P N : Type 0} (Answers : P → Request → Reply → P → Type 0) (name : P → N) (left left_now : Option (List ℕ)) (buffer buffer_now : BufferRecord) (desk desk_now : P) (written now : Option (List ℕ))
    (keeps : (request : Request) (reply : Reply) → Answers desk request reply desk_now → name desk_now ≡ name desk) where
  acted_keeps : (asked : Asked) (result : Result Step SessionFault) → ActsOn Answers asked desk desk_now written now result → name desk_now ≡ name desk
  acted_keeps (asked.Got request) result acts = keeps request acts.reply acts.answers
  acted_keeps (asked.Refused refusal) result acts = ap name acts.0
  acted_keeps asked.End result acts = ap name acts.0.0
  acted_keeps asked.Torn result acts = ap name acts.0.0
  acted_keeps asked.TooLong result acts = ap name acts.0.0

  pub step_keeps : (result : Result Step SessionFault) → StepIs Answers left left_now buffer buffer_now desk desk_now written now result → name desk_now ≡ name desk
  step_keeps result (inl unread) = ap name unread.rests.0
  step_keeps result (inr acts) = acted_keeps acts.asked result acts.acts

-- ---- a request that was answered used bytes up

abbrev came : Step → Result Step SessionFault
came step = Ok step

not_closed : {Q : Type 0} → came answered ≡ came Closed → Q
not_closed is = cc

module _ {P : Type 0} (Answers : P → Request → Reply → P → Type 0) (left left_now : Option (List ℕ)) (buffer buffer_now : BufferRecord) (desk desk_now : P) (written now : Option (List ℕ)) where
  acted_uses : (asked : Asked) → ReadsOne left left_now buffer buffer_now asked → ActsOn Answers asked desk desk_now written now (came answered) → UsesUp buffer buffer_now
  acted_uses (asked.Got request) reads acts = request_uses left left_now buffer buffer_now request reads
  acted_uses (asked.Refused refusal) reads acts = not_closed (ap came acts.1.0)
  acted_uses asked.End reads acts = absurd (cc (acts.1))
  acted_uses asked.Torn reads acts = absurd (cc (acts.1))
  acted_uses asked.TooLong reads acts = absurd (cc (acts.1))

  unread_uses : (came answered ≡ Err fault.ReadFault) ⊎ (came answered ≡ Err fault.NoMemory) → UsesUp buffer buffer_now
  unread_uses (inl is) = absurd (cc (is))
  unread_uses (inr is) = absurd (cc (is))

  stepped_uses : StepIs Answers left left_now buffer buffer_now desk desk_now written now (came answered) → UsesUp buffer buffer_now
  stepped_uses (inl unread) = unread_uses unread.fault
  stepped_uses (inr acts) = acted_uses acts.asked acts.reads acts.acts

  pub uses_up : (result : Result Step SessionFault) → StepIs Answers left left_now buffer buffer_now desk desk_now written now result → result ≡ Ok answered → UsesUp buffer buffer_now
  uses_up result step is = stepped_uses (subst (λ r. StepIs Answers left left_now buffer buffer_now desk desk_now written now r) is step)
