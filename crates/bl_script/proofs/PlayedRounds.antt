-- One more round of a script, and how it ends.
use Rattle.std.proofs.Common.{◌≡◌, ◌≢◌, ◌⊎◌, inl, inr, ⊎_elim, ℕ, Bool, true, false, List, [], ◌∷◌, ◌++◌, None, Some, Ok, Err, refl, sym, ◌∙◌, ap, subst, arith, append_assoc}
use Rattle.std.specs.Prelude.{Result}
use Rattle.std.specs.declared.option.Option.{Option}
use Rattle.std.specs.Option.{option_or}
use Rattle.std.specs.Result.{result_err}
use Rattle.std.proofs.lemmas.List.{append-nil}
use Rattle.std.proofs.lemmas.List.Elements.{All-push}
use Rattle.bl_outside.specs.Folders.{Files}
use Rattle.bl_outside.specs.declared.disk.Disk.{Ghosts}
use Rattle.bl_engine.specs.Engines.{View}
use Rattle.bl_http.specs.Inputs.{Ahead}
use Rattle.bl_load.specs.declared.turn_fault.TurnFault.{TurnFault}
use Rattle.bl_session.specs.declared.step.Step.{Step}
use Rattle.bl_session.specs.declared.step.Step.TheVariants as step
use Rattle.bl_session.specs.declared.step.SessionFault.{SessionFault}
use Rattle.bl_session.specs.declared.step.SessionFault.TheVariants as fault
use Rattle.bl_session.specs.Steps.{Writes}
use Rattle.bl_script.specs.declared.script_end.ScriptEnd.{ScriptEnd}
use Rattle.bl_script.specs.declared.script_end.ScriptEnd.TheVariants.{Drained, Torn, TooLong}
use Rattle.bl_script.specs.Turns.{AreTurns, IsLastDrain, MakesTurns, earlier, first_refusal}
use Rattle.bl_script.specs.Rounds.{AreAsked, AreOpen, AreRounds, AsksNext, IsRoundOf, Round, refusal_in, replies}
use Rattle.bl_script.specs.Scripts.{EndsBy, IsDrainedBy, Plays, ahead_of}
use Rattle.bl_script.specs.PlayedRounds.{FailsBy, HasAnswered, HasPlayed, HasRested, HaveGone, Place, PlaysRounds, PlaysTo, StepsTo}
use Rattle.bl_script.proofs.Ahead.{writes_more, writes_none}

pub earlier_or : (first second : Option TurnFault) → option_or first second ≡ earlier first second
earlier_or None second = refl
earlier_or (Some fault) second = refl

earlier_none : (o : Option TurnFault) → earlier o None ≡ o
earlier_none None = refl
earlier_none (Some fault) = refl

earlier_assoc : (a b c : Option TurnFault) → earlier (earlier a b) c ≡ earlier a (earlier b c)
earlier_assoc None b c = refl
earlier_assoc (Some fault) b c = refl

pub not_answered : (it : Step) → (it ≡ step.Closed) ⊎ ((it ≡ step.Ended) ⊎ ((it ≡ step.Torn) ⊎ (it ≡ step.TooLong))) → it ≢ step.Answered
not_answered it (inl is) same = cc (is, same)
not_answered it (inr (inl is)) same = cc (is, same)
not_answered it (inr (inr (inl is))) same = cc (is, same)
not_answered it (inr (inr (inr is))) same = cc (is, same)

to_last : (it : Step) → (it ≡ step.Answered) ⊎ ((it ≡ step.Closed) ⊎ (it ≡ step.Ended)) → (other : Step) → ¬ (step.Answered ≡ other) → ¬ (step.Closed ≡ other) → ¬ (step.Ended ≡ other) → it ≢ other
to_last it (inl is) other a b c same = a (sym is ∙ same)
to_last it (inr (inl is)) other a b c same = b (sym is ∙ same)
to_last it (inr (inr is)) other a b c same = c (sym is ∙ same)

pub not_torn : (it : Step) → (it ≡ step.Answered) ⊎ ((it ≡ step.Closed) ⊎ (it ≡ step.Ended)) → it ≢ step.Torn
not_torn it is = to_last it is step.Torn (λ e. cc) (λ e. cc) (λ e. cc)

pub not_long : (it : Step) → (it ≡ step.Answered) ⊎ ((it ≡ step.Closed) ⊎ (it ≡ step.Ended)) → it ≢ step.TooLong
not_long it is = to_last it is step.TooLong (λ e. cc) (λ e. cc) (λ e. cc)

pub drained_is : (first now other last : Option TurnFault) → now ≡ option_or first other → other ≡ last → now ≡ earlier first last
drained_is first now other last is same = is ∙ ap (λ o. option_or first o) same ∙ earlier_or first last

pub step_is : {D : Type 0} (of : Ghosts D) (salt most : ℕ) (files : Option Files) (old new : Place D) (it : Step) (first : Option TurnFault) (other : Step) → it ≡ other → PlaysRounds of salt most files old new (Ok (it, first)) → PlaysRounds of salt most files old new (Ok (other, first))
step_is of salt most files old new it first other is plays = subst (λ s. PlaysRounds of salt most files old new (Ok (s, first))) is plays

-- ---- a round is an answer, and turns

module _ {D : Type 0} (of : Ghosts D) (salt most : ℕ) (files : Option Files) (old mid new : Place D) where
  -- turns were made behind the answer
  module _ (ahead : new.ahead ≡ mid.ahead) (written : new.written ≡ mid.written) (refused : Option TurnFault) (makes : MakesTurns of most files mid.engine mid.faults new.engine new.faults refused) where
    has_played : (closes : Bool) → HasAnswered of salt old mid closes → HasPlayed of salt most files old new closes refused
    has_played closes has = record {
      round = record { answer = has.answer; turns = makes.turns; engine = new.engine; faults = new.faults };
      is = record {
        answers = has.answers;
        turns = subst (λ n. AreTurns of files has.answer.engine n makes.turns new.engine new.faults) has.faults (subst (λ (v : View D). AreTurns of files v mid.faults makes.turns new.engine new.faults) has.engine makes.are);
        all = makes.all;
      };
      asked = subst (λ (o : Option Ahead). AsksNext old.ahead has.answer.asked o) (sym ahead) has.asked;
      writes = subst (λ (o : Option (List ℕ)). Writes has.answer.bytes old.written o) (sym written) has.writes;
      closes_is = has.closes_is;
      refused_is = makes.first;
      engine = refl;
      faults = refl;
    }

    pub played : (it : Step) → (it ≡ step.Answered) ⊎ (it ≡ step.Closed) → StepsTo of salt old mid it → PlaysTo of salt most files old new refused it
    played step.Answered is steps = has_played false steps
    played step.Closed is steps = has_played true steps
    played step.Ended is steps = ⊎_elim (λ e. absurd (cc (e))) (λ e. absurd (cc (e))) is
    played step.Torn is steps = ⊎_elim (λ e. absurd (cc (e))) (λ e. absurd (cc (e))) is
    played step.TooLong is steps = ⊎_elim (λ e. absurd (cc (e))) (λ e. absurd (cc (e))) is

  -- no request was there
  pub not_played : (it : Step) → (it ≡ step.Ended) ⊎ ((it ≡ step.Torn) ⊎ (it ≡ step.TooLong)) → StepsTo of salt old new it → PlaysTo of salt most files old new None it
  not_played step.Answered (inl is) steps = absurd (cc (is))
  not_played step.Answered (inr (inl is)) steps = absurd (cc (is))
  not_played step.Answered (inr (inr is)) steps = absurd (cc (is))
  not_played step.Closed (inl is) steps = absurd (cc (is))
  not_played step.Closed (inr (inl is)) steps = absurd (cc (is))
  not_played step.Closed (inr (inr is)) steps = absurd (cc (is))
  not_played step.Ended is steps = (steps, refl)
  not_played step.Torn is steps = (steps, refl)
  not_played step.TooLong is steps = (steps, refl)

-- ---- one more round

module _ {D : Type 0} (of : Ghosts D) (salt most : ℕ) (files : Option Files) where
  are_more : (old : View D) (faults : ℕ) (rounds : List (Round D)) (mid : View D) (count : ℕ) (round : Round D) → AreRounds of salt most files old faults rounds mid count → IsRoundOf of salt most files mid count round
      → AreRounds of salt most files old faults (rounds ++ round ∷ []) round.engine round.faults
  are_more old faults [] mid count round are is = (subst (λ n. IsRoundOf of salt most files old n round) are.1 (subst (λ (v : View D). IsRoundOf of salt most files v count round) are.0 is), (refl, refl))
  are_more old faults (first ∷ rounds) mid count round are is = (are.0, are_more first.engine first.faults rounds mid count round are.1 is)

  asked_more : (now : Option Ahead) (rounds : List (Round D)) (rest next : Option Ahead) (round : Round D) → AreAsked now rounds rest → AsksNext rest round.answer.asked next → AreAsked now (rounds ++ round ∷ []) next
  asked_more now [] rest next round are asks = (next, subst (λ (o : Option Ahead). AsksNext o round.answer.asked next) are asks, refl)
  asked_more now (first ∷ rounds) rest next round are asks = (are.0, are.1, asked_more are.0 rounds rest next round are.2 asks)

  replies_more : (rounds : List (Round D)) (round : Round D) → replies (rounds ++ round ∷ []) ≡ replies rounds ++ round.answer.bytes
  replies_more [] round = append-nil round.answer.bytes
  replies_more (first ∷ rounds) round = ap (λ t. first.answer.bytes ++ t) (replies_more rounds round) ∙ sym (append_assoc first.answer.bytes (replies rounds) round.answer.bytes)

  refusal_more : (rounds : List (Round D)) (round : Round D) → refusal_in (rounds ++ round ∷ []) ≡ earlier (refusal_in rounds) (first_refusal round.turns)
  refusal_more [] round = earlier_none (first_refusal round.turns)
  refusal_more (first ∷ rounds) round = ap (λ o. earlier (first_refusal first.turns) o) (refusal_more rounds round) ∙ sym (earlier_assoc (first_refusal first.turns) (refusal_in rounds) (first_refusal round.turns))

  -- at the start
  pub none_gone : (old : Place D) → HaveGone of salt most files old old None
  none_gone old = record { rounds = []; are = (refl, refl); asked = refl; going = no_rounds; writes = writes_none old.written; first_is = refl }
    where
      no_rounds : AreOpen {D = D} []
      no_rounds k d few = absurd (omega (arith, few))

  module _ (old mid new : Place D) (first refused : Option TurnFault) (gone : HaveGone of salt most files old mid first) (closes : Bool) (has : HasPlayed of salt most files mid new closes refused) where
    are_now : AreRounds of salt most files old.engine old.faults (gone.rounds ++ has.round ∷ []) new.engine new.faults
    are_now = subst (λ n. AreRounds of salt most files old.engine old.faults (gone.rounds ++ has.round ∷ []) new.engine n) (sym has.faults)
        (subst (λ (v : View D). AreRounds of salt most files old.engine old.faults (gone.rounds ++ has.round ∷ []) v has.round.faults) (sym has.engine)
        (are_more old.engine old.faults gone.rounds mid.engine mid.faults has.round gone.are has.is))

    asked_now : AreAsked old.ahead (gone.rounds ++ has.round ∷ []) new.ahead
    asked_now = asked_more old.ahead gone.rounds mid.ahead new.ahead has.round gone.asked has.asked

    writes_now : Writes (replies (gone.rounds ++ has.round ∷ [])) old.written new.written
    writes_now = subst (λ t. Writes t old.written new.written) (sym (replies_more gone.rounds has.round)) (writes_more old.written mid.written new.written (replies gone.rounds) has.round.answer.bytes gone.writes has.writes)

    first_now : earlier first refused ≡ refusal_in (gone.rounds ++ has.round ∷ [])
    first_now = ap (λ o. earlier o refused) gone.first_is ∙ ap (λ o. earlier (refusal_in gone.rounds) o) has.refused_is ∙ sym (refusal_more gone.rounds has.round)

  pub one_gone : (old mid new : Place D) (first refused : Option TurnFault) → HaveGone of salt most files old mid first → HasPlayed of salt most files mid new false refused → HaveGone of salt most files old new (earlier first refused)
  one_gone old mid new first refused gone has = record {
    rounds = gone.rounds ++ has.round ∷ [];
    are = are_now old mid new first refused gone false has;
    asked = asked_now old mid new first refused gone false has;
    going = open_more gone.rounds has.round gone.going has.closes_is;
    writes = writes_now old mid new first refused gone false has;
    first_is = first_now old mid new first refused gone false has;
  }
    where
      open_more : (rounds : List (Round D)) (round : Round D) → AreOpen rounds → round.answer.closes ≡ false → AreOpen (rounds ++ round ∷ [])
      open_more rounds round open_still closes = All-push (λ (it : Round D). it.answer.closes ≡ false) rounds round open_still closes

  -- ---- the rounds go on, or end

  module _ (was : ℕ) (told : Option Files) (salt_is : was ≡ salt) (files_are : told ≡ files) (old mid new : Place D) (first : Option TurnFault) (gone : HaveGone of salt most files old mid first) where
    pub fails_rounds : (why : SessionFault) → FailsBy of was mid new why → PlaysRounds of salt most files old new (Err why)
    fails_rounds why fails = record { between = mid; first = first; gone = gone; last = subst (λ n. FailsBy of n mid new why) salt_is fails }

    here : (refused : Option TurnFault) (it : Step) → PlaysTo of was most told mid new refused it → PlaysTo of salt most files mid new refused it
    here refused it plays = subst (λ n. PlaysTo of n most files mid new refused it) salt_is (subst (λ (o : Option Files). PlaysTo of was most o mid new refused it) files_are plays)

    pub last_round : (refused : Option TurnFault) (it : Step) → it ≢ step.Answered → PlaysTo of was most told mid new refused it → (now : Option TurnFault) → now ≡ option_or first refused → PlaysRounds of salt most files old new (Ok (it, now))
    last_round refused it other plays now is = record { between = mid; first = first; gone = gone; last = (other, refused, here refused it plays, is ∙ earlier_or first refused) }

    next_round : (refused : Option TurnFault) (it : Step) → it ≡ step.Answered → PlaysTo of salt most files mid new refused it → HaveGone of salt most files old new (earlier first refused)
    next_round refused step.Answered is plays = one_gone old mid new first refused gone plays
    next_round refused step.Closed is plays = absurd (cc (is))
    next_round refused step.Ended is plays = absurd (cc (is))
    next_round refused step.Torn is plays = absurd (cc (is))
    next_round refused step.TooLong is plays = absurd (cc (is))

    pub goes_on : (refused : Option TurnFault) (it : Step) → it ≡ step.Answered → PlaysTo of was most told mid new refused it → (now : Option TurnFault) → now ≡ option_or first refused → HaveGone of salt most files old new now
    goes_on refused it is plays now now_is = subst (λ (o : Option TurnFault). HaveGone of salt most files old new o) (sym (now_is ∙ earlier_or first refused)) (next_round refused it is (here refused it plays))

  -- ---- the last round

  module _ (left : Option (List ℕ)) (old new : Place D) (first_ahead : old.ahead ≡ ahead_of left) where
    asked_of : (rounds : List (Round D)) (rest : Option Ahead) → AreAsked old.ahead rounds rest → AreAsked (ahead_of left) rounds rest
    asked_of rounds rest = subst (λ (o : Option Ahead). AreAsked o rounds rest) first_ahead

    -- Nothing more was asked: what stands next ends the script so.
    module _ (result : Result ScriptEnd SessionFault) (final : View D) (mid : Place D) (first : Option TurnFault) (gone : HaveGone of salt most files old mid first) where
      no_more : EndsBy of salt files mid.ahead gone.rounds mid.engine final old.written new.written result → Plays of salt most files old.faults left old.engine final old.written new.written result
      no_more ends = record {
        rounds = gone.rounds;
        between = mid.engine;
        count = mid.faults;
        are = gone.are;
        rest = mid.ahead;
        asked = asked_of gone.rounds mid.ahead gone.asked;
        ends = ends;
      }

    writes_still : (mid : Place D) (rounds : List (Round D)) → Writes (replies rounds) old.written mid.written → HasRested mid new → Writes (replies rounds) old.written new.written
    writes_still mid rounds writes rests = subst (λ (o : Option (List ℕ)). Writes (replies rounds) old.written o) (sym rests.written) writes

    pub plays_torn : (first : Option TurnFault) → PlaysRounds of salt most files old new (Ok (step.Torn, first)) → Plays of salt most files old.faults left old.engine new.engine old.written new.written (Ok Torn)
    plays_torn first p =
        let met = p.last.2.0 in
        no_more (Ok Torn) new.engine p.between p.first p.gone (p.gone.going, (new.ahead, met.asked_is), met.rests.engine, writes_still p.between p.gone.rounds p.gone.writes met.rests)

    pub plays_too_long : (first : Option TurnFault) → PlaysRounds of salt most files old new (Ok (step.TooLong, first)) → Plays of salt most files old.faults left old.engine new.engine old.written new.written (Ok TooLong)
    plays_too_long first p =
        let met = p.last.2.0 in
        no_more (Ok TooLong) new.engine p.between p.first p.gone (p.gone.going, (new.ahead, met.asked_is), met.rests.engine, writes_still p.between p.gone.rounds p.gone.writes met.rests)

    pub plays_fault : (why : SessionFault) → PlaysRounds of salt most files old new (Err why) → Plays of salt most files old.faults left old.engine new.engine old.written new.written (Err why)
    plays_fault fault.ReadFault p = no_more (Err fault.ReadFault) new.engine p.between p.first p.gone (p.gone.going, p.last.engine, writes_still p.between p.gone.rounds p.gone.writes p.last)
    plays_fault fault.NoMemory p = no_more (Err fault.NoMemory) new.engine p.between p.first p.gone (p.gone.going, p.last.engine, writes_still p.between p.gone.rounds p.gone.writes p.last)
    plays_fault fault.WriteFault p = no_more (Err fault.WriteFault) new.engine p.between p.first p.gone (
      p.gone.going,
      record { answer = p.last.answer; asked = p.last.asked; answers = p.last.answers; engine = p.last.engine; front = (p.between.written, p.gone.writes, p.last.front) },
    )

    -- ---- turns at the end

    module _ (final : View D) (result : Result (Unit {0}) TurnFault) (drained : IsLastDrain of files new.engine final result) where
      drained_by : (rounds : List (Round D)) (between : View D) (first : Option TurnFault) → first ≡ refusal_in rounds → new.engine ≡ between → IsDrainedBy of files rounds between final (earlier first (result_err result))
      drained_by rounds between first is same = record {
        result = result;
        drain = subst (λ (v : View D). IsLastDrain of files v final result) same drained;
        first = ap (λ o. earlier o (result_err result)) is;
      }

      ended : (first : Option TurnFault) → PlaysRounds of salt most files old new (Ok (step.Ended, first)) → Plays of salt most files old.faults left old.engine final old.written new.written (Ok (Drained (earlier first (result_err result))))
      ended first p =
          let met = p.last.2.0 in
          let none : first ≡ refusal_in p.gone.rounds = p.last.3 ∙ ap (λ o. earlier p.first o) p.last.2.1 ∙ earlier_none p.first ∙ p.gone.first_is in
          no_more (Ok (Drained (earlier first (result_err result)))) final p.between p.first p.gone (
            inl (p.gone.going, (new.ahead, met.asked_is)),
            drained_by p.gone.rounds p.between.engine first none met.rests.engine,
            writes_still p.between p.gone.rounds p.gone.writes met.rests,
          )

      closed : (first : Option TurnFault) → PlaysRounds of salt most files old new (Ok (step.Closed, first)) → Plays of salt most files old.faults left old.engine final old.written new.written (Ok (Drained (earlier first (result_err result))))
      closed first p =
          let refused = p.last.1 in
          let has = p.last.2 in
          let rounds = p.gone.rounds ++ has.round ∷ [] in
          record {
            rounds = rounds;
            between = new.engine;
            count = new.faults;
            are = are_now old p.between new p.first refused p.gone true has;
            rest = new.ahead;
            asked = asked_of rounds new.ahead (asked_now old p.between new p.first refused p.gone true has);
            ends = (
              inr (p.gone.rounds, has.round, refl, p.gone.going, has.closes_is),
              drained_by rounds new.engine first (p.last.3 ∙ first_now old p.between new p.first refused p.gone true has) refl,
              writes_now old p.between new p.first refused p.gone true has,
            );
          }

      pub plays_drained : (it : Step) (first : Option TurnFault) → it ≢ step.Torn → it ≢ step.TooLong → PlaysRounds of salt most files old new (Ok (it, first))
          → Plays of salt most files old.faults left old.engine final old.written new.written (Ok (Drained (earlier first (result_err result))))
      plays_drained step.Answered first torn long p = absurd (p.last.0 refl)
      plays_drained step.Closed first torn long p = closed first p
      plays_drained step.Ended first torn long p = ended first p
      plays_drained step.Torn first torn long p = absurd (torn refl)
      plays_drained step.TooLong first torn long p = absurd (long refl)
