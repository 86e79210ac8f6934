-- The turn of a script that was refused first.
use Rattle.std.proofs.Common.{◌≡◌, inl, ℕ, ◌≤◌, List, [], ◌∷◌, None, Some, Ok, Err, refl, sym, ◌∙◌, subst, arith}
use Rattle.std.specs.Prelude.{Result}
use Rattle.std.specs.declared.option.Option.{Option}
use Rattle.std.specs.Result.{result_err}
use Rattle.bl_outside.specs.Counts.{Rose}
use Rattle.bl_outside.specs.Folders.{Files}
use Rattle.bl_outside.specs.declared.disk.Disk.{Ghosts}
use Rattle.bl_outside.proofs.Told.{content_told}
use Rattle.bl_world.specs.States.{State}
use Rattle.bl_engine.specs.declared.turned.Turned.{Turned}
use Rattle.bl_engine.specs.Calls.{Handles}
use Rattle.bl_engine.specs.Engines.{Stays, View}
use Rattle.bl_engine.specs.Openings.{Judges, NeverBad}
use Rattle.bl_engine.proofs.Settling.{stays_now, stays_sound}
use Rattle.bl_load.specs.TurnFaults.{told_trouble, trouble_of}
use Rattle.bl_load.specs.declared.turn_fault.TurnFault.{TurnFault}
use Rattle.bl_load.specs.declared.turn_fault.TurnFault.TheVariants.{BadStore, StoreFault}
use Rattle.bl_session.specs.declared.step.SessionFault.{SessionFault}
use Rattle.bl_script.specs.declared.script_end.ScriptEnd.{ScriptEnd}
use Rattle.bl_script.specs.declared.script_end.ScriptEnd.TheVariants.{Drained}
use Rattle.bl_script.specs.KeptStores.{IsKept}
use Rattle.bl_script.specs.Turns.{AreTurns, MadeTurn, earlier, first_refusal}
use Rattle.bl_script.specs.Rounds.{AreRounds, IsRoundOf, Round, refusal_in}
use Rattle.bl_script.specs.Scripts.{Plays}
use Rattle.bl_script.proofs.KeptStores.{answer_kept, kept_by, kept_same, kept_then, round_kept, rounds_kept, turns_kept}
use Rattle.bl_script.proofs.DrainedRounds.{answer_anyhow, round_anyhow, rounds_anyhow}

some_is : (one other : TurnFault) → Some one ≡ Some other → one ≡ other
some_is one other is = cc

none_isnt : {P : Type 0} (fault : TurnFault) → (let none : Option TurnFault = None in none ≡ Some fault) → P
none_isnt fault is = cc

module _ {D : Type 0} (of : Ghosts D) where
  -- A turn, or the turns at the end, told this trouble, in a state to which the calls before led.
  record Refuses (old new : View D) (fault : TurnFault) : Type 0 where
    pub before : View D
    pub after : View D
    pub handles : Handles of before after (told_trouble fault)
    pub ahead : IsKept of old before
    pub behind : IsKept of after new
    pub stays : (s : State) → Stays of old s → (t : State) × Stays of before t

  -- calls before it, and calls behind it
  refuses_ahead : (old mid new : View D) (fault : TurnFault) → IsKept of old mid → ((s : State) → Stays of old s → (t : State) × Stays of mid t) → Refuses mid new fault → Refuses old new fault
  refuses_ahead old mid new fault kept leads it = record {
    before = it.before;
    after = it.after;
    handles = it.handles;
    ahead = kept_then of old mid it.before kept it.ahead;
    behind = it.behind;
    stays = λ s stays. let t = leads s stays in it.stays t.0 t.1;
  }

  refuses_behind : (old mid new : View D) (fault : TurnFault) → IsKept of mid new → Refuses old mid fault → Refuses old new fault
  refuses_behind old mid new fault kept it = record {
    before = it.before;
    after = it.after;
    handles = it.handles;
    ahead = it.ahead;
    behind = kept_then of it.after mid new it.behind kept;
    stays = it.stays;
  }

  refuses_here : (old new : View D) (fault : TurnFault) → Handles of old new (told_trouble fault) → Refuses old new fault
  refuses_here old new fault handles = record {
    before = old;
    after = new;
    handles = handles;
    ahead = kept_same of old old refl;
    behind = kept_same of new new refl;
    stays = λ s stays. (s, stays);
  }

  module _ (only : (disk : D) (c : List ℕ) → of.left_since disk (of.moment disk) c → of.may_leave disk c) (files : Option Files) where
    -- ---- in a round

    one_refuses : (old after new : View D) (fault : TurnFault) (result : Result Turned TurnFault) (others : Option TurnFault) → Handles of old after (trouble_of result) → IsKept of after new
        → ((s : State) → Stays of old s → (t : State) × Stays of after t) → (others ≡ Some fault → Refuses after new fault) → earlier (result_err result) others ≡ Some fault → Refuses old new fault
    one_refuses old after new fault (Ok turned) others handles kept leads more is = refuses_ahead old after new fault (kept_by of old after _ handles) leads (more is)
    one_refuses old after new fault (Err why) others handles kept leads more is =
        refuses_behind old after new fault kept (refuses_here old after fault (subst (λ w. Handles of old after (told_trouble w)) (some_is why fault is) handles))

    turns_refuse : (old : View D) (faults : ℕ) (turns : List (MadeTurn D)) (new : View D) (now : ℕ) (fault : TurnFault) → AreTurns of files old faults turns new now → first_refusal turns ≡ Some fault → Refuses old new fault
    turns_refuse old faults [] new now fault are is = none_isnt fault is
    turns_refuse old faults (turn ∷ turns) new now fault are is =
        one_refuses old turn.engine new fault turn.result (first_refusal turns) are.0.handles (turns_kept of files turn.engine turn.faults turns new now are.1)
        (λ s stays. let d = are.0.anyhow s stays in (d.to, d.stays)) (λ later. turns_refuse turn.engine turn.faults turns new now fault are.1 later) is

    -- ---- in all rounds

    -- the earlier of two
    either_refuses : (old mid new : View D) (fault : TurnFault) (first second : Option TurnFault) → IsKept of old mid → IsKept of mid new → ((s : State) → Stays of old s → (t : State) × Stays of mid t)
        → (first ≡ Some fault → Refuses old mid fault) → (second ≡ Some fault → Refuses mid new fault) → earlier first second ≡ Some fault → Refuses old new fault
    either_refuses old mid new fault None second ahead behind leads one other is = refuses_ahead old mid new fault ahead leads (other is)
    either_refuses old mid new fault (Some why) second ahead behind leads one other is = refuses_behind old mid new fault behind (one is)

    round_refuses : (salt most : ℕ) (old : View D) (faults : ℕ) (round : Round D) (fault : TurnFault) → IsRoundOf of salt most files old faults round → first_refusal round.turns ≡ Some fault → Refuses old round.engine fault
    round_refuses salt most old faults round fault is refused =
        refuses_ahead old round.answer.engine round.engine fault (answer_kept of salt old round.answer is.answers)
        (λ s stays. let d = answer_anyhow of only files salt old round.answer is.answers s stays in (d.to, d.stays))
        (turns_refuse round.answer.engine faults round.turns round.engine round.faults fault is.turns refused)

    rounds_refuse : (salt most : ℕ) (old : View D) (faults : ℕ) (rounds : List (Round D)) (new : View D) (now : ℕ) (fault : TurnFault) → AreRounds of salt most files old faults rounds new now → refusal_in rounds ≡ Some fault → Refuses old new fault
    rounds_refuse salt most old faults [] new now fault are is = none_isnt fault is
    rounds_refuse salt most old faults (round ∷ rounds) new now fault are is =
        either_refuses old round.engine new fault (first_refusal round.turns) (refusal_in rounds) (round_kept of files salt most old faults round are.0)
        (rounds_kept of files salt most round.engine round.faults rounds new now are.1)
        (λ s stays. let d = round_anyhow of only files salt most old faults round are.0 s stays in (d.to, d.stays))
        (λ refused. round_refuses salt most old faults round fault are.0 refused) (λ refused. rounds_refuse salt most round.engine round.faults rounds new now fault are.1 refused) is

    -- ---- in the whole script

    drain_refuses : (old new : View D) (result : Result (Unit {0}) TurnFault) (fault : TurnFault) → Handles of old new (trouble_of result) → result_err result ≡ Some fault → Refuses old new fault
    drain_refuses old new (Ok done) fault handles is = none_isnt fault is
    drain_refuses old new (Err why) fault handles is = refuses_here old new fault (subst (λ w. Handles of old new (told_trouble w)) (some_is why fault is) handles)

    module _ (salt most faults : ℕ) (left : Option (List ℕ)) (old new : View D) (written now : Option (List ℕ)) where
      plays_refuse : (refused : Option TurnFault) (fault : TurnFault) → Plays of salt most files faults left old new written now (Ok (Drained refused)) → refused ≡ Some fault → Refuses old new fault
      plays_refuse refused fault plays is =
          let drained = plays.ends.1 in
          either_refuses old plays.between new fault (refusal_in plays.rounds) (result_err drained.result) (rounds_kept of files salt most old faults plays.rounds plays.between plays.count plays.are)
          (kept_by of plays.between new _ drained.drain.handles)
          (λ s stays. let d = rounds_anyhow of only files salt most old faults plays.rounds plays.between plays.count plays.are s stays in (d.to, d.stays))
          (λ first. rounds_refuse salt most old faults plays.rounds plays.between plays.count fault plays.are first)
          (λ last. drain_refuses plays.between new drained.result fault drained.drain.handles last) (sym drained.first ∙ is)

      rose_between : (a b c d : ℕ) → a ≤ b → c ≤ d → Rose b c → Rose a d
      rose_between a b c d before after rose = omega (arith, before, after, rose)

      -- a count rose where it was a fault of the store
      store_rose : Plays of salt most files faults left old new written now (Ok (Drained (Some StoreFault))) → Rose (of.faults old.journal.disk) (of.faults new.journal.disk)
      store_rose plays =
          let it = plays_refuse (Some StoreFault) StoreFault plays refl in
          rose_between (of.faults old.journal.disk) (of.faults it.before.journal.disk) (of.faults it.after.journal.disk) (of.faults new.journal.disk) it.ahead.later it.behind.later (it.handles.store refl)

      pub store_fault : (result : Result ScriptEnd SessionFault) → Plays of salt most files faults left old new written now result → result ≡ Ok (Drained (Some StoreFault)) → Rose (of.faults old.journal.disk) (of.faults new.journal.disk)
      store_fault result plays is = store_rose (subst (λ r. Plays of salt most files faults left old new written now r) is plays)

      module _ (law : NeverBad) (image : (disk : D) (c : List ℕ) → of.honest disk → of.seen disk ≡ Some c → of.may_leave disk c) where
        -- a store that stays in a state of entries is never bad
        bad_isnt : (place : ℕ) → Plays of salt most files faults left old new written now (Ok (Drained (Some (BadStore place)))) → (s : State) → ¬ (Stays of old s)
        bad_isnt place plays s stays =
            let it = plays_refuse (Some (BadStore place)) (BadStore place) plays refl in
            let t = it.stays s stays in
            let sound = stays_sound of it.before t.0 t.1 in
            let told = content_told (of.seen it.before.journal.disk) sound.told in
            let has = stays_now of it.before t.0 t.1 told.0 (image it.before.journal.disk told.0 sound.honest told.1) in
            law told.0 has.0 place has.2 (subst (λ seen. Judges seen (Err place)) told.1 ((it.handles.bad place refl).1 (inl sound)))

        pub never_bad : (result : Result ScriptEnd SessionFault) → Plays of salt most files faults left old new written now result → (s : State) → Stays of old s → (place : ℕ) → ¬ (result ≡ Ok (Drained (Some (BadStore place))))
        never_bad result plays s stays place is = bad_isnt place (subst (λ r. Plays of salt most files faults left old new written now r) is plays) s stays
