-- An entry is appended by an engine that was ready.
use Rattle.std.proofs.Common.{◌≡◌, ◌⊎◌, ◌↔◌, inl, inr, ⊎_elim, ℕ, ◌≤◌, ◌<◌, ◌+◌, ◌^◌, [], ◌++◌, true, false, List, ◌∷◌, None, Some, Ok, Err, refl, sym, ◌∙◌, ap, subst, arith, length}
use Rattle.std.specs.declared.option.Option.{Option}
use Rattle.std.proofs.lemmas.Bool.{true≢false}
use Rattle.bl_outside.specs.Counts.{Rose}
use Rattle.bl_outside.specs.declared.disk.Disk.{Ghosts}
use Rattle.bl_outside.proofs.Moments.{at_end, weaker}
use Rattle.bl_journal.specs.Frames.{WithOrWithout}
use Rattle.bl_journal.specs.Journals.{Ends, HasRoom, IsAtEnd, IsFull, IsSound, JournalRecord, Since}
use Rattle.bl_journal.specs.declared.refusal.AppendRefusal.{AppendRefusal}
use Rattle.bl_journal.specs.declared.refusal.AppendRefusal.TheVariants as append
use Rattle.bl_entry.specs.declared.entry.Entry.{Entry}
use Rattle.bl_entry.specs.Encoding.{entry_bytes}
use Rattle.bl_entry.specs.Valid.{IsEntry}
use Rattle.bl_graph.specs.Replay.{after}
use Rattle.bl_world.specs.Worlds.{Follows, IsBegun, IsWorldOf, Step, World, changes_of}
use Rattle.bl_world.specs.States.{IsNew, State, at_rest, unsure}
use Rattle.bl_engine.specs.declared.refusals.Trouble.{Trouble}
use Rattle.bl_engine.specs.declared.refusals.Trouble.TheVariants.{StoreFault, BadStore, NoMemory}
use Rattle.bl_engine.specs.declared.appending.Unappended.TheVariants.{Untried, Refused as refused_by}
use Rattle.bl_engine.specs.Images.{IsImageOf, WithEntry, bodies_of}
use Rattle.bl_engine.specs.Engines.{IsAt, IsSure, Stays, View}
use Rattle.bl_engine.specs.Openings.{IsTold, Judges, Meets}
use Rattle.bl_engine.specs.Calls.{Breaks, Handles, Settled}
use Rattle.bl_engine.specs.Outcomes.{Outcome, Done, Full, Refused, Stopped, trouble_in}
use Rattle.bl_engine.specs.Attempts.{AppendsNothing, Attempts, HasNoRoom, LeavesClosed, LeavesReady, Makes}
use Rattle.bl_engine.specs.Appending.{Adds, refused_outcome}
use Rattle.bl_engine.proofs.Committed.{at_has, pushed, since}
use Rattle.bl_engine.proofs.Counting.{world_counts}
use Rattle.bl_engine.proofs.Settling.{stays_now, stays_sound, stood_kept}
use Rattle.bl_engine.proofs.Looking.{at_state, quiet}

not_bad : {D : Type 0} (of : Ghosts D) (old new : View D) (place : ℕ) → None ≡ Some (BadStore place) → (old.ready ≡ false) × (IsTold of old.journal.disk → Judges (of.seen old.journal.disk) (Err place))
not_bad of old new place is = cc

not_done : {P : Type 0} (what : Trouble) → Stopped what ≡ Done → P
not_done what is = cc

not_full : {P : Type 0} (what : Trouble) → Stopped what ≡ Full → P
not_full what is = cc

full_not_done : {P : Type 0} → Full ≡ Done → P
full_not_done is = cc

abbrev no_trouble : Option Trouble
no_trouble = None

none_not_store : {P : Type 0} → no_trouble ≡ Some StoreFault → P
none_not_store is = cc

starved_not_store : {P : Type 0} → Some NoMemory ≡ Some StoreFault → P
starved_not_store is = cc

starved_not_bad : (place : ℕ) → ¬ (Some NoMemory ≡ Some (BadStore place))
starved_not_bad place is = cc

fault_not_bad : (place : ℕ) → ¬ (Some StoreFault ≡ Some (BadStore place))
fault_not_bad place is = cc

module _ {D : Type 0} (of : Ghosts D) (counts : (disk : D) (t : ℕ) (c : List ℕ) → t ≤ of.moment disk → of.may_leave disk c → of.left_since disk t c)
    (only : (disk : D) (c : List ℕ) → of.left_since disk (of.moment disk) c → of.may_leave disk c)
    (makes : World → Entry → Type 0) (old new : View D) (ready : old.ready ≡ true) (left : new.left ≡ old.left) (right : new.right ≡ old.right) where
  meets : Meets of old old.world
  meets = record { ready = λ is. refl; opened = λ isnt. absurd (true≢false (sym ready ∙ isnt)) }

  at_of : (s : State) → Stays of old s → IsAt of old s.kept
  at_of s stays = (at_state of counts only old s ready stays).0

  -- closed, over the journal as it was
  module _ (same : new.journal ≡ old.journal) (shut : new.ready ≡ false) (seq : new.seq ≡ old.seq) where
    still : (s : State) → Stays of old s → Settled of (λ _. Unit {0}) old new s
    still s stays =
        let at = at_of s stays in
        let has : (c : List ℕ) → of.may_leave old.journal.disk c → IsImageOf (at_rest s.kept) c = λ c now. (s.kept, refl, at_has of old s.kept at c now) in (
          at_rest s.kept,
          (s.kept, old.world, stood_kept s.kept s.pending, at.world, tt, refl),
          record {
            stays = inr (record {
              closed = shut;
              sound = subst (λ (j : JournalRecord D). IsSound of j.disk) (sym same) (stays_sound of old s stays);
              each = subst (λ (j : JournalRecord D). (c : List ℕ) → of.may_leave j.disk c → IsImageOf (at_rest s.kept) c) (sym same) has;
            });
            since = subst (λ (j : JournalRecord D). Since of old.journal.disk j.disk (λ c. IsImageOf s c ⊎ IsImageOf (at_rest s.kept) c)) (sym same)
                (quiet of counts only old.journal.disk (λ c. IsImageOf s c ⊎ IsImageOf (at_rest s.kept) c) (λ c now. inr (has c now)));
            counts = λ counted. seq ∙ counted;
          },
        )

    broken : (s : State) → Stays of old s → Breaks of makes old new s
    broken s stays =
        let t = still s stays in
        (t.0, inr (t.1.0, t.1.2, inl t.1.5), t.2)

    -- memory ran out before the journal was called
    pub attempts_stopped : Attempts of makes old new (Stopped NoMemory)
    attempts_stopped = record {
      commits = λ is. cc;
      breaks = λ isnt. broken;
      rests = λ none. absurd none;
      no_room = λ is. cc;
      ready = λ leaves. absurd leaves;
      closed = λ leaves. absurd leaves;
      done = λ is. cc;
      full = λ is. cc;
      room = λ is. cc;
      handles = record {
        left = left;
        right = right;
        sound = subst (λ (j : JournalRecord D). IsSound of old.journal.disk ↔ IsSound of j.disk) (sym same) ((λ x. x), λ x. x);
        later = subst (λ (j : JournalRecord D). of.faults old.journal.disk ≤ of.faults j.disk) (sym same) (omega arith);
        store = λ is. cc;
        bad = λ place is. cc;
      };
    }

    -- the entry is too long for the journal
    pub attempts_long : (entry : Entry) → makes old.world entry → Follows old.world entry → IsFull old.journal.place (length (entry_bytes entry)) → Attempts of makes old new Full
    attempts_long entry made follows full = record {
      commits = λ is. full_not_done is;
      breaks = λ isnt. broken;
      rests = λ none. still;
      no_room = λ is s stays.
          let at = at_of s stays in
          subst (λ (j : JournalRecord D). HasNoRoom of makes s j) (sym same) (record { entries = s.kept; settles = stood_kept s.kept s.pending; ends = at.ends; world = old.world; leads = at.world; entry = entry; made = made; follows = follows; full = full });
      ready = λ leaves. absurd leaves;
      closed = λ leaves. shut;
      done = λ is. full_not_done is;
      full = λ is. (record { world = old.world; meets = meets; entry = entry; made = made; follows = follows }, subst (λ (j : JournalRecord D). IsFull j.place (length (entry_bytes entry))) (sym same) full);
      room = λ is. full_not_done is;
      handles = record {
        left = left;
        right = right;
        sound = subst (λ (j : JournalRecord D). IsSound of old.journal.disk ↔ IsSound of j.disk) (sym same) ((λ x. x), λ x. x);
        later = subst (λ (j : JournalRecord D). of.faults old.journal.disk ≤ of.faults j.disk) (sym same) (omega arith);
        store = λ is. none_not_store is;
        bad = not_bad of old new;
      };
    }

  module _ (entry : Entry) (begun : World) (made : makes old.world entry) (valid : IsEntry entry) (begins : IsBegun old.world entry begun) where
    makes_it : Makes of makes old
    makes_it = record { world = old.world; meets = meets; entry = entry; made = made; follows = begins.0 }

    is_new : (s : State) → Stays of old s → Step old.world entry new.world → IsNew makes s.kept entry
    is_new s stays step = record { before = old.world; of = (at_of s stays).world; made = made; world = new.world; step = step }

    -- every image has the entries from before, with the new one or without it
    run_with : (s : State) → Stays of old s → Step old.world entry new.world → ((bodies : List (List ℕ)) → Ends of old.journal bodies → Since of old.journal.disk new.journal.disk (WithOrWithout bodies (entry_bytes entry)))
        → Since of old.journal.disk new.journal.disk (WithEntry s.kept entry)
    run_with s stays step run = since of old new.journal.disk s.kept entry new.world (at_of s stays) valid step (run (bodies_of s.kept) (at_of s stays).ends)

    it_is_done : Step old.world entry new.world → new.seq ≡ old.world.entries + 1 → (made : Makes of makes old) × Step made.world made.entry new.world × (new.seq ≡ made.world.entries + 1)
    unfolding makes_it
    it_is_done step seq = (makes_it, step, seq)

    it_has_room : HasRoom old.journal.place (length (entry_bytes entry)) → new.journal.place ≡ old.journal.place + 5 + length (entry_bytes entry)
        → (place : ℕ) × (made : Makes of makes old) × HasRoom place (length (entry_bytes made.entry)) × (new.journal.place ≡ place + 5 + length (entry_bytes made.entry))
    unfolding makes_it
    it_has_room room place = (old.journal.place, makes_it, room, place)

    -- it was appended
    pub attempts_done : new.ready ≡ true → new.seq ≡ new.world.entries → Adds of entry old.journal new.journal begun new.world (Ok tt) → Attempts of makes old new Done
    attempts_done unshut seq adds =
        let step = adds.step tt old.world begins in
        record {
          commits = λ is s stays.
              let at = at_of s stays in (
                at_rest (entry ∷ s.kept),
                (s.kept, entry, stood_kept s.kept s.pending, is_new s stays step, refl),
                record {
                  stays = inl (pushed of old new s.kept entry at unshut valid step (adds.acknowledged (bodies_of s.kept) at.ends), refl);
                  since = weaker of.moment of.left_since old.journal.disk new.journal.disk (WithEntry s.kept entry) (λ c. IsImageOf s c ⊎ IsImageOf (at_rest (entry ∷ s.kept)) c) (run_with s stays step adds.any_moment)
                      (λ c. ⊎_elim (λ without. inl (s.kept, stood_kept s.kept s.pending, without)) (λ with. inr (entry ∷ s.kept, refl, with)));
                  counts = λ counted. omega (arith, seq, step.next.entries, world_counts s.kept old.world at.world);
                },
              );
          breaks = λ isnt. absurd (isnt refl);
          rests = λ none. absurd none;
          no_room = λ is. cc;
          ready = λ leaves. unshut;
          closed = λ leaves. absurd leaves;
          done = λ is. it_is_done step (seq ∙ step.next.entries);
          full = λ is. cc;
          room = λ is. it_has_room adds.room.0 adds.room.1;
          handles = record { left = left; right = right; sound = adds.sound; later = adds.later; store = λ is. cc; bad = not_bad of old new };
        }

    -- what a failed append leaves
    pending : (s : State) → Stays of old s → new.ready ≡ false → new.seq ≡ old.seq → Step old.world entry new.world → ((bodies : List (List ℕ)) → Ends of old.journal bodies → Since of old.journal.disk new.journal.disk (WithOrWithout bodies (entry_bytes entry)))
        → IsSound of new.journal.disk → Breaks of makes old new s
    pending s stays shut seq step run sound =
        let image : (c : List ℕ) → WithEntry s.kept entry c → IsImageOf (unsure s.kept entry) c = λ c. ⊎_elim (λ without. (s.kept, inl refl, without)) (λ with. (entry ∷ s.kept, inr refl, with)) in
        let runs = run_with s stays step run in (
          unsure s.kept entry,
          inr (s.kept, stood_kept s.kept s.pending, inr (entry, is_new s stays step, refl)),
          record {
            stays = inr (record { closed = shut; sound = sound; each = λ c now. image c (at_end of.moment of.left_since old.journal.disk new.journal.disk (WithEntry s.kept entry) counts runs c now) });
            since = weaker of.moment of.left_since old.journal.disk new.journal.disk (WithEntry s.kept entry) (λ c. IsImageOf s c ⊎ IsImageOf (unsure s.kept entry) c) runs (λ c w. inr (image c w));
            counts = λ counted. seq ∙ counted;
          },
        )

    -- it isn't known whether it was
    attempts_pending : (what : Trouble) → new.ready ≡ false → new.seq ≡ old.seq → Step old.world entry new.world → ((bodies : List (List ℕ)) → Ends of old.journal bodies → Since of old.journal.disk new.journal.disk (WithOrWithout bodies (entry_bytes entry)))
        → (IsSound of old.journal.disk ↔ IsSound of new.journal.disk) → of.faults old.journal.disk ≤ of.faults new.journal.disk → (Some what ≡ Some StoreFault → Rose (of.faults old.journal.disk) (of.faults new.journal.disk))
        → ((place : ℕ) → ¬ (Some what ≡ Some (BadStore place))) → Attempts of makes old new (Stopped what)
    attempts_pending what shut seq step run sound later store good = record {
      commits = λ is. not_done what is;
      breaks = λ isnt s stays. pending s stays shut seq step run (sound.0 (stays_sound of old s stays));
      rests = λ none. absurd none;
      no_room = λ is. not_full what is;
      ready = λ leaves. absurd leaves;
      closed = λ leaves. shut;
      done = λ is. not_done what is;
      full = λ is. not_full what is;
      room = λ is. not_done what is;
      handles = record { left = left; right = right; sound = sound; later = later; store = store; bad = λ place is. absurd (good place is) };
    }

    -- it wasn't
    attempts_full : new.ready ≡ false → new.seq ≡ old.seq → new.journal ≡ old.journal → IsFull old.journal.place (length (entry_bytes entry)) → Attempts of makes old new Full
    attempts_full shut seq same full = attempts_long same shut seq entry made begins.0 full

    pub attempts_failed : (refusal : AppendRefusal) → new.ready ≡ false → new.seq ≡ old.seq → Adds of entry old.journal new.journal begun new.world (Err (refused_by refusal)) → Attempts of makes old new (refused_outcome refusal)
    attempts_failed append.NoMemory shut seq adds = attempts_pending NoMemory shut seq (adds.step tt old.world begins) adds.any_moment adds.sound adds.later (λ is. starved_not_store is) starved_not_bad
    attempts_failed append.StoreFault shut seq adds = attempts_pending StoreFault shut seq (adds.step tt old.world begins) adds.any_moment adds.sound adds.later (λ is. adds.store refl) fault_not_bad
    attempts_failed append.Full shut seq adds = attempts_full shut seq (adds.full refl).0 (adds.full refl).1

    -- the engine stays sure of its journal
    pub sure_done : IsSure of old → new.ready ≡ true → new.seq ≡ new.world.entries → Adds of entry old.journal new.journal begun new.world (Ok tt) → IsSure of new
    sure_done sure unshut seq adds =
        let step = adds.step tt old.world begins in
        record {
          counted = seq;
          room = omega (arith, sure.room, step.next.entries, adds.room.1);
          bound = omega (arith, adds.room.1, adds.room.0.1);
          leads = (entry ∷ sure.leads.0, (old.world, sure.leads.1, step));
          at_end = adds.at_end;
          at = λ sound.
              let was = sure.at (adds.sound.1 sound) in
              (entry ∷ was.0, pushed of old new was.0 entry was.1 unshut valid step (adds.acknowledged (bodies_of was.0) was.1.ends));
        }

-- a world has begun an entry that changes nothing of the graph
pub plain_begins : (world : World) (entry : Entry) → Follows world entry → changes_of entry ≡ [] → IsBegun world entry world
plain_begins world entry follows plain = (follows, ap (λ changes. record world { graph = after world.graph changes }) (sym plain))
