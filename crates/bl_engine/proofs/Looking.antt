-- A call that opens the engine, where it is closed, and appends nothing.
use Rattle.std.proofs.Common.{◌≡◌, ◌⊎◌, inl, inr, ℕ, ◌≤◌, Bool, true, false, List, None, Some, Ok, Err, refl, sym, ◌∙◌, ap, subst, arith}
use Rattle.std.specs.Prelude.{Result}
use Rattle.std.specs.declared.option.Option.{Option}
use Rattle.std.proofs.lemmas.Bool.{true≢false}
use Rattle.bl_outside.specs.declared.disk.Disk.{Ghosts}
use Rattle.bl_outside.proofs.Moments.{at_end, started, weaker}
use Rattle.bl_journal.specs.Frames.{AsBefore}
use Rattle.bl_journal.specs.Journals.{IsSound, Since}
use Rattle.bl_entry.specs.Decoded.{NoneBegins}
use Rattle.bl_world.specs.Worlds.{World}
use Rattle.bl_world.specs.States.{Settles, State, at_rest}
use Rattle.bl_engine.specs.declared.refusals.Trouble.{Trouble}
use Rattle.bl_engine.specs.declared.refusals.Trouble.TheVariants.{StoreFault, BadStore, NoMemory}
use Rattle.bl_engine.specs.Images.{IsImageOf}
use Rattle.bl_engine.specs.Engines.{IsAt, IsSure, Stays, View}
use Rattle.bl_engine.specs.Openings.{IsTold, Judges, Meets, Opens, TroubleIs}
use Rattle.bl_engine.specs.Calls.{Answers, Handles, Looks, Settled}
use Rattle.bl_engine.proofs.Counting.{world_counts}
use Rattle.bl_engine.proofs.Settling.{before_image, same_entries, stays_now, stays_sound, stood_kept}

not_both : {P : Type 0} (b : Bool) → b ≡ true → b ≡ false → P
not_both b is isnt = absurd (true≢false (sym is ∙ isnt))

-- the place of a bad store is the one that is told
bad_place : {D : Type 0} (of : Ghosts D) (old : D) (trouble : Trouble) (place : ℕ) → (IsTold of old → TroubleIs (of.seen old) trouble) → trouble ≡ BadStore place → IsTold of old → Judges (of.seen old) (Err place)
bad_place of old trouble place h is told = subst (λ t. TroubleIs (of.seen old) t) is (h told)

-- of a trouble that is no bad store nothing is said
not_bad : {D : Type 0} (of : Ghosts D) (old : D) (b : Bool) (place : ℕ) → None ≡ Some (BadStore place) → (b ≡ false) × (IsTold of old → Judges (of.seen old) (Err place))
not_bad of old b place is = cc

abbrev failed : Trouble → Result World Trouble
failed trouble = Err trouble

module _ {D : Type 0} (of : Ghosts D) (counts : (disk : D) (t : ℕ) (c : List ℕ) → t ≤ of.moment disk → of.may_leave disk c → of.left_since disk t c)
    (only : (disk : D) (c : List ℕ) → of.left_since disk (of.moment disk) c → of.may_leave disk c) where
  -- before the first device call
  pub quiet : (disk : D) (P : List ℕ → Type 0) → ((c : List ℕ) → of.may_leave disk c → P c) → Since of disk disk P
  quiet disk P here = started of.moment of.left_since disk P (λ c left. here c (only disk c left))

  -- a ready engine is in a state at rest
  pub at_state : (engine : View D) (s : State) → engine.ready ≡ true → Stays of engine s → IsAt of engine s.kept × (s.pending ≡ None)
  at_state engine s ready (inl stays) = stays
  at_state engine s ready (inr closed) = not_both engine.ready ready closed.closed

  -- it was ready
  pub looks_ready : (engine : View D) → engine.ready ≡ true → Looks of engine engine None
  looks_ready engine ready = record {
    same = λ is. refl;
    meets = λ is. record { ready = λ r. refl; opened = λ isnt. not_both engine.ready ready isnt };
    settled = λ is s stays.
        let at = at_state engine s ready stays in (
          at_rest s.kept,
          (s.kept, engine.world, stood_kept s.kept s.pending, at.0.world, refl, refl),
          record {
            stays = inl (at.0, refl);
            since = quiet engine.journal.disk (λ c. IsImageOf s c ⊎ IsImageOf (at_rest s.kept) c) (λ c now. inl (stays_now of engine s stays c now));
            counts = λ counted. counted;
          },
        );
    closed = λ isnt. not_both engine.ready ready isnt;
    any_moment = λ sound. quiet engine.journal.disk (AsBefore (of.may_leave engine.journal.disk)) (λ c now. (c, now, refl));
    handles = record {
      left = refl;
      right = refl;
      sound = ((λ x. x), λ x. x);
      later = omega arith;
      store = λ is. cc;
      bad = not_bad of engine.journal.disk engine.ready;
    };
  }

  module _ (old new : View D) (was : old.ready ≡ false) (left : new.left ≡ old.left) (right : new.right ≡ old.right) where
    unready : {P : Type 0} → old.ready ≡ true → P
    unready is = not_both old.ready is was

    -- every image of an opening is one of the state
    since_opened : (s : State) → Stays of old s → Since of old.journal.disk new.journal.disk (AsBefore (of.may_leave old.journal.disk)) → Since of old.journal.disk new.journal.disk (IsImageOf s)
    since_opened s stays run = weaker of.moment of.left_since old.journal.disk new.journal.disk (AsBefore (of.may_leave old.journal.disk)) (IsImageOf s) run (before_image of old s stays)

    since_either : (s to : State) → Stays of old s → Since of old.journal.disk new.journal.disk (AsBefore (of.may_leave old.journal.disk)) → Since of old.journal.disk new.journal.disk (λ c. IsImageOf s c ⊎ IsImageOf to c)
    since_either s to stays run = weaker of.moment of.left_since old.journal.disk new.journal.disk (IsImageOf s) (λ c. IsImageOf s c ⊎ IsImageOf to c) (since_opened s stays run) (λ c i. inl i)

    -- it was opened: the entries of the image that was read are settled
    pub looks_opened : NoneBegins → new.ready ≡ true → new.seq ≡ new.world.entries → Opens of old.journal.disk new.journal (Ok new.world) → Looks of old new None
    looks_opened codec ready seq o = record {
      same = unready;
      meets = λ is. record { ready = unready; opened = λ isnt told. o.judged told };
      settled = λ is s stays. settled s stays (closed_of s stays);
      closed = λ isnt. not_both new.ready ready isnt;
      any_moment = o.any_moment;
      handles = record { left = left; right = right; sound = o.sound; later = o.later; store = λ is. cc; bad = not_bad of old.journal.disk old.ready };
    } where
      closed_of : (s : State) → Stays of old s → (c : List ℕ) → of.may_leave old.journal.disk c → IsImageOf s c
      closed_of s stays = stays_now of old s stays

      settled : (s : State) → Stays of old s → ((c : List ℕ) → of.may_leave old.journal.disk c → IsImageOf s c) → Settled of (λ world. world ≡ new.world) old new s
      settled s stays each =
          let found = o.opened (stays_sound of old s stays) in
          let i = each found.image found.left in
          let settles : Settles s found.entries = subst (λ l. Settles s l) (same_entries codec found.image i.0 found.entries i.2 found.has) i.1 in
          let at : IsAt of new found.entries = record { ready = ready; valid = found.valid; ends = found.ends; world = found.leads } in (
            at_rest found.entries,
            (found.entries, new.world, settles, found.leads, refl, refl),
            record {
              stays = inl (at, refl);
              since = since_either s (at_rest found.entries) stays (o.any_moment (stays_sound of old s stays));
              counts = λ counted. seq ∙ world_counts found.entries new.world found.leads;
            },
          )

    -- it could not be opened
    pub looks_shut : (trouble : Trouble) → new.ready ≡ false → new.seq ≡ old.seq → Opens of old.journal.disk new.journal (Err trouble) → Looks of old new (Some trouble)
    looks_shut trouble shut seq o = record {
      same = unready;
      meets = λ is. not_both new.ready is shut;
      settled = λ is. not_both new.ready is shut;
      closed = λ isnt. (
        was,
        seq,
        λ s stays. record {
          stays = inr (record {
            closed = shut;
            sound = o.sound.0 (stays_sound of old s stays);
            each = at_end of.moment of.left_since old.journal.disk new.journal.disk (IsImageOf s) counts (since_opened s stays (o.any_moment (stays_sound of old s stays)));
          });
          since = since_either s s stays (o.any_moment (stays_sound of old s stays));
          counts = λ counted. seq ∙ counted;
        },
      );
      any_moment = o.any_moment;
      handles = record {
        left = left;
        right = right;
        sound = o.sound;
        later = o.later;
        store = λ is. o.store (err_of trouble StoreFault is);
        bad = λ place is. (was, bad_place of old.journal.disk trouble place o.trouble (same_some trouble (BadStore place) is));
      };
    } where
      same_some : (a b : Trouble) → Some a ≡ Some b → a ≡ b
      same_some a b is = cc

      err_of : (a b : Trouble) → Some a ≡ Some b → failed a ≡ failed b
      err_of a b is = ap failed (same_some a b is)

-- memory ran out once it was ready
pub looks_starved : {D : Type 0} (of : Ghosts D) (old new : View D) → Looks of old new None → Looks of old new (Some NoMemory)
looks_starved of old new looks = record {
  same = looks.same;
  meets = looks.meets;
  settled = looks.settled;
  closed = looks.closed;
  any_moment = looks.any_moment;
  handles = record {
    left = looks.handles.left;
    right = looks.handles.right;
    sound = looks.handles.sound;
    later = looks.handles.later;
    store = λ is. cc;
    bad = λ place is. cc;
  };
}

-- an engine that was opened is sure of its journal
pub sure_opened : {D : Type 0} (of : Ghosts D) (old : D) (new : View D) → new.ready ≡ true → new.seq ≡ new.world.entries → Opens of old new.journal (Ok new.world) → IsSure of new
sure_opened of old new ready seq o = record {
  counted = seq;
  room = o.room.0;
  bound = o.room.1;
  leads = o.leads;
  at_end = o.at_end;
  at = λ sound.
      let found = o.opened (o.sound.1 sound) in
      (found.entries, record { ready = ready; valid = found.valid; ends = found.ends; world = found.leads });
}
