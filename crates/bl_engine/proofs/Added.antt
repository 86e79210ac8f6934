-- An entry is taken into the world, and appended to the journal.
use Rattle.std.proofs.Common.{◌≡◌, ◌⊎◌, ◌↔◌, inl, ℕ, ◌≤◌, ◌+◌, List, [], ◌∷◌, ◌++◌, length, Ok, Err, OnOk, IsErrOf, refl, sym, ap, subst, arith}
use Rattle.std.specs.Prelude.{Result}
use Rattle.bl_outside.specs.Counts.{Rose}
use Rattle.bl_outside.specs.declared.disk.Disk.{Ghosts}
use Rattle.bl_journal.specs.Frames.{WithOrWithout}
use Rattle.bl_journal.specs.Journals.{Ends, HasRoom, IsAtEnd, IsFull, IsSound, JournalRecord, Since}
use Rattle.bl_journal.specs.declared.refusal.AppendRefusal.{AppendRefusal}
use Rattle.bl_journal.specs.declared.refusal.AppendRefusal.TheVariants as append
use Rattle.bl_entry.specs.declared.entry.Entry.{Entry}
use Rattle.bl_entry.specs.Encoding.{entry_bytes}
use Rattle.bl_world.specs.Worlds.{IsBegun, Step, World}
use Rattle.bl_engine.specs.declared.appending.Unappended.{Unappended}
use Rattle.bl_engine.specs.declared.appending.Unappended.TheVariants.{Untried, Refused}
use Rattle.bl_engine.specs.Appending.{Adds}
use Rattle.bl_engine.proofs.Committed.{ends_has}
use Rattle.bl_engine.proofs.Looking.{quiet}

abbrev refused_by : AppendRefusal → Result (Unit {0}) Unappended
refused_by refusal = Err (Refused refusal)

module _ {D : Type 0} (of : Ghosts D) (entry : Entry) (old : JournalRecord D) (begun : World) where
  -- nothing was changed
  pub adds_untried : ((disk : D) (t : ℕ) (c : List ℕ) → t ≤ of.moment disk → of.may_leave disk c → of.left_since disk t c) → ((disk : D) (c : List ℕ) → of.left_since disk (of.moment disk) c → of.may_leave disk c)
      → (world : World) → world ≡ begun → Adds of entry old old begun world (Err Untried)
  adds_untried counts only world same = record {
    untried = λ is. (refl, same);
    step = λ tried. absurd tried;
    acknowledged = tt;
    at_end = tt;
    room = tt;
    any_moment = λ bodies e. quiet of counts only old.disk (WithOrWithout bodies (entry_bytes entry)) (λ c now. inl (ends_has of old bodies e c now));
    full = λ is. cc;
    store = λ is. cc;
    sound = ((λ s. s), λ s. s);
    later = omega arith;
  }

  module _ (new : JournalRecord D) (world : World) (step : (before : World) → IsBegun before entry begun → Step before entry world) (body : List ℕ) (is : body ≡ entry_bytes entry)
      (run : (bodies : List (List ℕ)) → Ends of old bodies → Since of old.disk new.disk (WithOrWithout bodies body)) (sound : IsSound of old.disk ↔ IsSound of new.disk) (later : of.faults old.disk ≤ of.faults new.disk) where
    -- the journal has it
    pub adds_done : ((bodies : List (List ℕ)) → Ends of old bodies → Ends of new (bodies ++ body ∷ [])) → IsAtEnd of new → HasRoom old.place (length body) → new.place ≡ old.place + 5 + length body → Adds of entry old new begun world (Ok tt)
    adds_done acknowledged ends room place = record {
      untried = λ is. cc;
      step = λ tried. step;
      acknowledged = subst (λ b. (bodies : List (List ℕ)) → Ends of old bodies → Ends of new (bodies ++ b ∷ [])) is acknowledged;
      at_end = ends;
      room = (subst (λ b. HasRoom old.place (length b)) is room, subst (λ b. new.place ≡ old.place + 5 + length b) is place);
      any_moment = subst (λ b. (bodies : List (List ℕ)) → Ends of old bodies → Since of old.disk new.disk (WithOrWithout bodies b)) is run;
      full = λ is. cc;
      store = λ is. cc;
      sound = sound;
      later = later;
    }

    -- it has refused it, or it isn't known whether it has it
    pub adds_refused : (refusal : AppendRefusal) → (refusal ≡ append.Full → (new ≡ old) × IsFull old.place (length body)) → (refusal ≡ append.StoreFault → Rose (of.faults old.disk) (of.faults new.disk)) → Adds of entry old new begun world (Err (Refused refusal))
    adds_refused refusal full store = record {
      untried = λ is. cc;
      step = λ tried. step;
      acknowledged = tt;
      at_end = tt;
      room = tt;
      any_moment = subst (λ b. (bodies : List (List ℕ)) → Ends of old bodies → Since of old.disk new.disk (WithOrWithout bodies b)) is run;
      full = λ h. let f = full (same_refusal refusal append.Full h) in (f.0, subst (λ b. IsFull old.place (length b)) is f.1);
      store = λ h. store (same_refusal refusal append.StoreFault h);
      sound = sound;
      later = later;
    } where
      same_refusal : (a b : AppendRefusal) → refused_by a ≡ refused_by b → a ≡ b
      same_refusal a b h = cc
