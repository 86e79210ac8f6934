-- A script over a store that is opened, or can't be.
use Rattle.std.specs.Prelude.{◌≡◌, ◌≤◌, ℕ, true, List, None, Some, Result, Ok, Err, refl}
use Rattle.std.specs.declared.option.Option.{Option}
use Rattle.std.proofs.Common.{sym, ap, subst, ◌∙◌, inl, inr}
use Rattle.bl_outside.specs.Counts.{Rose}
use Rattle.bl_outside.specs.Folders.{Files}
use Rattle.bl_outside.specs.Sound.{IsSound}
use Rattle.bl_outside.specs.declared.disk.Disk.{Ghosts}
use Rattle.bl_outside.specs.declared.disks.Disks.{Disks}
use Rattle.bl_entry.specs.declared.entry.Entry.{Entry}
use Rattle.bl_world.specs.States.{State, at_rest}
use Rattle.bl_engine.specs.Engines.{IsAt, Stays, View}
use Rattle.bl_engine.specs.Images.{IsLeft}
use Rattle.bl_engine.specs.Openings.{Opened, Opens, TroubleIs}
use Rattle.bl_engine.specs.declared.refusals.Trouble.{Trouble}
use Rattle.bl_engine.specs.declared.refusals.Trouble.TheVariants as trouble
use Rattle.bl_load.specs.Turns.{DrainsOver}
use Rattle.bl_load.specs.declared.turn_fault.TurnFault.TheVariants as turn
use Rattle.bl_session.specs.declared.step.SessionFault.{SessionFault}
use Rattle.bl_session.specs.declared.step.SessionFault.TheVariants as session
use Rattle.bl_script.specs.declared.script_end.ScriptEnd.{ScriptEnd}
use Rattle.bl_script.specs.declared.script_end.ScriptEnd.TheVariants as end
use Rattle.bl_script.specs.KeptStores.{IsKept}
use Rattle.bl_cli.specs.declared.status.Status.{Status}
use Rattle.bl_cli.specs.declared.status.Status.TheVariants as status
use Rattle.bl_cli.specs.Ends.{IsOfScript}
use Rattle.bl_cli.specs.LoadFaults.{fault_from, status_of}
use Rattle.bl_cli.specs.ScriptRuns.{Input, LeavesEngine, ScriptRuns, ScriptsOver, script_status}
use Rattle.bl_cli.specs.Stores.{HasGrown, LeadsTo, RunsOver}
use Rattle.bl_cli.proofs.MadeLoads.{of_files}
use Rattle.bl_cli.proofs.OpenedStores.{bad_is, err_of, grown, leads_now, left_grown, left_untouched, no_write, rose_later, store_is}

-- ---- statuses

pub ends_script : (came : Result ScriptEnd SessionFault) → IsOfScript (script_status came)
ends_script (Ok (end.Drained None)) = tt
ends_script (Ok (end.Drained (Some turn.JournalFull))) = tt
ends_script (Ok (end.Drained (Some turn.StoreFault))) = tt
ends_script (Ok (end.Drained (Some (turn.BadStore place)))) = tt
ends_script (Ok (end.Drained (Some turn.NoMemory))) = tt
ends_script (Ok end.Torn) = tt
ends_script (Ok end.TooLong) = tt
ends_script (Err session.ReadFault) = tt
ends_script (Err session.WriteFault) = tt
ends_script (Err session.NoMemory) = tt

is_read : (came : Result ScriptEnd SessionFault) → script_status came ≡ status.ReadFault → came ≡ Err session.ReadFault
is_read (Ok (end.Drained None)) is = absurd (cc (is))
is_read (Ok (end.Drained (Some turn.JournalFull))) is = absurd (cc (is))
is_read (Ok (end.Drained (Some turn.StoreFault))) is = absurd (cc (is))
is_read (Ok (end.Drained (Some (turn.BadStore place)))) is = absurd (cc (is))
is_read (Ok (end.Drained (Some turn.NoMemory))) is = absurd (cc (is))
is_read (Ok end.Torn) is = absurd (cc (is))
is_read (Ok end.TooLong) is = absurd (cc (is))
is_read (Err session.ReadFault) is = refl
is_read (Err session.WriteFault) is = absurd (cc (is))
is_read (Err session.NoMemory) is = absurd (cc (is))

is_write : (came : Result ScriptEnd SessionFault) → script_status came ≡ status.WriteFault → came ≡ Err session.WriteFault
is_write (Ok (end.Drained None)) is = absurd (cc (is))
is_write (Ok (end.Drained (Some turn.JournalFull))) is = absurd (cc (is))
is_write (Ok (end.Drained (Some turn.StoreFault))) is = absurd (cc (is))
is_write (Ok (end.Drained (Some (turn.BadStore place)))) is = absurd (cc (is))
is_write (Ok (end.Drained (Some turn.NoMemory))) is = absurd (cc (is))
is_write (Ok end.Torn) is = absurd (cc (is))
is_write (Ok end.TooLong) is = absurd (cc (is))
is_write (Err session.ReadFault) is = absurd (cc (is))
is_write (Err session.WriteFault) is = refl
is_write (Err session.NoMemory) is = absurd (cc (is))

is_store : (came : Result ScriptEnd SessionFault) → script_status came ≡ status.StoreFault → came ≡ Ok (end.Drained (Some turn.StoreFault))
is_store (Ok (end.Drained None)) is = absurd (cc (is))
is_store (Ok (end.Drained (Some turn.JournalFull))) is = absurd (cc (is))
is_store (Ok (end.Drained (Some turn.StoreFault))) is = refl
is_store (Ok (end.Drained (Some (turn.BadStore place)))) is = absurd (cc (is))
is_store (Ok (end.Drained (Some turn.NoMemory))) is = absurd (cc (is))
is_store (Ok end.Torn) is = absurd (cc (is))
is_store (Ok end.TooLong) is = absurd (cc (is))
is_store (Err session.ReadFault) is = absurd (cc (is))
is_store (Err session.WriteFault) is = absurd (cc (is))
is_store (Err session.NoMemory) is = absurd (cc (is))

abbrev bad_end : ℕ → Result ScriptEnd SessionFault
bad_end place = Ok (end.Drained (Some (turn.BadStore place)))

is_bad : (came : Result ScriptEnd SessionFault) (at : ℕ) → script_status came ≡ status.BadStore at → came ≡ bad_end at
is_bad (Ok (end.Drained None)) at is = absurd (cc (is))
is_bad (Ok (end.Drained (Some turn.JournalFull))) at is = absurd (cc (is))
is_bad (Ok (end.Drained (Some turn.StoreFault))) at is = absurd (cc (is))
is_bad (Ok (end.Drained (Some (turn.BadStore place)))) at is = let same : place ≡ at = cc (is) in ap bad_end same
is_bad (Ok (end.Drained (Some turn.NoMemory))) at is = absurd (cc (is))
is_bad (Ok end.Torn) at is = absurd (cc (is))
is_bad (Ok end.TooLong) at is = absurd (cc (is))
is_bad (Err session.ReadFault) at is = absurd (cc (is))
is_bad (Err session.WriteFault) at is = absurd (cc (is))
is_bad (Err session.NoMemory) at is = absurd (cc (is))

-- ---- over an engine

pub leaves_engine : {D : Type 0} (of : Ghosts D) (files : Option Files) (input : Input) (old new : View D) (was now : ℕ) (came : Result ScriptEnd SessionFault)
    → ((told : Files) → files ≡ Some told → (state : State) → Stays of old state → DrainsOver of told old new state) → IsKept of old new
    → (came ≡ Err session.ReadFault → Rose input.was input.now) → (came ≡ Err session.WriteFault → Rose was now)
    → (came ≡ Ok (end.Drained (Some turn.StoreFault)) → Rose (of.faults old.journal.disk) (of.faults new.journal.disk))
    → ((state : State) → Stays of old state → (place : ℕ) → ¬ (came ≡ Ok (end.Drained (Some (turn.BadStore place)))))
    → LeavesEngine of files input old new was now (script_status came)
leaves_engine of files input old new was now came drains keeps read write store bad = record {
  drains = drains;
  keeps = keeps;
  read_fault = λ is. read (is_read came is);
  write_fault = λ is. write (is_write came is);
  store_fault = λ is. store (is_store came is);
  never_bad = λ state stays place is. bad state stays place (is_bad came place is);
}

-- ---- a store that could not be opened

of_script : (why : Trouble) → IsOfScript (status_of (fault_from why))
of_script trouble.StoreFault = tt
of_script (trouble.BadStore place) = tt
of_script trouble.NoMemory = tt

no_read : (why : Trouble) → ¬ (status_of (fault_from why) ≡ status.ReadFault)
no_read trouble.StoreFault is = cc
no_read (trouble.BadStore place) is = cc
no_read trouble.NoMemory is = cc

module _ {D : Type 0} (of : Ghosts D) (files : Option Files) (salt turns : ℕ) (input : Input) (old new : Disks D) where
  pub refused_script : ((disk : D) (t : ℕ) (c : List ℕ) → t ≤ of.moment disk → of.may_leave disk c → of.left_since disk t c) → (before : Option (List ℕ)) (count place : ℕ) (why : Trouble)
      → Opens of old.journal (record { disk = new.journal; place = place }) (Err why) → (new.left ≡ old.left) × (new.right ≡ old.right)
      → ScriptRuns of files salt turns input old new before before count count (status_of (fault_from why))
  refused_script counts before count place why opens slots = record {
    script = inr (inl (record { why = why; place = place; opens = opens; status_is = refl; quiet = refl }));
    ends = of_script why;
    read_fault = λ is. absurd (no_read why is);
    write_fault = λ is. absurd (no_write why is);
    store_fault = λ is. opens.store (ap err_of (store_is why is));
    bad_store = λ at is. inl (λ told. subst (λ (w : Trouble). TroubleIs (of.seen old.journal) w) (bad_is why at is) (opens.trouble told));
    runs = λ left. of_files files (λ told. RunsOver of told old new) (λ told same. inl (opens.any_moment left.sound));
    left = λ left. of_files files (λ told. IsLeft of new) (λ told same. left_untouched of counts old new (opens.sound.0 left.sound) (opens.any_moment left.sound) left);
    slots = slots;
  }

  -- ---- a store that was opened

  module _ (engine last : View D) (opens : Opens of old.journal engine.journal (Ok engine.world)) (ready : engine.ready ≡ true) (slots : (engine.left ≡ old.left) × (engine.right ≡ old.right))
      (at : last.ready ≡ true → IsSound of last.journal.disk → (entries : List Entry) × IsAt of last entries) (journal : new.journal ≡ last.journal.disk) (left_is : new.left ≡ last.left) (right_is : new.right ≡ last.right)
      (before after : Option (List ℕ)) (was now : ℕ) (it : Status) (over : ScriptsOver of files salt turns input engine last before after it) (leaves : LeavesEngine of files input engine last was now it) (ends : IsOfScript it) where
    sound_last : IsSound of old.journal → IsSound of last.journal.disk
    sound_last sound = leaves.keeps.sound.0 (opens.sound.0 sound)

    sound_new : IsSound of old.journal → IsSound of new.journal
    sound_new sound = subst (λ d. IsSound of d) (sym journal) (sound_last sound)

    stands : last.ready ≡ true → IsSound of old.journal → LeadsTo of new last.world
    stands is_ready sound = let stand = at is_ready (sound_last sound) in leads_now of new last journal stand.0 stand.1

    first_at : IsSound of old.journal → (entries : List Entry) × IsAt of engine entries
    first_at sound =
        let opened : Opened of old.journal engine.journal engine.world = opens.opened sound in
        (opened.entries, record { ready = ready; valid = opened.valid; ends = opened.ends; world = opened.leads })

    grown_over : (told : Files) → files ≡ Some told → IsSound of old.journal → HasGrown of told old new
    grown_over told is sound = grown of told old new engine last opens ready journal sound (λ entries at_first. leaves.drains told is (at_rest entries) (inl (at_first, refl)))

    never : (place : ℕ) → it ≡ status.BadStore place → ¬ (IsLeft of old)
    never place is left = let first = first_at left.sound in leaves.never_bad (at_rest first.0) (inl (first.1, refl)) place is

    pub opened_script : ScriptRuns of files salt turns input old new before after was now it
    opened_script = record {
      script = inl (record { engine = engine; opens = opens; ready = ready; last = last; over = over; journal = journal; stands = stands });
      ends = ends;
      read_fault = leaves.read_fault;
      write_fault = leaves.write_fault;
      store_fault = λ is. subst (λ d. Rose (of.faults old.journal) (of.faults d)) (sym journal) (rose_later (of.faults old.journal) (of.faults engine.journal.disk) (of.faults last.journal.disk) opens.later (leaves.store_fault is));
      bad_store = λ place is. inr (never place is);
      runs = λ left. of_files files (λ told. RunsOver of told old new) (λ told is. inr (grown_over told is left.sound));
      left = λ left. of_files files (λ told. IsLeft of new) (λ told is. left_grown of told old new (sound_new left.sound) (grown_over told is left.sound));
      slots = (left_is ∙ leaves.keeps.left ∙ slots.0, right_is ∙ leaves.keeps.right ∙ slots.1);
    }
