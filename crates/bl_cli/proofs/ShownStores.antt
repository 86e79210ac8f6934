-- What is shown of a store that is opened, or can't be.
use Rattle.std.specs.Prelude.{◌≡◌, ◌≤◌, ℕ, true, List, Result, Ok, Err, refl}
use Rattle.std.specs.declared.option.Option.{Option}
use Rattle.std.proofs.Common.{sym, ap, subst, ◌∙◌, inl, inr, ⊎_elim, arith}
use Rattle.std.proofs.lemmas.Bool.{true≢false}
use Rattle.bl_outside.specs.Counts.{Rose}
use Rattle.bl_outside.specs.Sound.{IsSound, Since}
use Rattle.bl_outside.specs.declared.disk.Disk.{Ghosts}
use Rattle.bl_outside.specs.declared.disks.Disks.{Disks}
use Rattle.bl_journal.specs.Frames.{AsBefore}
use Rattle.bl_entry.specs.declared.entry.Entry.{Entry}
use Rattle.bl_world.specs.States.{at_rest}
use Rattle.bl_world.specs.Worlds.{IsWorldOf}
use Rattle.bl_engine.specs.Engines.{IsAt, View}
use Rattle.bl_engine.specs.Images.{IsImageOf}
use Rattle.bl_engine.specs.Openings.{Opens, TroubleIs}
use Rattle.bl_engine.specs.declared.refusals.Trouble.{Trouble}
use Rattle.bl_engine.specs.declared.refusals.Trouble.TheVariants as trouble
use Rattle.bl_engine.proofs.Settling.{stays_now}
use Rattle.bl_cli.specs.declared.command.Look.{Look}
use Rattle.bl_cli.specs.declared.status.Status.{Status}
use Rattle.bl_cli.specs.declared.status.Status.TheVariants as status
use Rattle.bl_cli.specs.Ends.{IsDone, IsNothing, IsOfShow}
use Rattle.bl_cli.specs.LoadFaults.{fault_from, status_of, status_trouble}
use Rattle.bl_cli.specs.Printing.{Adds, AddsFront, Written}
use Rattle.bl_cli.specs.Shown.{IsAnswer, Tells, told}
use Rattle.bl_cli.specs.Shows.{PrintsShown, PrintsText, PrintsTold, ShowRuns, ShowsOver}
use Rattle.bl_cli.specs.Stores.{IsUntouched, LeadsTo}
use Rattle.bl_cli.proofs.OpenedStores.{bad_is, err_of, left_untouched, no_write, rose_later, store_is, undone}

-- ---- over an engine

-- a status for which nothing is printed
record Untold (truth : Result (List ℕ) Status) (why : Status) : Type 0 where
  pub undone : ¬ IsDone why
  pub nothing : IsNothing why → truth ≡ Err why
  pub ends : IsOfShow why
  pub no_write : ¬ (why ≡ status.WriteFault)

untold_is : (truth : Result (List ℕ) Status) (why : Status) → IsAnswer truth (Err why) → Untold truth why
untold_is truth status.Ok is = absurd is
untold_is truth status.JobNotCompleted is = absurd is
untold_is truth status.Usage is = absurd is
untold_is truth status.ReadFault is = absurd is
untold_is truth status.WriteFault is = absurd is
untold_is truth status.StoreFault is = record { undone = λ no. no; nothing = λ no. absurd no; ends = tt; no_write = λ e. cc }
untold_is truth (status.BadStore place) is = record { undone = λ no. no; nothing = λ no. absurd no; ends = tt; no_write = λ e. cc }
untold_is truth status.NoMemory is = record { undone = λ no. no; nothing = λ no. absurd no; ends = tt; no_write = λ e. cc }
untold_is truth status.InputTooLong is = absurd is
untold_is truth status.TornInput is = absurd is
untold_is truth status.JournalFull is = absurd is
untold_is truth status.NumbersUsedUp is = absurd is
untold_is truth status.UnknownLoad is = record { undone = λ no. no; nothing = λ _. is; ends = tt; no_write = λ e. cc }
untold_is truth status.NoRecords is = record { undone = λ no. no; nothing = λ _. is; ends = tt; no_write = λ e. cc }

module _ {D : Type 0} (of : Ghosts D) (what : Look) (old new : View D) (before : Option (List ℕ)) (was : ℕ) where
  -- there is nothing to print
  pub over_untold : (why : Status) → Tells of what old new (Err why) → ShowsOver of what old new before before was was why
  over_untold why tells =
      let is = untold_is (told what old.world) why tells.answer in
      record {
        done = λ done. absurd (is.undone done);
        begun = λ _. inl refl;
        quiet = λ _. refl;
        nothing = is.nothing;
        ends = is.ends;
        write_fault = λ same. absurd (is.no_write same);
        same = tells.same;
        handles = tells.handles;
        later = omega arith;
      }

  module _ (text : List ℕ) (tells : Tells of what old new (Ok text)) (after : Option (List ℕ)) (now : ℕ) (later : was ≤ now) where
    whole : Written before after (Adds text) → ShowsOver of what old new before after was now status.Ok
    whole written = record {
      done = λ _. record { text = text; told_is = tells.answer; prints = written };
      begun = λ begun. absurd begun;
      quiet = λ quiet. absurd quiet;
      nothing = λ nothing. absurd nothing;
      ends = tt;
      write_fault = λ same. absurd (cc (same));
      same = tells.same;
      handles = tells.handles;
      later = later;
    }

    in_part : Rose was now → Written before after (AddsFront text) → ShowsOver of what old new before after was now status.WriteFault
    in_part rose written = record {
      done = λ done. absurd done;
      begun = λ _. inr (record { text = text; told_is = tells.answer; prints = written });
      quiet = λ quiet. absurd quiet;
      nothing = λ nothing. absurd nothing;
      ends = tt;
      write_fault = λ _. rose;
      same = tells.same;
      handles = tells.handles;
      later = later;
    }

  -- it is printed, or a front of it
  pub over_told : (text : List ℕ) → Tells of what old new (Ok text) → (after : Option (List ℕ)) (now : ℕ) (it : Status) → PrintsText before after was now text it → ShowsOver of what old new before after was now it
  over_told text tells after now it prints =
      ⊎_elim
      (λ (is : (it ≡ status.Ok) × Written before after (Adds text)). subst (λ s. ShowsOver of what old new before after was now s) (sym is.0) (whole text tells after now prints.later is.1))
      (λ (is : (it ≡ status.WriteFault) × Rose was now × Written before after (AddsFront text)). subst (λ s. ShowsOver of what old new before after was now s) (sym is.0) (in_part text tells after now prints.later is.1 is.2))
      prints.printed

-- ---- a store that could not be opened

of_show : (why : Trouble) → IsOfShow (status_of (fault_from why))
of_show trouble.StoreFault = tt
of_show (trouble.BadStore place) = tt
of_show trouble.NoMemory = tt

no_nothing : (why : Trouble) → ¬ IsNothing (status_of (fault_from why))
no_nothing trouble.StoreFault is = is
no_nothing (trouble.BadStore place) is = is
no_nothing trouble.NoMemory is = is

module _ {D : Type 0} (of : Ghosts D) (counts : (disk : D) (t : ℕ) (c : List ℕ) → t ≤ of.moment disk → of.may_leave disk c → of.left_since disk t c) (what : Look) (old new : Disks D) (before : Option (List ℕ)) where
  module _ (count place : ℕ) (why : Trouble) (opens : Opens of old.journal (record { disk = new.journal; place = place }) (Err why)) (slots : (new.left ≡ old.left) × (new.right ≡ old.right)) where
    pub refused_shows : ShowRuns of what old new before before count count (status_of (fault_from why))
    refused_shows = record {
      done = λ done. absurd (undone why done);
      begun = λ _. inl refl;
      quiet = λ _. refl;
      nothing = λ nothing. absurd (no_nothing why nothing);
      ends = of_show why;
      write_fault = λ is. absurd (no_write why is);
      store_fault = λ is. opens.store (ap err_of (store_is why is));
      bad_store = λ at is told. subst (λ (w : Trouble). TroubleIs (of.seen old.journal) w) (bad_is why at is) (opens.trouble told);
      untouched = λ sound. opens.any_moment sound;
      left = λ left. left_untouched of counts old new (opens.sound.0 left.sound) (opens.any_moment left.sound) left;
      slots = slots;
    }

  -- ---- a store that was opened

  module _ (engine last : View D) (opens : Opens of old.journal engine.journal (Ok engine.world)) (ready : engine.ready ≡ true) (slots : (engine.left ≡ old.left) × (engine.right ≡ old.right))
      (leads : last.ready ≡ true → (entries : List Entry) × IsWorldOf entries last.world) (at : last.ready ≡ true → IsSound of last.journal.disk → (entries : List Entry) × IsAt of last entries)
      (journal : new.journal ≡ last.journal.disk) (left_is : new.left ≡ last.left) (right_is : new.right ≡ last.right) (after : Option (List ℕ)) (was now : ℕ) (end : Status)
      (over : ShowsOver of what engine last before after was now end) where
    ready_last : last.ready ≡ true
    ready_last = ap (λ (v : View D). v.ready) over.same ∙ ready

    world_same : last.world ≡ engine.world
    world_same = ap (λ (v : View D). v.world) over.same

    disk_same : new.journal ≡ engine.journal.disk
    disk_same = journal ∙ ap (λ (v : View D). v.journal.disk) over.same

    sound_new : IsSound of old.journal → IsSound of new.journal
    sound_new sound = subst (λ d. IsSound of d) (sym disk_same) (opens.sound.0 sound)

    untouched : IsSound of old.journal → IsUntouched of old new
    untouched sound = subst (λ d. Since of old.journal d (AsBefore (of.may_leave old.journal))) (sym disk_same) (opens.any_moment sound)

    stands : IsSound of old.journal → LeadsTo of new engine.world
    stands sound image now =
        let is_at = at ready_last (subst (λ d. IsSound of d) journal (sound_new sound)) in
        let is : IsImageOf (at_rest is_at.0) image = stays_now of last (at_rest is_at.0) (inl (is_at.1, refl)) image (subst (λ d. of.may_leave d image) journal now) in
        (is.0, is.2, subst (λ w. IsWorldOf is.0 w) world_same (subst (λ l. IsWorldOf l last.world) (sym is.1) is_at.1.world))

    shown : (P : List ℕ → List ℕ → List ℕ → Type 0) → PrintsTold P what engine.world before after → PrintsShown P of what old new before after
    shown P prints =
        let entries = leads ready_last in
        record {
          world = engine.world;
          found = opens.judged;
          prints = prints;
          leads = (entries.0, subst (λ w. IsWorldOf entries.0 w) world_same entries.1);
          stands = stands;
        }

    pub opened_shows : ShowRuns of what old new before after was now end
    opened_shows = record {
      done = λ done. shown Adds (over.done done);
      begun = λ begun. ⊎_elim (λ nothing. inl nothing) (λ (made : PrintsTold AddsFront what engine.world before after). inr (shown AddsFront made)) (over.begun begun);
      quiet = over.quiet;
      nothing = λ nothing. (engine.world, opens.judged, over.nothing nothing);
      ends = over.ends;
      write_fault = over.write_fault;
      store_fault = λ is. subst (λ d. Rose (of.faults old.journal) (of.faults d)) (sym journal) (rose_later (of.faults old.journal) (of.faults engine.journal.disk) (of.faults last.journal.disk) opens.later (over.handles.store (ap status_trouble is)));
      bad_store = λ place is told. absurd (true≢false (sym ready ∙ (over.handles.bad place (ap status_trouble is)).0));
      untouched = untouched;
      left = λ left. left_untouched of counts old new (sound_new left.sound) (untouched left.sound) left;
      slots = (left_is ∙ over.handles.left ∙ slots.0, right_is ∙ over.handles.right ∙ slots.1);
    }
