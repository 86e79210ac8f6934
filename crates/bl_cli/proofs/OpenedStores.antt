-- A load over a store that is opened, or can't be.
use Rattle.std.specs.Prelude.{◌≡◌, ◌⊎◌, ◌≤◌, ℕ, true, List, [], ◌++◌, Some, Result, Ok, Err, refl}
use Rattle.std.specs.declared.option.Option.{Option}
use Rattle.std.proofs.Common.{sym, ap, subst, ◌∙◌, inl, inr, ⊎_elim, arith}
use Rattle.std.proofs.lemmas.Bool.{true≢false}
use Rattle.bl_outside.specs.Counts.{Rose}
use Rattle.bl_outside.specs.Folders.{Files}
use Rattle.bl_outside.specs.Sound.{IsSound, Since}
use Rattle.bl_outside.specs.declared.disk.Disk.{Ghosts}
use Rattle.bl_outside.specs.declared.disks.Disks.{Disks}
use Rattle.bl_outside.proofs.Moments.{at_end, then_runs, weaker}
use Rattle.bl_journal.specs.Frames.{AsBefore}
use Rattle.bl_queue.specs.declared.job.Job.{Job}
use Rattle.bl_entry.specs.declared.entry.Entry.{Entry}
use Rattle.bl_world.specs.States.{AreNew, Grows, State, at_rest}
use Rattle.bl_world.specs.Worlds.{IsWorldOf, World}
use Rattle.bl_chain.specs.Folders.{AreTablesOf}
use Rattle.bl_chain.specs.MadeEntries.{IsMade}
use Rattle.bl_engine.specs.Calls.{Reaches}
use Rattle.bl_engine.specs.Engines.{IsAt, View}
use Rattle.bl_engine.specs.Images.{IsImageOf, IsLeft}
use Rattle.bl_engine.specs.Openings.{IsTold, Judges, Opened, Opens, TroubleIs}
use Rattle.bl_engine.specs.declared.refusals.Trouble.{Trouble}
use Rattle.bl_engine.specs.declared.refusals.Trouble.TheVariants as trouble
use Rattle.bl_engine.proofs.Settling.{stays_now}
use Rattle.bl_load.specs.Turns.{DrainsOver}
use Rattle.bl_load.proofs.ResumedLoads.{reached_resumed}
use Rattle.bl_cli.specs.declared.asked.Asked.{Asked}
use Rattle.bl_cli.specs.declared.status.Status.{Status}
use Rattle.bl_cli.specs.declared.status.Status.TheVariants as status
use Rattle.bl_cli.specs.LoadFaults.{fault_from, status_of, status_trouble}
use Rattle.bl_cli.specs.Loads.{LacksRoom}
use Rattle.bl_cli.specs.Printing.{Adds, AddsFront}
use Rattle.bl_cli.specs.Ends.{IsDone, IsOfLoad}
use Rattle.bl_cli.specs.LoadRuns.{HasNoPlace, LoadRuns, LoadsOver, PrintsJob, PrintsLoad}
use Rattle.bl_cli.specs.Stores.{EndsBehind, HasGrown, IsOnTheWay, LeadsTo, RunsOver}
use Rattle.bl_cli.proofs.MadeLoads.{of_files, told_files}

pub rose_later : (a b c : ℕ) → a ≤ b → Rose b c → Rose a c
rose_later a b c le rose = omega (arith, rose)

-- ---- the statuses that tell of a trouble

abbrev pub err_of : Trouble → Result World Trouble
err_of why = Err why

pub undone : (why : Trouble) → ¬ IsDone (status_of (fault_from why))
undone trouble.StoreFault done = done
undone (trouble.BadStore place) done = done
undone trouble.NoMemory done = done

pub of_load : (why : Trouble) → IsOfLoad (status_of (fault_from why))
of_load trouble.StoreFault = tt
of_load (trouble.BadStore place) = tt
of_load trouble.NoMemory = tt

pub no_write : (why : Trouble) → ¬ (status_of (fault_from why) ≡ status.WriteFault)
no_write trouble.StoreFault is = cc
no_write (trouble.BadStore place) is = cc
no_write trouble.NoMemory is = cc

no_numbers : (why : Trouble) → ¬ (status_of (fault_from why) ≡ status.NumbersUsedUp)
no_numbers trouble.StoreFault is = cc
no_numbers (trouble.BadStore place) is = cc
no_numbers trouble.NoMemory is = cc

no_room : (why : Trouble) → ¬ (status_of (fault_from why) ≡ status.JournalFull)
no_room trouble.StoreFault is = cc
no_room (trouble.BadStore place) is = cc
no_room trouble.NoMemory is = cc

pub store_is : (why : Trouble) → status_of (fault_from why) ≡ status.StoreFault → why ≡ trouble.StoreFault
store_is trouble.StoreFault is = refl
store_is (trouble.BadStore place) is = absurd (cc (is))
store_is trouble.NoMemory is = absurd (cc (is))

pub bad_is : (why : Trouble) (at : ℕ) → status_of (fault_from why) ≡ status.BadStore at → why ≡ trouble.BadStore at
bad_is trouble.StoreFault at is = absurd (cc (is))
bad_is (trouble.BadStore place) at is = let same : place ≡ at = cc (is) in ap trouble.BadStore same
bad_is trouble.NoMemory at is = absurd (cc (is))

-- ---- a store that could not be opened

module _ {D : Type 0} (of : Ghosts D) (counts : (disk : D) (t : ℕ) (c : List ℕ) → t ≤ of.moment disk → of.may_leave disk c → of.left_since disk t c) where
  -- it is left as it was
  pub left_untouched : (old new : Disks D) → IsSound of new.journal → Since of old.journal new.journal (AsBefore (of.may_leave old.journal)) → IsLeft of old → IsLeft of new
  left_untouched old new sound since left = record {
    sound = sound;
    each = λ image now.
        let was : AsBefore (of.may_leave old.journal) image = at_end of.moment of.left_since {may_leave = of.may_leave} old.journal new.journal (AsBefore (of.may_leave old.journal)) counts since image now in
        let had = left.each was.0 was.1 in
        (had.0, record { valid = had.1.valid; frames = was.2 ∙ had.1.frames; world = had.1.world; leads = had.1.leads });
  }

  module _ (files : Option Files) (salt : ℕ) (load : Asked) (old new : Disks D) (before : Option (List ℕ)) (count place : ℕ) (why : Trouble)
      (opens : Opens of old.journal (record { disk = new.journal; place = place }) (Err why)) (slots : (new.left ≡ old.left) × (new.right ≡ old.right)) where
    pub bad_judged : (at : ℕ) → why ≡ trouble.BadStore at → IsTold of old.journal → Judges (of.seen old.journal) (Err at)
    bad_judged at same told = subst (λ (w : Trouble). TroubleIs (of.seen old.journal) w) same (opens.trouble told)

    -- a status that tells of the trouble
    pub refused_runs : LoadRuns of files salt load old new before before count count (status_of (fault_from why))
    refused_runs = record {
      done = λ done. absurd (undone why done);
      begun = λ _. inl refl;
      quiet = λ _. refl;
      ends = of_load why;
      write_fault = λ is. absurd (no_write why is);
      store_fault = λ is. opens.store (ap err_of (store_is why is));
      bad_store = λ at is told. bad_judged at (bad_is why at is) told;
      used_up = λ is. absurd (no_numbers why is);
      full = λ is left. absurd (no_room why is);
      runs = λ left. of_files files (λ told. RunsOver of told old new) (λ told same. inl (opens.any_moment left.sound));
      left = λ left. of_files files (λ told. IsLeft of new) (λ told same. left_untouched old new (opens.sound.0 left.sound) (opens.any_moment left.sound) left);
      slots = slots;
      later = omega arith;
    }

-- ---- a store that was opened

module _ {D : Type 0} (of : Ghosts D) (told : Files) (old new : Disks D) (engine last : View D) (opens : Opens of old.journal engine.journal (Ok engine.world)) (ready : engine.ready ≡ true) (same : new.journal ≡ last.journal.disk) where
  -- where the engine stands
  pub opened_at : (opened : Opened of old.journal engine.journal engine.world) → IsAt of engine opened.entries
  opened_at opened = record { ready = ready; valid = opened.valid; ends = opened.ends; world = opened.leads }

  reached : (first : List Entry) (to : State) → Reaches (IsMade (AreTablesOf told)) (at_rest first) to → (more : List Entry) × AreNew (IsMade (AreTablesOf told)) first more × EndsBehind told (more ++ first) to
  reached first to (inl same) = ([], tt, inl same)
  reached first to (inr g) =
      (g.1, subst (λ l. AreNew (IsMade (AreTablesOf told)) l g.1) g.2 g.3, subst (λ l. EndsBehind told (g.1 ++ l) to) g.2 g.4)

  on_the_way : (first : List Entry) (between : State) → Reaches (IsMade (AreTablesOf told)) (at_rest first) between → Grows (IsMade (AreTablesOf told)) (at_rest first) between
  on_the_way first between (inl same) = (first, [], refl, tt, inl same)
  on_the_way first between (inr grows) = grows

  grown_by : (opened : Opened of old.journal engine.journal engine.world) → IsSound of old.journal → (drains : DrainsOver of told engine last (at_rest opened.entries)) → HasGrown of told old new
  grown_by opened sound drains =
      let more = reached opened.entries drains.to drains.reaches in
      record {
        first = opened.entries;
        image = opened.image;
        was = opened.left;
        has = opened.has;
        more = more.0;
        made = more.1;
        to = drains.to;
        ends = more.2;
        now = λ c now. stays_now of last drains.to drains.stays c (subst (λ d. of.may_leave d c) same now);
        since =
            subst (λ d. Since of old.journal d (λ c. AsBefore (of.may_leave old.journal) c ⊎ IsOnTheWay told opened.entries c)) (sym same)
            (then_runs of.moment of.left_since old.journal engine.journal.disk last.journal.disk
            (λ c. AsBefore (of.may_leave old.journal) c ⊎ IsOnTheWay told opened.entries c) (λ c. AsBefore (of.may_leave old.journal) c ⊎ IsOnTheWay told opened.entries c)
            (weaker of.moment of.left_since old.journal engine.journal.disk (AsBefore (of.may_leave old.journal)) (λ c. AsBefore (of.may_leave old.journal) c ⊎ IsOnTheWay told opened.entries c)
            (opens.any_moment sound) (λ c was. inl was))
            (weaker of.moment of.left_since engine.journal.disk last.journal.disk
            (λ c. (between : State) × Reaches (IsMade (AreTablesOf told)) (at_rest opened.entries) between × IsImageOf between c) (λ c. AsBefore (of.may_leave old.journal) c ⊎ IsOnTheWay told opened.entries c)
            drains.since (λ c way. inr (way.0, on_the_way opened.entries way.0 way.1, way.2)))
            (λ c way. way));
        resumes = λ between entries grows settles. reached_resumed told (at_rest opened.entries) between entries (inr grows) settles;
      }

  pub grown : IsSound of old.journal → ((entries : List Entry) → IsAt of engine entries → DrainsOver of told engine last (at_rest entries)) → HasGrown of told old new
  grown sound drains = let opened : Opened of old.journal engine.journal engine.world = opens.opened sound in grown_by opened sound (drains opened.entries (opened_at opened))

-- A crash leaves what an engine that is ready stands for.
pub leads_now : {D : Type 0} (of : Ghosts D) (new : Disks D) (last : View D) → new.journal ≡ last.journal.disk → (entries : List Entry) → IsAt of last entries → LeadsTo of new last.world
leads_now of new last journal entries at image now =
    let is : IsImageOf (at_rest entries) image = stays_now of last (at_rest entries) (inl (at, refl)) image (subst (λ d. of.may_leave d image) journal now) in
    (is.0, is.2, subst (λ l. IsWorldOf l last.world) (sym is.1) at.world)

-- what has grown so is left so
pub left_grown : {D : Type 0} (of : Ghosts D) (told : Files) (old new : Disks D) → IsSound of new.journal → HasGrown of told old new → IsLeft of new
left_grown of told old new sound grown = record {
  sound = sound;
  each = λ image now. let is : IsImageOf grown.to image = grown.now image now in (is.0, is.2);
}

module _ {D : Type 0} (of : Ghosts D) (files : Option Files) (salt : ℕ) (load : Asked) (old new : Disks D) (engine last : View D) (opens : Opens of old.journal engine.journal (Ok engine.world))
    (ready : engine.ready ≡ true) (slots : (engine.left ≡ old.left) × (engine.right ≡ old.right)) (leads : last.ready ≡ true → (entries : List Entry) × IsWorldOf entries last.world) (at : last.ready ≡ true → IsSound of last.journal.disk → (entries : List Entry) × IsAt of last entries)
    (journal : new.journal ≡ last.journal.disk) (left_is : new.left ≡ last.left) (right_is : new.right ≡ last.right)
    (before after : Option (List ℕ)) (was now : ℕ) (end : Status) (over : LoadsOver of files salt load engine last before after was now end) where
  sound_last : IsSound of old.journal → IsSound of last.journal.disk
  sound_last sound = over.handles.sound.0 (opens.sound.0 sound)

  sound_new : IsSound of old.journal → IsSound of new.journal
  sound_new sound = subst (λ d. IsSound of d) (sym journal) (sound_last sound)

  leads_to : last.ready ≡ true → IsSound of old.journal → LeadsTo of new last.world
  leads_to is_ready sound = let stands = at is_ready (sound_last sound) in leads_now of new last journal stands.0 stands.1

  prints_job : (P : List ℕ → List ℕ → List ℕ → Type 0) (it : Job) → PrintsLoad P salt load engine last before after it → PrintsJob P of salt load old new before after it
  prints_job P it prints = record {
    world = last.world;
    made = record {
      before = engine.world;
      found = opens.judged;
      job = prints.job;
      leads = leads prints.ready;
      acknowledged = leads_to prints.ready;
    };
    prints = prints.prints;
  }

  grown_over : (told : Files) → files ≡ Some told → IsSound of old.journal → HasGrown of told old new
  grown_over told is sound =
      grown of told old new engine last opens ready journal sound
      (told_files files told (λ told. (entries : List Entry) → IsAt of engine entries → DrainsOver of told engine last (at_rest entries)) is over.drains)

  lacks_room : (told : Files) → files ≡ Some told → IsSound of old.journal → end ≡ status.JournalFull → HasNoPlace of told salt load.request old new
  lacks_room told same sound is =
      let opened : Opened of old.journal engine.journal engine.world = opens.opened sound in
      let at_first : IsAt of engine opened.entries = record { ready = ready; valid = opened.valid; ends = opened.ends; world = opened.leads } in
      record {
        first = opened.entries;
        image = opened.image;
        was = opened.left;
        has = opened.has;
        place = last.journal.place;
        lacks =
            subst (λ d. LacksRoom of told salt load.request (at_rest opened.entries) (record { disk = d; place = last.journal.place })) (sym journal)
            (told_files files told (λ told. (entries : List Entry) → IsAt of engine entries → LacksRoom of told salt load.request (at_rest entries) last.journal) same (over.full is) opened.entries at_first);
      }

  pub opened_runs : LoadRuns of files salt load old new before after was now end
  opened_runs = record {
    done = λ done. let made = over.done done in (made.0, made.1, prints_job Adds made.0 made.2);
    begun = λ begun. ⊎_elim (λ nothing. inl nothing) (λ (made : (it : Job) × PrintsLoad AddsFront salt load engine last before after it). inr (made.0, prints_job AddsFront made.0 made.1)) (over.begun begun);
    quiet = over.quiet;
    ends = over.ends;
    write_fault = over.write_fault;
    store_fault = λ is. subst (λ d. Rose (of.faults old.journal) (of.faults d)) (sym journal) (rose_later (of.faults old.journal) (of.faults engine.journal.disk) (of.faults last.journal.disk) opens.later (over.handles.store (ap status_trouble is)));
    bad_store = λ place is told. absurd (true≢false (sym ready ∙ (over.handles.bad place (ap status_trouble is)).0));
    used_up = λ is. (engine.world, opens.judged, over.used_up is);
    full = λ is left. of_files files (λ told. HasNoPlace of told salt load.request old new) (λ told same. lacks_room told same left.sound is);
    runs = λ left. of_files files (λ told. RunsOver of told old new) (λ told is. inr (grown_over told is left.sound));
    left = λ left. of_files files (λ told. IsLeft of new) (λ told is. left_grown of told old new (sound_new left.sound) (grown_over told is left.sound));
    slots = (left_is ∙ over.handles.left ∙ slots.0, right_is ∙ over.handles.right ∙ slots.1);
    later = over.later;
  }
