-- What an opening comes to.
use Rattle.std.proofs.Common.{◌≡◌, ◌↔◌, ℕ, ◌+◌, ◌≤◌, ◌<◌, ◌^◌, List, [], ◌∷◌, Some, None, Ok, Err, true, is_some, IfOk, IfErr, refl, sym, ◌∙◌, ap, subst, inl, arith}
use Rattle.std.specs.Prelude.{Result}
use Rattle.std.specs.declared.option.Option.{Option}
use Rattle.std.proofs.lemmas.Bool.{false≢true}
use Rattle.bl_outside.specs.Counts.{Rose}
use Rattle.bl_outside.specs.declared.disk.Disk.{Ghosts}
use Rattle.bl_outside.proofs.Moments.{at_end, then_runs}
use Rattle.bl_outside.specs.declared.journal_fault.JournalFault.{JournalFault}
use Rattle.bl_outside.specs.declared.journal_fault.JournalFault.TheVariants.{StoreFault as device_fault, NotAJournal, NoMemory as no_memory}
use Rattle.bl_journal.specs.Frames.{AsBefore, Found, frames}
use Rattle.bl_journal.specs.Journals.{Ends, HeadFault, IsAtEnd, IsAtGate, IsSettled, IsSound, JournalRecord, SeesFrames, Since, Stands, Opens as Begun}
use Rattle.bl_entry.specs.declared.entry.Entry.{Entry}
use Rattle.bl_world.specs.Worlds.{IsWorldOf, World, empty_world}
use Rattle.bl_engine.specs.declared.refusals.Trouble.{Trouble}
use Rattle.bl_engine.specs.declared.refusals.Trouble.TheVariants.{StoreFault, BadStore, NoMemory}
use Rattle.bl_engine.specs.Openings.{AreJudged, IsTold, Judges, Opened, Opens, ReplayIs, TroubleIs}
use Rattle.bl_engine.specs.Troubles.{trouble_from}

content_told : (seen : Option (List ℕ)) → is_some seen ≡ true → (content : List ℕ) × (seen ≡ Some content)
content_told None is = absurd (false≢true is)
content_told (Some content) is = (content, refl)

judges_from : (seen : Option (List ℕ)) (all : Found) (found : Result World ℕ) → SeesFrames seen all → AreJudged 15 empty_world all.0 all.1 found → Judges seen found
judges_from None all found sees is = tt
judges_from (Some content) all found sees is = subst (λ (m : Found). AreJudged 15 empty_world m.0 m.1 found) (sym sees) is

module _ {D : Type 0} (of : Ghosts D) where
  pub opened_ok : (old : D) (new : JournalRecord D) (all : Found) (result : Result World Trouble) → IsSound of old → ((c : List ℕ) → of.honest old → of.seen old ≡ Some c → of.may_leave old c)
      → SeesFrames (of.seen old) all → IsSettled of new.disk → ReplayIs all (of.seen new.disk) new.place result → IfOk result (λ world. Opened of old new world)
  opened_ok old new all (Ok world) sound image sees settled found =
      let t = content_told (of.seen old) sound.told in
      record {
        entries = found.0;
        valid = found.1;
        ends = record { settled = settled; stands = found.2 };
        leads = found.3;
        image = t.0;
        left = image t.0 sound.honest t.1;
        has = record { valid = found.1; frames = subst (λ o. SeesFrames o all) t.1 sees ∙ found.4; world = world; leads = found.3 };
      }
  opened_ok old new all (Err trouble) sound image sees settled found = tt

pub judged_ok : (seen now : Option (List ℕ)) (all : Found) (to : ℕ) (result : Result World Trouble) → SeesFrames seen all → ReplayIs all now to result → IfOk result (λ world. Judges seen (Ok world))
judged_ok seen now all to (Ok world) sees found = judges_from seen all (Ok world) sees found.5
judged_ok seen now all to (Err trouble) sees found = tt

pub trouble_err : (seen now : Option (List ℕ)) (all : Found) (to : ℕ) (result : Result World Trouble) → SeesFrames seen all → ReplayIs all now to result → IfErr result (λ e. TroubleIs seen e)
trouble_err seen now all to (Ok world) sees found = tt
trouble_err seen now all to (Err StoreFault) sees found = tt
trouble_err seen now all to (Err (BadStore fault)) sees found = judges_from seen all (Err fault) sees found
trouble_err seen now all to (Err NoMemory) sees found = tt

pub head_trouble : (seen : Option (List ℕ)) (fault : JournalFault) → HeadFault seen fault → TroubleIs seen (trouble_from fault)
head_trouble seen device_fault h = tt
head_trouble seen (NotAJournal place) h = judges_from seen ([], Some place) (Err place) h.1 refl
head_trouble seen no_memory h = tt

-- a clause under a premise, over either result
pub under_ok : {T E : Type 0} (result : Result T E) (P : Type 0) (Q : T → Type 0) → (P → IfOk result Q) → IfOk result (λ x. P → Q x)
under_ok (Ok x) P Q h = h
under_ok (Err e) P Q h = tt

pub under_err : {T E : Type 0} (result : Result T E) (P : Type 0) (Q : E → Type 0) → (P → IfErr result Q) → IfErr result (λ x. P → Q x)
under_err (Ok x) P Q h = tt
under_err (Err e) P Q h = h

pub rose_later : (a b c : ℕ) → a ≤ b → Rose b c → Rose a c
rose_later a b c le rose = omega (arith, rose)

-- a fault of the device is told as one
abbrev failed : Trouble → Result World Trouble
failed trouble = Err trouble

store_from : (fault : JournalFault) → failed (trouble_from fault) ≡ failed StoreFault → Some fault ≡ Some device_fault
store_from device_fault is = refl
store_from (NotAJournal place) is = cc
store_from no_memory is = cc

module _ {D : Type 0} (of : Ghosts D) (old : D) where
  -- it could not be begun
  pub opens_refused : (new : JournalRecord D) (fault : JournalFault) → Begun of old new.disk (Some fault) → Opens of old new (Err (trouble_from fault))
  opens_refused new fault b = record {
    opened = tt;
    judged = tt;
    trouble = λ told. head_trouble (of.seen old) fault b.refused;
    leads = tt;
    room = tt;
    at_end = tt;
    any_moment = b.any_moment;
    sound = b.sound;
    store = λ is. b.store (store_from fault is);
    later = b.later;
  }

  -- the place says nothing where it isn't opened
  pub opens_moved : (new : JournalRecord D) (disk : D) (place : ℕ) (trouble : Trouble) → disk ≡ new.disk → Opens of old new (Err trouble) → Opens of old (record { disk = disk; place = place }) (Err trouble)
  opens_moved new disk place trouble same o = subst (λ d. Opens of old (record { disk = d; place = place }) (Err trouble)) (sym same) (record {
    opened = tt;
    judged = tt;
    trouble = o.trouble;
    leads = tt;
    room = tt;
    at_end = tt;
    any_moment = o.any_moment;
    sound = o.sound;
    store = o.store;
    later = o.later;
  })

  -- it was begun, and replayed
  pub opens_begun : ((disk : D) (t : ℕ) (c : List ℕ) → t ≤ of.moment disk → of.may_leave disk c → of.left_since disk t c) → ((c : List ℕ) → of.honest old → of.seen old ≡ Some c → of.may_leave old c)
      → (mid new : JournalRecord D) (result : Result World Trouble) → Begun of old mid.disk None → IsAtGate of mid
      → ((all : Found) → Stands (of.seen mid.disk) 15 [] all → ReplayIs all (of.seen new.disk) new.place result)
      → IfOk result (λ world. (entries : List Entry) × IsWorldOf entries world) → IfOk result (λ world. (world.entries + 15 ≤ new.place) × (new.place < 2 ^ 64))
      → (IsAtGate of mid → IfOk result (λ _. IsAtEnd of new)) → (IsSettled of mid.disk → IsSettled of new.disk) → (IsSound of mid.disk → Since of mid.disk new.disk (of.may_leave mid.disk))
      → (IsSound of mid.disk ↔ IsSound of new.disk) → (result ≡ Err StoreFault → Rose (of.faults mid.disk) (of.faults new.disk)) → of.faults mid.disk ≤ of.faults new.disk
      → Opens of old new result
  opens_begun counts image mid new result b gate replayed leads room ends settled run sound store later = record {
    opened = under_ok result (IsSound of old) (λ world. Opened of old new world)
        (λ s. let begun = b.begins (inl s) in opened_ok of old new begun.ahead result s image begun.is (settled (b.settled s.honest)) (replayed begun.ahead begun.stands));
    judged = under_ok result (IsTold of old) (λ world. Judges (of.seen old) (Ok world))
        (λ told. let begun = b.begins told in judged_ok (of.seen old) (of.seen new.disk) begun.ahead new.place result begun.is (replayed begun.ahead begun.stands));
    trouble = under_err result (IsTold of old) (λ trouble. TroubleIs (of.seen old) trouble)
        (λ told. let begun = b.begins told in trouble_err (of.seen old) (of.seen new.disk) begun.ahead new.place result begun.is (replayed begun.ahead begun.stands));
    leads = leads;
    room = room;
    at_end = ends gate;
    any_moment = λ s.
        let first = b.any_moment s in
        then_runs of.moment of.left_since old mid.disk new.disk (AsBefore (of.may_leave old)) (of.may_leave mid.disk) first (run (b.sound.0 s)) (at_end of.moment of.left_since old mid.disk (AsBefore (of.may_leave old)) counts first);
    sound = ((λ s. sound.0 (b.sound.0 s)), λ s. b.sound.1 (sound.1 s));
    store = λ is. rose_later (of.faults old) (of.faults mid.disk) (of.faults new.disk) b.later (store is);
    later = omega (arith, b.later, later);
  }
