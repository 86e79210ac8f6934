-- What two slots are known to hold, and which is the newest.
use Rattle.std.proofs.Common.{◌≡◌, ◌↔◌, inl, inr, ⊎_elim, ℕ, true, false, List, [], ◌∷◌, ◌++◌, take, drop, Some, None, Ok, Err, refl, sym, ◌∙◌, ap, subst}
use Rattle.std.specs.Prelude.{if◌then◌else◌, Result, IsErrAnd, IfErr}
use Rattle.std.specs.declared.option.Option.{Option}
use Rattle.bl_outside.specs.declared.disk.Disk.{Ghosts}
use Rattle.bl_outside.specs.Sound.{IsSettled}
use Rattle.bl_outside.specs.declared.journal_fault.JournalFault.{JournalFault}
use Rattle.bl_outside.specs.declared.journal_fault.JournalFault.TheVariants.{StoreFault, NotAJournal, NoMemory}
use Rattle.bl_outside.proofs.Moments.{then_runs}
use Rattle.bl_outside.proofs.Told.{content_told, settled_after}
use Rattle.bl_snapshot.specs.SlotFiles.{head, slot_in, newer, entries_of}
use Rattle.bl_snapshot.specs.TwoSlots.{works_left, Holds, IsShut, IsKnownAs, IsUntouched, Means, NewestIs, FaultIs, NumbersAre, NumbersFault, entries_in, IsOfDevice}
use Rattle.bl_snapshot.specs.declared.snapshot.Snapshot.{Snapshot}
use Rattle.bl_snapshot.specs.declared.slot_file.Numbers.{Numbers}
use Rattle.bl_snapshot.proofs.Bytes.{closed_is}

-- the newest is the right one where the left one is at work, and else the left one
pub newer_right : (l r : Option Snapshot) → works_left (entries_of l) (entries_of r) ≡ true → newer l r ≡ r
newer_right None r is = refl
newer_right (Some l) None is = absurd (let e : false ≡ true = is in (cc))
newer_right (Some l) (Some r) is = ap (λ b. if b then Some r else Some l) is

pub newer_left : (l r : Option Snapshot) → works_left (entries_of l) (entries_of r) ≡ false → newer l r ≡ l
newer_left None r is = absurd (let e : true ≡ false = is in (cc))
newer_left (Some l) None is = refl
newer_left (Some l) (Some r) is = ap (λ b. if b then Some r else Some l) is

-- what a slot means of which the numbers are known
pub meaning : (seen : Option (List ℕ)) (n : Option Numbers) → NumbersAre seen (Ok n) → (found : Option Snapshot) × Means seen (Ok found) × (entries_of found ≡ entries_in n)
meaning None None is = (None, tt, refl)
meaning None (Some n) is = (Some (record { entries = n.entries; place = n.place; body = [] }), tt, refl)
meaning (Some content) None is = (None, is, refl)
meaning (Some content) (Some n) is = (Some (record { entries = n.entries; place = n.place; body = take n.rest (drop 36 content) }), is.0, refl)

pub fault_means : (seen : Option (List ℕ)) (place : ℕ) → NumbersAre seen (Err (NotAJournal place)) → Means seen (Err place)
fault_means None place is = tt
fault_means (Some content) place is = is

pub faults : (left right : Option (List ℕ)) (fault : JournalFault) → NumbersFault left right fault → FaultIs left right fault
faults left right (NotAJournal place) is = ⊎_elim
    (λ first. inl (fault_means left place first))
    (λ second. let m = meaning left second.0 second.1 in inr (m.0, m.1, fault_means right place second.2))
    is
faults left right StoreFault is = tt
faults left right NoMemory is = tt

-- what is behind the numbers was found, or the device failed
abbrev pub Reads : Option (List ℕ) → Option Numbers → Result (Option Snapshot) JournalFault → Type 0
Reads seen n (Ok found) = (content : List ℕ) → seen ≡ Some content → NumbersAre (Some content) (Ok n) → slot_in content ≡ Ok found
Reads seen n (Err fault) = (content : List ℕ) → seen ≡ Some content → NumbersAre (Some content) (Ok n) → IsOfDevice fault

read_means : (seen : Option (List ℕ)) (n : Option Numbers) (found : Option Snapshot) → NumbersAre seen (Ok n) → Reads seen n (Ok found) → Means seen (Ok found)
read_means None n found is reads = tt
read_means (Some content) n found is reads = reads content refl is

-- the right one was read
pub newest_right : (left right : Option (List ℕ)) (l r : Option Numbers) (found : Option Snapshot) → NumbersAre left (Ok l) → NumbersAre right (Ok r)
    → works_left (entries_in l) (entries_in r) ≡ true → Reads right r (Ok found) → entries_of found ≡ entries_in r → NewestIs left right found
newest_right left right l r found at_left at_right side reads same =
    let m = meaning left l at_left in
    (m.0, found, m.1, read_means right r found at_right reads, newer_right m.0 found (ap (λ e. works_left e (entries_of found)) m.2 ∙ ap (λ e. works_left (entries_in l) e) same ∙ side))

pub newest_left : (left right : Option (List ℕ)) (l r : Option Numbers) (found : Option Snapshot) → NumbersAre left (Ok l) → NumbersAre right (Ok r)
    → works_left (entries_in l) (entries_in r) ≡ false → Reads left l (Ok found) → entries_of found ≡ entries_in l → NewestIs left right found
newest_left left right l r found at_left at_right side reads same =
    let m = meaning right r at_right in
    (found, m.0, read_means left l found at_left reads, m.1, newer_left found m.0 (ap (λ e. works_left (entries_of found) e) m.2 ∙ ap (λ e. works_left e (entries_in r)) same ∙ side))

-- a body that can't be read is a fault of the device, where anything is told
pub fault_right : (left right : Option (List ℕ)) (l r : Option Numbers) (fault : JournalFault) → NumbersAre left (Ok l) → NumbersAre right (Ok r) → Reads right r (Err fault) → FaultIs left right fault
fault_right left None l r (NotAJournal place) at_left at_right reads = let m = meaning left l at_left in inr (m.0, m.1, tt)
fault_right left (Some content) l r (NotAJournal place) at_left at_right reads = absurd (reads content refl at_right)
fault_right left right l r StoreFault at_left at_right reads = tt
fault_right left right l r NoMemory at_left at_right reads = tt

pub fault_left : (left right : Option (List ℕ)) (l : Option Numbers) (fault : JournalFault) → NumbersAre left (Ok l) → Reads left l (Err fault) → FaultIs left right fault
fault_left None right l (NotAJournal place) at_left reads = inl tt
fault_left (Some content) right l (NotAJournal place) at_left reads = absurd (reads content refl at_left)
fault_left left right l StoreFault at_left reads = tt
fault_left left right l NoMemory at_left reads = tt

module _ {D : Type 0} (of : Ghosts D) where
  -- one run that writes nothing after another
  pub untouched_then : (a b c : D) → IsUntouched of a b → IsUntouched of b c → IsUntouched of a c
  untouched_then a b c first second = record {
    seen = second.seen ∙ first.seen;
    honest = (λ h. first.honest.0 (second.honest.0 h), λ h. second.honest.1 (first.honest.1 h));
    crash = λ h image left. first.crash h image (second.crash (first.honest.1 h) image left);
    any_moment = λ h. then_runs of.moment of.left_since a b c (of.may_leave a) (of.may_leave b) (first.any_moment h) (second.any_moment (first.honest.1 h)) (first.crash h);
  }

  -- a settled slot with these numbers
  pub known_by : (old new : D) (n : Option Numbers) → NumbersAre (of.seen old) (Ok n) → of.seen new ≡ of.seen old → (of.honest new ↔ of.honest old) → (of.honest old → IsSettled of new) → IsKnownAs of new (entries_in n)
  known_by old new n is same honest settled sound =
      let t = content_told (of.seen new) sound.told in
      let told : of.seen old ≡ Some t.0 = sym same ∙ t.1 in
      let m = meaning (Some t.0) n (subst (λ o. NumbersAre o (Ok n)) told is) in
      (m.0, record { settled = settled (honest.0 sound.honest); content = t.0; told = t.1; is = m.1 }, m.2)

  pub settled_then : (a b c : D) → IsUntouched of a b → (of.honest a → IsSettled of b) → IsUntouched of b c → of.honest a → IsSettled of c
  settled_then a b c first settled second h = settled_after of b c (settled h) second.seen second.honest second.crash

  -- a slot with a closed gate holds nothing
  pub shut_holds : (disk : D) → IsShut of disk → Holds of disk None
  shut_holds disk s = record { settled = s.settled; content = head ++ s.gate ∷ s.rest; told = s.told; is = closed_is s.gate s.rest s.shut }

-- an error that is handed on has what it had
pub handed_on : {T : Type 0} (P : JournalFault → Type 0) (result : Result T JournalFault) (fault : JournalFault) → IsErrAnd result (λ e. e ≡ fault) → P fault → IfErr result P
handed_on P (Ok x) fault is h = absurd is
handed_on P (Err e) fault is h = subst P (sym is) h
