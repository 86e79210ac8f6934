-- Two slots over their disks: which one is at work, what they hold, and what a call found.
use Rattle.std.specs.Prelude.{◌≡◌, ◌≢◌, ◌⊎◌, ◌↔◌, ℕ, ◌+◌, ◌<◌, ◌≤◌, Bool, true, false, nat_lt, cond, List, ◌∷◌, ◌++◌, length, take, drop, slice_index, None, Some, Result, Ok, Err, refl}
use Rattle.std.specs.Coded.{Coded, code_by, coded×, coded_ℕ, coded_option}
use Rattle.std.specs.declared.option.Option.{Option}
use Rattle.bl_outside.specs.Sound.{IsSound, IsSettled, Since}
use Rattle.bl_outside.specs.declared.disk.Disk.{Ghosts}
use Rattle.bl_outside.specs.declared.journal_fault.JournalFault.{JournalFault}
use Rattle.bl_outside.specs.declared.journal_fault.JournalFault.TheVariants.{StoreFault, NotAJournal, NoMemory}
use Rattle.bl_snapshot.specs.SlotFiles.{head, slot_in, snapshot_at, newer, entries_of}
use Rattle.bl_snapshot.specs.declared.snapshot.Snapshot.{Snapshot}
use Rattle.bl_snapshot.specs.declared.slot_file.Numbers.{Numbers}
use Rattle.bl_snapshot.specs.declared.slot_file.Gate.{Gate}
use Rattle.bl_snapshot.specs.declared.slot_file.Gate.TheVariants.{Unfinished, Closed, Open}

-- what contracts see of two slots: their disks, and for each the entries of the snapshot that it
-- held when it was last looked at
pub record SlotsRecord (D : Type 0) : Type 0 where
  pub left : D
  pub right : D
  pub left_open : Option ℕ
  pub right_open : Option ℕ

abbrev pub slots_code : {D : Type 0} → Coded D → Coded (SlotsRecord D)
slots_code {D} code =
    code_by (D × (D × (Option ℕ × Option ℕ)))
    (coded× code (coded× code (coded× (coded_option coded_ℕ) (coded_option coded_ℕ))))
    (λ s. (s.left, (s.right, (s.left_open, s.right_open))))
    (λ p. record { left = p.0; right = p.1.0; left_open = p.1.1.0; right_open = p.1.1.1 })
    (λ _. refl)

-- The left slot is at work: it isn't the newest. Where none is open it is the left one.
abbrev pub works_left : Option ℕ → Option ℕ → Bool
works_left None right = true
works_left (Some l) None = false
works_left (Some l) (Some r) = nat_lt l r

module _ {D : Type 0} where
  abbrev pub is_left : SlotsRecord D → Bool
  is_left s = works_left s.left_open s.right_open

  -- Of two slots in which one is at work, that one's disk, as it is in the second argument. It
  -- isn't the newest.
  abbrev pub at_work : SlotsRecord D → SlotsRecord D → D
  at_work s now = cond (is_left s) now.left now.right

  -- the disk of the other one
  abbrev pub spared : SlotsRecord D → SlotsRecord D → D
  spared s now = cond (is_left s) now.right now.left

module _ {D : Type 0} (of : Ghosts D) where
  -- a slot with nothing pending that holds this
  pub record Holds (disk : D) (found : Option Snapshot) : Type 0 where
    pub settled : IsSettled of disk
    pub content : List ℕ
    pub told : of.seen disk ≡ Some content
    pub is : slot_in content ≡ Ok found

  -- a slot with nothing pending that has its head and a closed gate
  pub record IsShut (disk : D) : Type 0 where
    pub settled : IsSettled of disk
    pub gate : ℕ
    pub rest : List ℕ
    pub told : of.seen disk ≡ Some (head ++ gate ∷ rest)
    pub shut : gate ≢ 1

  -- a sound disk holds a snapshot with this number of entries, or none
  abbrev pub IsKnownAs : D → Option ℕ → Type 0
  IsKnownAs disk entries = IsSound of disk →
      (found : Option Snapshot) × Holds disk found × (entries_of found ≡ entries)

  -- from one disk to the other nothing was written
  pub record IsUntouched (old new : D) : Type 0 where
    pub seen : of.seen new ≡ of.seen old
    pub honest : of.honest new ↔ of.honest old
    pub crash : of.honest old → (c : List ℕ) → of.may_leave new c → of.may_leave old c
    pub any_moment : of.honest old → Since of old new (of.may_leave old)

  -- `newest` gave Ok before, and nothing failed since
  pub record IsKnown (slots : SlotsRecord D) : Type 0 where
    pub left : IsKnownAs slots.left slots.left_open
    pub right : IsKnownAs slots.right slots.right_open

  -- `close_slot` gave Ok: the slot at work can be filled
  pub record IsClosed (slots : SlotsRecord D) : Type 0 where
    pub known : IsKnown slots
    pub shut : IsSound of (at_work slots slots) → IsShut (at_work slots slots)

-- what a told content is as a slot
abbrev pub Means : Option (List ℕ) → Result (Option Snapshot) ℕ → Type 0
Means None found = Unit {0}
Means (Some content) found = slot_in content ≡ found

-- the newest of two slots
abbrev pub NewestIs : Option (List ℕ) → Option (List ℕ) → Option Snapshot → Type 0
NewestIs left right found = (l : Option Snapshot) × (r : Option Snapshot) × Means left (Ok l)
    × Means right (Ok r) × (newer l r ≡ found)

-- the first of two slots that is none, and the place in it
abbrev pub FaultIs : Option (List ℕ) → Option (List ℕ) → JournalFault → Type 0
FaultIs left right (NotAJournal place) =
    Means left (Err place) ⊎ ((l : Option Snapshot) × Means left (Ok l) × Means right (Err place))
FaultIs left right StoreFault = Unit {0}
FaultIs left right NoMemory = Unit {0}

-- a fault of the device or want of memory, and no other
abbrev pub IsOfDevice : JournalFault → Type 0
IsOfDevice (NotAJournal place) = ⊥
IsOfDevice StoreFault = Unit {0}
IsOfDevice NoMemory = Unit {0}

-- ---- what the steps of a reading find

-- the length of an open slot's body
abbrev pub LengthIs : Option (List ℕ) → Result (Option ℕ) JournalFault → Type 0
LengthIs None result = Unit {0}
LengthIs (Some content) (Ok None) = slot_in content ≡ Ok None
LengthIs (Some content) (Ok (Some n)) =
    (slot_in content ≡ Ok (Some (snapshot_at n content))) × (16 ≤ n) × (20 + n ≤ length content)
LengthIs (Some content) (Err (NotAJournal place)) = slot_in content ≡ Err place
LengthIs (Some content) (Err StoreFault) = Unit {0}
LengthIs (Some content) (Err NoMemory) = Unit {0}

-- the two numbers of an open slot, and the length of what is behind them
abbrev pub NumbersAre : Option (List ℕ) → Result (Option Numbers) JournalFault → Type 0
NumbersAre None result = Unit {0}
NumbersAre (Some content) (Ok None) = slot_in content ≡ Ok None
NumbersAre (Some content) (Ok (Some n)) =
    (slot_in content ≡ Ok (Some (record {
      entries = n.entries;
      place = n.place;
      body = take n.rest (drop 36 content);
    }))) × (36 + n.rest ≤ length content)
NumbersAre (Some content) (Err (NotAJournal place)) = slot_in content ≡ Err place
NumbersAre (Some content) (Err StoreFault) = Unit {0}
NumbersAre (Some content) (Err NoMemory) = Unit {0}

-- the first of two slots in which a reading finds a fault
abbrev pub NumbersFault : Option (List ℕ) → Option (List ℕ) → JournalFault → Type 0
NumbersFault left right (NotAJournal place) =
    NumbersAre left (Err (NotAJournal place))
    ⊎ ((l : Option Numbers) × NumbersAre left (Ok l) × NumbersAre right (Err (NotAJournal place)))
NumbersFault left right StoreFault = Unit {0}
NumbersFault left right NoMemory = Unit {0}

abbrev pub entries_in : Option Numbers → Option ℕ
entries_in None = None
entries_in (Some n) = Some n.entries

-- what stands at the gate of a file
abbrev pub GateIs : Option (List ℕ) → Gate → Type 0
GateIs None gate = Unit {0}
GateIs (Some content) Unfinished = length content ≤ 16
GateIs (Some content) Closed = (16 < length content) × (slice_index content 15 ≢ 1)
GateIs (Some content) Open = (16 < length content) × (slice_index content 15 ≡ 1)
