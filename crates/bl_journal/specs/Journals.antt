-- A journal over its disk: what it has read, what lies ahead, and what a crash may leave.
use Rattle.std.specs.Prelude.{◌≡◌, ◌⊎◌, ◌↔◌, ◌<◌, ◌≤◌, ◌+◌, ◌^◌, ℕ, true, is_some, IfSome, IfNone, List, [], ◌∷◌, ◌++◌, length, take, drop, None, Some, Result, Ok, Err, refl}
use Rattle.std.specs.Coded.{Coded, code_by, coded×, coded_ℕ}
use Rattle.std.specs.declared.option.Option.{Option}
pub use Rattle.bl_outside.specs.Sound.{IsSound, IsSettled, Since}
use Rattle.bl_outside.specs.Counts.{Rose}
use Rattle.bl_outside.specs.declared.disk.Disk.{Ghosts}
use Rattle.bl_outside.specs.declared.journal_fault.JournalFault.{JournalFault}
use Rattle.bl_outside.specs.declared.journal_fault.JournalFault.TheVariants.{StoreFault, NotAJournal, NoMemory}
use Rattle.bl_journal.specs.Frames.{head, new_file, Found, prefixed, frames_at, frames, AsBefore, IsEmptyJournal}

-- what contracts see of a journal: its disk, and the place of a gate
pub record JournalRecord (D : Type 0) : Type 0 where
  pub disk : D
  pub place : ℕ

abbrev pub journal_code : {D : Type 0} → Coded D → Coded (JournalRecord D)
journal_code {D} code = code_by (D × ℕ) (coded× code coded_ℕ) (λ j. (j.disk, j.place))
    (λ p. record { disk = p.0; place = p.1 }) (λ _. refl)

-- The frames up to the gate at a place are these, whatever stands from there on.
pub record Reaches (content : List ℕ) (place : ℕ) (done : List (List ℕ)) : Type 0 where
  pub begins : 15 ≤ place
  pub inside : place < length content
  pub own : frames content ≡ prefixed done (frames_at place content)
  pub front : (other : List ℕ) → take place other ≡ take place content → place < length other →
      16 < length other → frames other ≡ prefixed done (frames_at place other)

-- reads see these frames up to the gate at a place, and these from there on
pub record Stands (seen : Option (List ℕ)) (place : ℕ) (done : List (List ℕ)) (ahead : Found) : Type
    0 where
  pub content : List ℕ
  pub told : seen ≡ Some content
  pub reaches : Reaches content place done
  pub rest : ahead ≡ frames_at place content

-- the journal stands at the closed gate behind these frames, and nothing is pending
pub record Ends {D : Type 0} (of : Ghosts D) (journal : JournalRecord D) (bodies : List (List ℕ)) :
    Type 0 where
  pub settled : IsSettled of journal.disk
  pub stands : Stands (of.seen journal.disk) journal.place bodies ([], None)

-- over a sound disk nothing is pending, and the place is that of a gate
abbrev pub IsAtGate : {D : Type 0} → Ghosts D → JournalRecord D → Type 0
IsAtGate of journal = IsSound of journal.disk →
    IsSettled of journal.disk × (done : List (List ℕ)) × (ahead : Found)
    × Stands (of.seen journal.disk) journal.place done ahead

-- over a sound disk it is that of the closed gate behind all frames
abbrev pub IsAtEnd : {D : Type 0} → Ghosts D → JournalRecord D → Type 0
IsAtEnd of journal = IsSound of journal.disk → (bodies : List (List ℕ)) × Ends of journal bodies

-- the frames of the content, where it is told
abbrev pub SeesFrames : Option (List ℕ) → Found → Type 0
SeesFrames None found = Unit {0}
SeesFrames (Some content) found = frames content ≡ found

-- a told content that a beginning leaves as it is
abbrev pub IsMade : Option (List ℕ) → Type 0
IsMade None = ⊥
IsMade (Some content) = (16 < length content) ⊎ IsEmptyJournal content

-- all frames of the content that was seen before lie ahead
pub record Begins (before seen : Option (List ℕ)) : Type 0 where
  pub ahead : Found
  pub is : SeesFrames before ahead
  pub stands : Stands seen 15 [] ahead

-- a file that isn't finished, or one with the head of a journal
abbrev pub HasHead : Option (List ℕ) → Type 0
HasHead None = Unit {0}
HasHead (Some content) = (length content ≤ 16) ⊎ (take 15 content ≡ head)

-- the head differs first at the place that is named
abbrev pub HeadFault : Option (List ℕ) → JournalFault → Type 0
HeadFault before (NotAJournal place) = (place < 15) × SeesFrames before ([], Some place)
HeadFault before StoreFault = Unit {0}
HeadFault before NoMemory = Unit {0}

-- the disk after a beginning
abbrev pub disk_after : {D : Type 0} → Result (JournalRecord D) (JournalFault × D) → D
disk_after (Ok journal) = journal.disk
disk_after (Err refusal) = refusal.1

-- why there is no beginning, where there is none
abbrev pub fault_after : {D : Type 0} → Result (JournalRecord D) (JournalFault × D) →
    Option JournalFault
fault_after (Ok journal) = None
fault_after (Err refusal) = Some refusal.0

-- What a beginning finds and makes, over the disk before it and after it. None: it went well.
pub record Opens {D : Type 0} (of : Ghosts D) (old new : D) (fault : Option JournalFault) : Type 0
  where
    -- Where nothing is written, the frames that lie ahead are known of every disk that tells.
    pub begins : IfNone fault ((IsSound of old ⊎ IsMade (of.seen old)) →
        Begins (of.seen old) (of.seen new))
    pub settled : IfNone fault (of.honest old → IsSettled of new)
    pub head : IfNone fault (HasHead (of.seen old))
    -- a file that isn't finished becomes a new one, and all others stay as they are
    pub created : IfNone fault (IsSound of old → (¬ IsMade (of.seen old)) →
        of.seen new ≡ Some new_file)
    pub untouched : IsMade (of.seen old) → of.seen new ≡ of.seen old
    pub refused : IfSome fault (HeadFault (of.seen old))
    pub store : fault ≡ Some StoreFault → Rose (of.faults old) (of.faults new)
    pub any_moment : IsSound of old → Since of old new (AsBefore (of.may_leave old))
    pub sound : IsSound of old ↔ IsSound of new
    pub later : of.faults old ≤ of.faults new

-- The first frame from a gate on, whatever stands before it: its body, the end, or no journal.
abbrev pub FrameIs : Option (List ℕ) → ℕ → Result (Option (List ℕ)) JournalFault → Type 0
FrameIs None gate result = Unit {0}
FrameIs (Some content) gate (Ok (Some body)) =
    frames_at gate content ≡ prefixed (body ∷ []) (frames_at (gate + 5 + length body) content)
FrameIs (Some content) gate (Ok None) = frames_at gate content ≡ ([], None)
FrameIs (Some content) gate (Err (NotAJournal fault)) = frames_at gate content ≡ ([], Some fault)
FrameIs (Some content) gate (Err StoreFault) = Unit {0}
FrameIs (Some content) gate (Err NoMemory) = Unit {0}

-- what `next` finds where it is known what stands before the place
abbrev pub NextIs : Option (List ℕ) → ℕ → List (List ℕ) → Found →
    Result (Option (List ℕ)) JournalFault → Type 0
NextIs seen new done ahead (Ok (Some body)) =
    (more : Found) × (ahead ≡ prefixed (body ∷ []) more) × Stands seen new (done ++ body ∷ []) more
NextIs seen new done ahead (Ok None) = (ahead ≡ ([], None)) × Stands seen new done ahead
NextIs seen new done ahead (Err (NotAJournal fault)) =
    (ahead ≡ ([], Some fault)) × Stands seen new done ahead
NextIs seen new done ahead (Err StoreFault) = Stands seen new done ahead
NextIs seen new done ahead (Err NoMemory) = Stands seen new done ahead

-- the place after `next`: behind the frame, or where it was
abbrev pub Moves : ℕ → ℕ → Result (Option (List ℕ)) JournalFault → Type 0
Moves old new (Ok (Some body)) = (new ≡ old + 5 + length body) × (0 < length body) × (new < 2 ^ 64)
Moves old new (Ok None) = new ≡ old
Moves old new (Err fault) = new ≡ old

-- every gate stands below this place
abbrev pub journal_limit : ℕ
journal_limit = 2 ^ 40

-- a frame with a body of this length fits behind the gate at the place
abbrev pub HasRoom : ℕ → ℕ → Type 0
HasRoom place n = (n < 2 ^ 32) × (place + 5 + n < journal_limit)

-- it doesn't
abbrev pub IsFull : ℕ → ℕ → Type 0
IsFull place n = (2 ^ 32 ≤ n) ⊎ (journal_limit ≤ place + 5 + n)

abbrev pub body_at : ℕ → ℕ → List ℕ → List ℕ
body_at place n content = take n (drop (place + 5) content)

-- what stands at a gate of a told content: a frame with a body of this length, the end, or no
-- journal
abbrev pub GateIs : Option (List ℕ) → ℕ → Result (Option ℕ) JournalFault → Type 0
GateIs None place result = Unit {0}
GateIs (Some content) place (Ok (Some n)) =
    (length (body_at place n content) ≡ n)
    × (frames_at place content ≡ prefixed (body_at place n content ∷ [])
    (frames_at (place + 5 + n) content))
GateIs (Some content) place (Ok None) = frames_at place content ≡ ([], None)
GateIs (Some content) place (Err (NotAJournal fault)) = frames_at place content ≡ ([], Some fault)
GateIs (Some content) place (Err StoreFault) = Unit {0}
GateIs (Some content) place (Err NoMemory) = Unit {0}
