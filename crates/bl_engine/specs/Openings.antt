-- What an opening finds in a journal.
use Rattle.std.specs.Prelude.{◌≡◌, ◌⊎◌, ◌↔◌, ℕ, ◌+◌, ◌≤◌, ◌<◌, ◌^◌, true, false, List, [], ◌∷◌, length, IfOk, IfErr, None, Some, Result, Ok, Err}
use Rattle.std.specs.declared.option.Option.{Option}
use Rattle.std.specs.List.{All}
use Rattle.bl_outside.specs.Counts.{Rose}
use Rattle.bl_outside.specs.declared.disk.Disk.{Ghosts}
use Rattle.bl_outside.specs.declared.disks.Disks.{Disks}
use Rattle.bl_journal.specs.Frames.{AsBefore, Found, frames, prefixed}
use Rattle.bl_journal.specs.Journals.{Ends, IsAtEnd, IsMade, IsSound, JournalRecord, Since, Stands}
use Rattle.bl_entry.specs.declared.entry.Entry.{Entry}
use Rattle.bl_entry.specs.Encoding.{entry_bytes}
use Rattle.bl_entry.specs.Valid.{IsEntry}
use Rattle.bl_world.specs.Worlds.{Follows, IsWorldOf, Step, World, empty_world}
use Rattle.bl_engine.specs.declared.refusals.Trouble.{Trouble}
use Rattle.bl_engine.specs.declared.refusals.Trouble.TheVariants.{StoreFault, BadStore, NoMemory}
use Rattle.bl_engine.specs.Images.{HasEntries, bodies_of}
use Rattle.bl_engine.specs.Engines.{View}

-- ---- frames, one after another

-- the body is an entry that may follow, and leads to this world
abbrev pub Leads : World → List ℕ → World → Type 0
Leads world body next = (entry : Entry) × IsEntry entry × (body ≡ entry_bytes entry) × Step world entry next

-- it is no entry that may follow
abbrev pub IsUnfit : World → List ℕ → Type 0
IsUnfit world body = (entry : Entry) → IsEntry entry → body ≡ entry_bytes entry → ¬ Follows world entry

-- The world that the frames from a place on lead to, or the place of the first that is at fault.
abbrev pub AreJudged : ℕ → World → List (List ℕ) → Option ℕ → Result World ℕ → Type 0
AreJudged place world [] None found = found ≡ Ok world
AreJudged place world [] (Some fault) found = found ≡ Err fault
AreJudged place world (body ∷ bodies) fault found =
    ((next : World) × Leads world body next × AreJudged (place + 5 + length body) next bodies fault found)
    ⊎ (IsUnfit world body × (found ≡ Err place))

-- the same of a file
abbrev pub IsJudged : List ℕ → Result World ℕ → Type 0
IsJudged content found = AreJudged 15 empty_world (frames content).0 (frames content).1 found

-- the same of a file that is told
abbrev pub Judges : Option (List ℕ) → Result World ℕ → Type 0
Judges None found = Unit {0}
Judges (Some content) found = IsJudged content found

-- A file is judged in one way.
abbrev pub OneJudgement : Type 0
OneJudgement = (content : List ℕ) (one other : Result World ℕ) → IsJudged content one → IsJudged content other → one ≡ other

-- An image that has entries isn't at fault anywhere.
abbrev pub NeverBad : Type 0
NeverBad = (image : List ℕ) (entries : List Entry) (place : ℕ) → HasEntries image entries → ¬ IsJudged image (Err place)

-- ---- a replay

-- what a replay from the first gate has come to: the entries so far, and what lies ahead
pub record Replays (all : Found) (seen : Option (List ℕ)) (place : ℕ) (world : World) : Type 0 where
  pub entries : List Entry
  pub more : Found
  pub valid : All IsEntry entries
  pub stands : Stands seen place (bodies_of entries) more
  pub whole : all ≡ prefixed (bodies_of entries) more
  pub leads : IsWorldOf entries world
  pub judges : (found : Result World ℕ) → AreJudged place world more.0 more.1 found → AreJudged 15 empty_world all.0 all.1 found

-- how it ends
abbrev pub ReplayIs : Found → Option (List ℕ) → ℕ → Result World Trouble → Type 0
ReplayIs all seen place (Ok world) =
    (entries : List Entry) × All IsEntry entries × Stands seen place (bodies_of entries) ([], None) × IsWorldOf entries world
    × (all ≡ (bodies_of entries, None)) × AreJudged 15 empty_world all.0 all.1 (Ok world)
ReplayIs all seen place (Err StoreFault) = Unit {0}
ReplayIs all seen place (Err (BadStore fault)) = AreJudged 15 empty_world all.0 all.1 (Err fault)
ReplayIs all seen place (Err NoMemory) = Unit {0}

-- ---- an opening

-- Opened: the journal stands behind the entries of an image that a crash might have left before, and the world is theirs.
pub record Opened {D : Type 0} (of : Ghosts D) (before : D) (journal : JournalRecord D) (world : World) : Type 0 where
  pub entries : List Entry
  pub valid : All IsEntry entries
  pub ends : Ends of journal (bodies_of entries)
  pub leads : IsWorldOf entries world
  pub image : List ℕ
  pub left : of.may_leave before image
  pub has : HasEntries image entries

-- What reads will see is known: the disk is sound, or the file is one that an opening leaves as it is.
abbrev pub IsTold : {D : Type 0} → Ghosts D → D → Type 0
IsTold of disk = IsSound of disk ⊎ IsMade (of.seen disk)

-- only BadStore says something of the file
abbrev pub TroubleIs : Option (List ℕ) → Trouble → Type 0
TroubleIs seen StoreFault = Unit {0}
TroubleIs seen (BadStore place) = Judges seen (Err place)
TroubleIs seen NoMemory = Unit {0}

-- What an opening finds and makes, over the disk before it and the journal after it.
pub record Opens {D : Type 0} (of : Ghosts D) (old : D) (new : JournalRecord D) (result : Result World Trouble) : Type 0 where
  pub opened : IfOk result (λ world. IsSound of old → Opened of old new world)
  -- The judgement is exact for every disk that tells, also for one that isn't honest.
  pub judged : IfOk result (λ world. IsTold of old → Judges (of.seen old) (Ok world))
  pub trouble : IfErr result (λ trouble. IsTold of old → TroubleIs (of.seen old) trouble)
  pub leads : IfOk result (λ world. (entries : List Entry) × IsWorldOf entries world)
  pub room : IfOk result (λ world. (world.entries + 15 ≤ new.place) × (new.place < 2 ^ 64))
  pub at_end : IfOk result (λ _. IsAtEnd of new)
  -- A crash at any moment leaves what an image stood for before.
  pub any_moment : IsSound of old → Since of old new.disk (AsBefore (of.may_leave old))
  pub sound : IsSound of old ↔ IsSound of new.disk
  pub store : result ≡ Err StoreFault → Rose (of.faults old) (of.faults new.disk)
  pub later : of.faults old ≤ of.faults new.disk

-- The world of an engine once it is ready: its own, or the one that its journal's file leads to.
pub record Meets {D : Type 0} (of : Ghosts D) (engine : View D) (world : World) : Type 0 where
  pub ready : engine.ready ≡ true → world ≡ engine.world
  pub opened : engine.ready ≡ false → IsTold of engine.journal.disk → Judges (of.seen engine.journal.disk) (Ok world)

-- the journal's disk, and its place where the store was opened
abbrev pub journal_after : {D : Type 0} → Result (View D) (Trouble × Disks D) → JournalRecord D
journal_after (Ok engine) = engine.journal
journal_after (Err refused) = record { disk = refused.1.journal; place = 0 }

abbrev pub found_after : {D : Type 0} → Result (View D) (Trouble × Disks D) → Result World Trouble
found_after (Ok engine) = Ok engine.world
found_after (Err refused) = Err refused.0
