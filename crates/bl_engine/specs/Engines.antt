-- An engine over its disks, and the state of its store.
use Rattle.std.specs.Prelude.{◌≡◌, ◌⊎◌, ℕ, ◌+◌, ◌≤◌, ◌<◌, ◌^◌, Bool, true, false, List, None}
use Rattle.std.specs.List.{All}
use Rattle.bl_outside.specs.declared.disk.Disk.{Ghosts}
use Rattle.bl_journal.specs.Journals.{Ends, IsAtEnd, IsSound, JournalRecord}
use Rattle.bl_entry.specs.declared.entry.Entry.{Entry}
use Rattle.bl_entry.specs.Valid.{IsEntry}
use Rattle.bl_world.specs.Worlds.{IsWorldOf, World}
use Rattle.bl_world.specs.States.{State}
use Rattle.bl_engine.specs.Images.{IsImageOf, bodies_of}

-- What contracts see of an engine. `seq` is the number of entries when it was last ready.
pub record View (D : Type 0) : Type 0 where
  pub journal : JournalRecord D
  pub left : D
  pub right : D
  pub world : World
  pub seq : ℕ
  pub ready : Bool

-- It is ready, its journal stands behind these entries, nothing is pending, and its world is theirs.
pub record IsAt {D : Type 0} (of : Ghosts D) (engine : View D) (entries : List Entry) : Type 0 where
  pub ready : engine.ready ≡ true
  pub valid : All IsEntry entries
  pub ends : Ends of engine.journal (bodies_of entries)
  pub world : IsWorldOf entries engine.world

-- It is closed, and a crash leaves an image of the state.
pub record IsClosedAt {D : Type 0} (of : Ghosts D) (engine : View D) (state : State) : Type 0 where
  pub closed : engine.ready ≡ false
  pub sound : IsSound of engine.journal.disk
  pub each : (image : List ℕ) → of.may_leave engine.journal.disk image → IsImageOf state image

-- The store is in this state.
abbrev pub Stays : {D : Type 0} → Ghosts D → View D → State → Type 0
Stays of engine state = (IsAt of engine state.kept × (state.pending ≡ None)) ⊎ IsClosedAt of engine state

-- What a ready engine always is: its world is one of entries, and over a sound disk of those that the journal has.
pub record IsSure {D : Type 0} (of : Ghosts D) (engine : View D) : Type 0 where
  pub counted : engine.seq ≡ engine.world.entries
  pub room : engine.world.entries + 15 ≤ engine.journal.place
  pub bound : engine.journal.place < 2 ^ 64
  pub leads : (entries : List Entry) × IsWorldOf entries engine.world
  pub at_end : IsAtEnd of engine.journal
  pub at : IsSound of engine.journal.disk → (entries : List Entry) × IsAt of engine entries

abbrev pub IsSureIfReady : {D : Type 0} → Ghosts D → View D → Type 0
IsSureIfReady of engine = engine.ready ≡ true → IsSure of engine
