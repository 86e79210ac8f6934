-- Images of a journal, and the entries that they have. Lists of entries have the newest first.
use Rattle.std.specs.Prelude.{◌⊎◌, ℕ, List, ◌∷◌, map, reverse}
use Rattle.std.specs.List.{All}
use Rattle.bl_outside.specs.declared.disk.Disk.{Ghosts}
use Rattle.bl_outside.specs.declared.disks.Disks.{Disks}
use Rattle.bl_journal.specs.Frames.{HasFrames}
use Rattle.bl_journal.specs.Journals.{IsSound}
use Rattle.bl_entry.specs.declared.entry.Entry.{Entry}
use Rattle.bl_entry.specs.Encoding.{entry_bytes}
use Rattle.bl_entry.specs.Valid.{IsEntry}
use Rattle.bl_world.specs.Worlds.{IsWorldOf, World}
use Rattle.bl_world.specs.States.{Settles, State}

-- the bodies of entries, in the order in which they were appended
abbrev pub bodies_of : List Entry → List (List ℕ)
bodies_of entries = map entry_bytes (reverse entries)

-- The frames of the image are these entries, and the entries lead to a world.
pub record HasEntries (image : List ℕ) (entries : List Entry) : Type 0 where
  pub valid : All IsEntry entries
  pub frames : HasFrames image (bodies_of entries)
  pub world : World
  pub leads : IsWorldOf entries world

-- these entries, or these and one more
abbrev pub WithEntry : List Entry → Entry → List ℕ → Type 0
WithEntry entries entry image = HasEntries image entries ⊎ HasEntries image (entry ∷ entries)

-- The image has the entries of the state, with the pending one or without it.
abbrev pub IsImageOf : State → List ℕ → Type 0
IsImageOf state image = (entries : List Entry) × Settles state entries × HasEntries image entries

-- A store that this program may have left, or an empty one. No slot is written yet, so nothing is said of the slots.
pub record IsLeft {D : Type 0} (of : Ghosts D) (disks : Disks D) : Type 0 where
  pub sound : IsSound of disks.journal
  pub each : (image : List ℕ) → of.may_leave disks.journal image → (entries : List Entry) × HasEntries image entries
