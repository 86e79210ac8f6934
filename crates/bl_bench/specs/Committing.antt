-- A store that rows were loaded into.
use Rattle.std.specs.Prelude.{◌≡◌, ℕ, ◌+◌, true, List, length}
use Rattle.std.specs.Int.{div_ceil}
use Rattle.bl_outside.specs.MemoryDisks.{DiskRecord, record_leaves}
use Rattle.bl_entry.specs.declared.entry.Entry.{Entry}
use Rattle.bl_engine.specs.Engines.{View}
use Rattle.bl_engine.specs.Images.{HasEntries}
use Rattle.bl_bench.specs.declared.loaded.Loaded.{Loaded}

-- A load has one entry for its request, its plan and the end of its file, and one for each batch of 1,000 rows.
abbrev pub entries_of : ℕ → ℕ
entries_of rows = 3 + div_ceil rows 1000

-- the store has the load of so many rows, and nothing else
pub record IsLoadOf (count : ℕ) (loaded : Loaded) : Type 0 where
  pub rows : loaded.rows ≡ count
  pub entries : loaded.entries ≡ entries_of count

-- the engine is ready, and has this many entries more
pub record Grows (more : ℕ) (old new : View DiskRecord) : Type 0 where
  pub ready : new.ready ≡ true
  pub entries : new.world.entries ≡ old.world.entries + more

-- whatever a crash leaves of the disk has this many entries
abbrev pub Keeps : DiskRecord → ℕ → Type 0
Keeps disk count = (entries : List Entry) × (length entries ≡ count) × ((image : List ℕ) → record_leaves disk image → HasEntries image entries)
