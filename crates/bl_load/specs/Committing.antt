-- What is committed.
use Rattle.std.specs.Prelude.{◌≡◌, ℕ}
use Rattle.bl_entry.specs.declared.entry.Entry.{Entry}
use Rattle.bl_world.specs.Worlds.{World}
use Rattle.bl_world.specs.declared.work.Work.{Work}
use Rattle.bl_engine.specs.Findings.{EndedEntry, PlannedEntry, TakenEntry}
use Rattle.bl_load.specs.declared.prepared.Prepared.{Prepared}
use Rattle.bl_load.specs.declared.prepared.Prepared.TheVariants.{Nothing, Plan, Rows, End}

abbrev pub IsNothing : Prepared → Type 0
IsNothing prepared = prepared ≡ Nothing

-- the entry that is made of what was prepared, in the world that is found; of nothing none is made
abbrev pub PreparedEntry : Work → Prepared → ℕ → World → Entry → Type 0
PreparedEntry work Nothing now world entry = ⊥
PreparedEntry work (Plan planned) now world entry = PlannedEntry work planned now world entry
PreparedEntry work (Rows rows) now world entry = TakenEntry work rows now world entry
PreparedEntry work (End how) now world entry = EndedEntry work how now world entry

-- the same in just this world
abbrev pub In : World → (World → Entry → Type 0) → World → Entry → Type 0
In here makes world entry = (world ≡ here) × makes world entry
