-- The number of entries.
use Rattle.std.proofs.Common.{◌≡◌, [], ◌∷◌, List, length, ap, arith}
use Rattle.bl_entry.specs.declared.entry.Entry.{Entry}
use Rattle.bl_world.specs.Worlds.{IsWorldOf, World}

-- a world counts its entries
pub world_counts : (entries : List Entry) (world : World) → IsWorldOf entries world → world.entries ≡ length entries
world_counts [] world leads = ap (λ (w : World). w.entries) leads
world_counts (entry ∷ older) world leads = omega (arith, leads.2.next.entries, world_counts older leads.0 leads.1)
