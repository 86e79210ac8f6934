use Rattle.std.proofs.Common.{◌≡◌, ◌++◌, length, take}
use Rattle.std.specs.List.{flat_map}
use Rattle.bl_entry.specs.Encoding.{u32_bytes}
use Rattle.bl_entry.proofs.part.write_list.Given as goal

-- the items so far are written
abbrev pub invariant-loop-item : goal.invariant-loop-item
invariant-loop-item g l = l.out ≡ (l.fn.out ++ u32_bytes (length l.items)) ++ flat_map g.T.Part.bytes (take l.item-index l.item-items)
