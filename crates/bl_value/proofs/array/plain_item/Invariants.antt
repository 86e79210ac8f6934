use Rattle.std.proofs.Common.{◌≡◌, drop, take}
use Rattle.bl_value.specs.Cells.{items, items_from, pieces}
use Rattle.bl_value.proofs.array.plain_item.Given as goal

-- the item so far, and what is left of the cell
abbrev pub invariant-loop-i : goal.invariant-loop-i
invariant-loop-i l = items_from (take l.i l.cell) (pieces (drop l.i l.cell)) ≡ items l.cell
