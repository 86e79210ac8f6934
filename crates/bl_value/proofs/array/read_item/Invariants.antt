use Rattle.std.proofs.Common.{◌≡◌, ◌+◌, ◌≤◌, length}
use Rattle.bl_value.specs.Cells.{items, items_from, pieces}
use Rattle.bl_value.proofs.array.read_item.Given as goal

-- the item so far, and what is left of the cell
abbrev pub invariant-loop-rest : goal.invariant-loop-rest
invariant-loop-rest l = record {
  items : items_from l.item.items (pieces l.rest) ≡ items l.cell;
  bytes : length l.item.items + length l.rest ≤ length l.cell;
}

abbrev pub decreases-loop-rest : goal.decreases-loop-rest
decreases-loop-rest l = length l.rest
