use Rattle.std.proofs.Common.{◌≡◌, ◌++◌}
use Rattle.std.specs.Option.{option_copied}
use Rattle.bl_value.specs.Cells as cells
use Rattle.bl_value.specs.ItemsLeft.{bytes_left, items_left}
use Rattle.bl_value.proofs.array.items.Given as goal

-- the items so far, and those that are left
abbrev pub invariant-loop-left : goal.invariant-loop-left
invariant-loop-left l = l.items ++ items_left (option_copied l.left) ≡ cells.items l.cell

abbrev pub decreases-loop-left : goal.decreases-loop-left
decreases-loop-left l = bytes_left (option_copied l.left)
