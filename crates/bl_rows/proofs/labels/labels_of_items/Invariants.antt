use Rattle.std.proofs.Common.{◌≡◌, ◌++◌}
use Rattle.std.specs.Prelude.{nat_eq}
use Rattle.std.specs.Cmp.Lexicographic.{pointwise}
use Rattle.std.specs.Option.{option_copied}
use Rattle.bl_value.specs.ItemsLeft.{bytes_left, items_left}
use Rattle.bl_value.specs.Once.{once_behind}
use Rattle.bl_rows.specs.Rows.{labels_in, some_labels}
use Rattle.bl_rows.proofs.labels.labels_of_items.Given as goal

-- the labels so far, and those of the items that are left
abbrev pub invariant-loop-left : goal.invariant-loop-left
invariant-loop-left l = l.labels ++ once_behind (pointwise nat_eq) l.labels (some_labels (items_left (option_copied l.left))) ≡ labels_in l.label_cell

abbrev pub decreases-loop-left : goal.decreases-loop-left
decreases-loop-left l = bytes_left (option_copied l.left)
