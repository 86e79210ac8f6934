use Rattle.std.proofs.Common.{◌≡◌, ◌≤◌, ◌+◌, true, length}
use Rattle.std.specs.List.{All}
use Rattle.std.specs.Option.{option_copied}
use Rattle.std.specs.Str.{IsUtf8}
use Rattle.bl_value.specs.Cells.{item_values, values_of}
use Rattle.bl_value.specs.ItemsLeft.{bytes_left, items_left, with_values}
use Rattle.bl_value.specs.Valid.{IsValue}
use Rattle.bl_value.proofs.array.read_items.Given as goal

-- the values so far, and those of what is left
abbrev pub invariant-loop-left : goal.invariant-loop-left
invariant-loop-left l = record {
  values : with_values l.values (item_values l.kind (items_left (option_copied l.left))) ≡ values_of l.kind true l.cell;
  texts : l.is_text ≡ true → All IsUtf8 (items_left (option_copied l.left));
  bytes : bytes_left (option_copied l.left) ≤ length l.cell + 1;
  valid : All IsValue l.values;
}

abbrev pub decreases-loop-left : goal.decreases-loop-left
decreases-loop-left l = bytes_left (option_copied l.left)
