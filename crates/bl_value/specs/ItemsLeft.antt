-- An array cell while its items are read from the left.
use Rattle.std.specs.Prelude.{ℕ, zero, suc, List, [], ◌++◌, length, Option, None, Some, Ok, Err}
use Rattle.std.specs.declared.result.Result.{Result}
use Rattle.std.specs.Ordering.{eq_by_cmp}
use Rattle.bl_value.specs.Cells.{items}
use Rattle.bl_value.specs.Once.{once_behind}
use Rattle.bl_value.specs.Order.{value_cmp}
use Rattle.bl_value.specs.declared.cell.CellRefusal.{CellRefusal}
use Rattle.bl_value.specs.declared.value.Value.{Value}

-- the items of what stands behind a semicolon, or of nothing where the cell has ended
abbrev pub items_left : Option (List ℕ) → List (List ℕ)
items_left None = []
items_left (Some rest) = items rest

-- the bytes that are left, the semicolon in front among them
abbrev pub bytes_left : Option (List ℕ) → ℕ
bytes_left None = zero
bytes_left (Some rest) = suc (length rest)

-- values behind others, without those that are like one further left, where none is refused
abbrev pub with_values : List Value → Result (List Value) CellRefusal →
    Result (List Value) CellRefusal
with_values before (Err refusal) = Err refusal
with_values before (Ok values) = Ok (before ++ once_behind (eq_by_cmp value_cmp) before values)
