use Rattle.std.proofs.Common.{inl, inr}
use Rattle.bl_rows.proofs.CellValues.{never_not_utf8}
use Rattle.bl_rows.proofs.properties.values_in.Goals as goal

pub unreachable-requires : goal.unreachable-requires
unreachable-requires c =
    elim (rw c.in-Err-NotUtf8.field-0-is at c.in-Err-NotUtf8.ensures.refusal) [
      | inl same ↦ cc same
      | inr is ↦ never_not_utf8 c.args.column.now c.args.cell.now c.requires.text is
    ]
