-- The row of a record without a fault is valid.
use Rattle.std.specs.Prelude.{◌≡◌, ◌+◌, ◌≤◌, true, None, refl}
use Rattle.std.specs.List.{All, Contains}
use Rattle.std.proofs.Common.{sym, subst, arith, leb-true}
use Rattle.bl_value.specs.declared.column.Side.{Side}
use Rattle.bl_value.specs.declared.column.Side.TheVariants as side
use Rattle.bl_value.specs.declared.column.Columns.{Columns}
use Rattle.bl_value.specs.declared.column.ColumnUse.{ColumnUse}
use Rattle.bl_value.specs.declared.column.ColumnUse.TheVariants.{Id, Label, From, To, Property}
use Rattle.bl_value.specs.declared.row.Row.{Row}
use Rattle.bl_rows.specs.Contents.{Fields}
use Rattle.bl_rows.specs.FirstFaults.{row_by, told, values_in_all}
use Rattle.bl_rows.specs.Rows.{is_from_use, is_id_use, is_key_use, is_label_use, is_to_use, label_count, properties_of, system_cell, value_count}
use Rattle.bl_value.specs.ValidColumns.{HasEnds, IsColumnUse, IsColumns}
use Rattle.bl_value.specs.ValidRows.{HasValues, IsRow}
use Rattle.bl_rows.proofs.RowFaults.{KeptBelow, all_kept}
use Rattle.bl_rows.proofs.SystemCells.{edge_label_is, id_is, labels_are}
use Rattle.bl_rows.proofs.ValidProperties.{properties_are, singles}

id_keys : (side : Side) (other : ColumnUse) → is_id_use other ≡ true → is_key_use side other ≡ true
id_keys side.Vertex Id is = refl
id_keys side.Edge Id is = refl
id_keys side Label is = cc is
id_keys side From is = cc is
id_keys side To is = cc is
id_keys side (Property column) is = cc is

from_keys : (other : ColumnUse) → is_from_use other ≡ true → is_key_use side.Edge other ≡ true
from_keys From is = refl
from_keys Id is = cc is
from_keys Label is = cc is
from_keys To is = cc is
from_keys (Property column) is = cc is

to_keys : (other : ColumnUse) → is_to_use other ≡ true → is_key_use side.Edge other ≡ true
to_keys To is = refl
to_keys Id is = cc is
to_keys Label is = cc is
to_keys From is = cc is
to_keys (Property column) is = cc is

few_by : (side : Side) (columns : Columns) (fields : Fields) → columns.side ≡ side → KeptBelow columns fields 8
    → label_count side (system_cell is_label_use columns.uses fields) + values_in_all (properties_of columns fields) ≤ 4096
few_by side columns fields is kept =
    subst (λ s. label_count s (system_cell is_label_use columns.uses fields) + values_in_all (properties_of columns fields) ≤ 4096) is
    (leb-true (value_count columns fields) 4096 (kept.values (omega arith)))

valid_by : (side : Side) (columns : Columns) (fields : Fields) → columns.side ≡ side → IsColumns columns → KeptBelow columns fields 8 → All HasValues (properties_of columns fields)
    → IsRow (row_by side columns.uses fields (properties_of columns fields))
valid_by side.Vertex columns fields is proper kept has =
    let few = few_by side.Vertex columns fields is kept in (
      id_is columns fields kept is_id_use Id refl (id_keys columns.side) proper.id,
      labels_are columns fields kept is (omega (arith, few)),
      properties_are columns.side columns.uses fields proper.each proper.differ has (omega (arith, few)),
    )
valid_by side.Edge columns fields is proper kept has =
    let few = few_by side.Edge columns fields is kept in
    let ends : Contains columns.uses From × Contains columns.uses To = subst (λ s. HasEnds s columns.uses) is proper.ends in
    let froms = subst (λ s. (other : ColumnUse) → is_from_use other ≡ true → is_key_use s other ≡ true) (sym is) from_keys in
    let tos = subst (λ s. (other : ColumnUse) → is_to_use other ≡ true → is_key_use s other ≡ true) (sym is) to_keys in (
      id_is columns fields kept is_id_use Id refl (id_keys columns.side) proper.id,
      edge_label_is columns fields kept is,
      id_is columns fields kept is_from_use From refl froms ends.0,
      id_is columns fields kept is_to_use To refl tos ends.1,
      properties_are columns.side columns.uses fields proper.each proper.differ has (omega (arith, few)),
      singles 1 columns.uses fields (subst (λ s. All (IsColumnUse s) columns.uses) is proper.each),
    )

pub valid_row : (columns : Columns) (fields : Fields) (row : Row) → IsColumns columns → told columns fields ≡ None → All HasValues (properties_of columns fields)
    → row ≡ row_by columns.side columns.uses fields (properties_of columns fields) → IsRow row
valid_row columns fields row proper none has is = subst IsRow (sym is) (valid_by columns.side columns fields refl proper (all_kept columns fields none) has)
