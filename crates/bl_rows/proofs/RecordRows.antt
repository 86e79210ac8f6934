-- The row of a record, as one function of it.
use Rattle.std.specs.Prelude.{◌≡◌, ℕ, None, Some}
use Rattle.std.proofs.Common.{sym, ap, ◌∙◌}
use Rattle.bl_value.specs.declared.column.Columns.{Columns}
use Rattle.bl_value.specs.declared.log_code.LogCode.{LogCode}
use Rattle.bl_value.specs.declared.row.Row.{Row}
use Rattle.bl_value.specs.declared.row.Row.TheVariants.{Bad}
use Rattle.bl_rows.specs.Contents.{Fields}
use Rattle.bl_rows.specs.FirstFaults.{record_row, row_by, row_told, told}
use Rattle.bl_rows.specs.Rows.{properties_of}

-- that of a record of which nothing is told
pub untold_row : (columns : Columns) (fields : Fields) (row : Row) → told columns fields ≡ None → row ≡ row_by columns.side columns.uses fields (properties_of columns fields) → row ≡ record_row columns fields
unfolding record_row
untold_row columns fields row none is = is ∙ ap (λ fault. row_told fault columns fields) (sym none)

pub told_row : (columns : Columns) (fields : Fields) (code : LogCode) (column : ℕ) → told columns fields ≡ Some (code, column) → Bad code column ≡ record_row columns fields
unfolding record_row
told_row columns fields code column is = ap (λ fault. row_told fault columns fields) (sym is)
