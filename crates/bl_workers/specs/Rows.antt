-- The rows of records.
use Rattle.std.specs.Prelude.{List, map}
use Rattle.bl_value.specs.declared.column.Columns.{Columns}
use Rattle.bl_value.specs.declared.row.Row.{Row}
use Rattle.bl_rows.specs.Contents.{Fields}
use Rattle.bl_rows.specs.FirstFaults.{record_row}

-- each record's row, in their order
abbrev pub record_rows : Columns → List Fields → List Row
record_rows columns records = map (record_row columns) records
