-- The system cells of a record and the columns of theirs that break a rule, gathered column by
-- column.
use Rattle.std.specs.Prelude.{◌≡◌, ℕ, ◌+◌, if◌then◌else◌, List, [], ◌∷◌, None, Some}
use Rattle.std.specs.declared.option.Option.{Option}
use Rattle.bl_value.specs.Cells.{without_spaces}
use Rattle.bl_value.specs.declared.column.Columns.{Columns}
use Rattle.bl_value.specs.declared.column.Side.{Side}
use Rattle.bl_value.specs.declared.column.Side.TheVariants as side
use Rattle.bl_value.specs.declared.column.ColumnUse.{ColumnUse}
use Rattle.bl_value.specs.declared.log_code.LogCode.{LogCode}
use Rattle.bl_value.specs.declared.row.Property.{Property as RowProperty}
use Rattle.bl_value.specs.declared.row.Row.{Row}
use Rattle.bl_value.specs.declared.row.Row.TheVariants.{Vertex, Edge}
use Rattle.bl_rows.specs.Contents.{Fields}
use Rattle.bl_rows.specs.FirstFaults.{Told, first_of, first_told, long_code, missing_code}
use Rattle.bl_rows.specs.Rows.{edge_label, is_from_use, is_id_use, is_label_use, is_long, is_missing, is_to_use, labels_in, system_cell}
use Rattle.bl_rows.specs.declared.system_cells.SystemCells.{SystemCells}

-- the cells without the spaces at their ends, and the numbers of the leftmost columns without an id
-- and with one too long
pub record Gathered : Type 0 where
  pub id : List ℕ
  pub label : List ℕ
  pub from : List ℕ
  pub to : List ℕ
  pub missing : Option ℕ
  pub long : Option ℕ

abbrev pub gathered : SystemCells → Gathered
gathered cells = record {
  id = cells.id.now;
  label = cells.label.now;
  from = cells.from.now;
  to = cells.to.now;
  missing = cells.missing;
  long = cells.long;
}

abbrev pub nothing_gathered : Gathered
nothing_gathered = record { id = []; label = []; from = []; to = []; missing = None; long = None }

-- a system column with this number in front of others
abbrev pub with_system : Side → ℕ → ColumnUse → List ℕ → Gathered → Gathered
with_system side number role field later = record {
  id = if is_id_use role then without_spaces field else later.id;
  label = if is_label_use role then without_spaces field else later.label;
  from = if is_from_use role then without_spaces field else later.from;
  to = if is_to_use role then without_spaces field else later.to;
  missing = if is_missing side role field then Some number else later.missing;
  long = if is_long side role field then Some number else later.long;
}

-- those of the columns from this number on
abbrev pub gather : Side → ℕ → List ColumnUse → Fields → Gathered
gather side number (role ∷ uses) (field ∷ fields) =
    with_system side number role field (gather side (number + 1) uses fields)
gather side number _ _ = nothing_gathered

-- what is told of a column, if there is one
abbrev pub told_at : LogCode → Option ℕ → Option Told
told_at code None = None
told_at code (Some number) = Some (code, number)

-- what the rules about system cells tell
abbrev pub system_told : Columns → Fields → Option Told
system_told columns fields =
    first_of (first_told (missing_code columns.side) 1 columns.uses fields)
    (first_told (long_code columns.side) 1 columns.uses fields)

-- the system cells of a record
pub record AreCellsOf (columns : Columns) (fields : Fields) (cells : Gathered) : Type 0 where
  pub id : cells.id ≡ system_cell is_id_use columns.uses fields
  pub label : cells.label ≡ system_cell is_label_use columns.uses fields
  pub from : cells.from ≡ system_cell is_from_use columns.uses fields
  pub to : cells.to ≡ system_cell is_to_use columns.uses fields

-- the row with these system cells and properties
abbrev pub row_of_cells : Side → Gathered → List RowProperty → Row
row_of_cells side.Vertex cells properties = Vertex cells.id (labels_in cells.label) properties
row_of_cells side.Edge cells properties =
    Edge cells.id (edge_label cells.label) cells.from cells.to properties
