-- The fault of a record that its rules meet first, taken one after another.
use Rattle.std.specs.Prelude.{◌≡◌, ◌↔◌, ℕ, ◌==◌, ◌+◌, nat_le, Bool, if◌then◌else◌, List, ◌∷◌, length, sum_by, None, Some, Ok, Err}
use Rattle.std.specs.declared.option.Option.{Option}
use Rattle.std.specs.declared.result.Result.{Result}
use Rattle.std.specs.List.{list_all}
use Rattle.std.specs.Str.{is_utf8}
use Rattle.bl_value.specs.Cells.{values_of}
use Rattle.bl_value.specs.declared.value.Value.{Value}
use Rattle.bl_value.specs.declared.cell.CellRefusal.{CellRefusal}
use Rattle.bl_value.specs.declared.cell.CellRefusal.TheVariants as refusal
use Rattle.bl_value.specs.declared.column.Side.{Side}
use Rattle.bl_value.specs.declared.column.Side.TheVariants as side
use Rattle.bl_value.specs.declared.column.Columns.{Columns}
use Rattle.bl_value.specs.declared.column.ColumnUse.{ColumnUse}
use Rattle.bl_value.specs.declared.column.ColumnUse.TheVariants.{Property}
use Rattle.bl_value.specs.declared.log_code.LogCode.{LogCode}
use Rattle.bl_value.specs.declared.log_code.LogCode.TheVariants.{ColumnCount, NotUtf8, RecordTooLarge, MissingId, IdTooLong, NotOfType, OutOfRange, TooManyValues}
use Rattle.bl_rows.specs.Contents.{Fields}
use Rattle.bl_value.specs.declared.row.Property.{Property as RowProperty}
use Rattle.bl_value.specs.declared.row.Row.{Row}
use Rattle.bl_value.specs.declared.row.Row.TheVariants.{Vertex, Edge, Bad}
use Rattle.bl_rows.specs.Rows.{IsRowOf, edge_label, is_from_use, is_id_use, is_label_use, is_long, is_missing, is_to_use, labels_in, properties_of, record_limit, system_cell, value_count, value_limit}
use Rattle.bl_rows.specs.declared.refused.Refused.{Refused}
use Rattle.bl_rows.specs.declared.refused.Refused.TheVariants.{Fault, NoMemory}

-- a code, and the column that it tells
abbrev pub Told : Type 0
Told = LogCode × ℕ

abbrev pub told_or : Option LogCode → ℕ → Option Told → Option Told
told_or (Some code) number others = Some (code, number)
told_or None number others = others

-- the first column from this number on that is at fault, and its code
abbrev pub first_told : (ColumnUse → List ℕ → Option LogCode) → ℕ → List ColumnUse → Fields →
    Option Told
first_told tells number (role ∷ uses) (field ∷ fields) =
    told_or (tells role field) number (first_told tells (number + 1) uses fields)
first_told tells number _ _ = None

abbrev pub missing_code : Side → ColumnUse → List ℕ → Option LogCode
missing_code side role field = if is_missing side role field then Some MissingId else None

abbrev pub long_code : Side → ColumnUse → List ℕ → Option LogCode
long_code side role field = if is_long side role field then Some IdTooLong else None

-- a text in UTF-8 has no other refusal
abbrev pub value_code : Result (List Value) CellRefusal → Option LogCode
value_code (Ok values) = None
value_code (Err refusal.NotOfType) = Some NotOfType
value_code (Err refusal.OutOfRange) = Some OutOfRange
value_code (Err refusal.NotUtf8) = None
value_code (Err refusal.NoMemory) = None

abbrev pub refused_code : ColumnUse → List ℕ → Option LogCode
refused_code (Property column) bytes = value_code (values_of column.kind column.many bytes)
refused_code _ bytes = None

-- the fields haven't too many bytes together
abbrev pub are_small : Fields → Bool
are_small fields = nat_le (sum_by length fields) record_limit

abbrev pub whole_code : Columns → Fields → Option LogCode
whole_code columns fields =
    if length fields == length columns.uses
    then (if list_all is_utf8 fields
    then (if are_small fields then None else Some RecordTooLarge) else Some NotUtf8)
    else Some ColumnCount

-- the values of properties, together
abbrev pub values_in_all : List RowProperty → ℕ
values_in_all properties = sum_by (λ property. length property.values) properties

-- so many labels and values
abbrev pub many_told : ℕ → Option Told
many_told count = if nat_le count value_limit then None else Some (TooManyValues, 0)

abbrev pub first_of : Option Told → Option Told → Option Told
first_of (Some told) others = Some told
first_of None others = others

-- what the rules about the whole record and about its cells tell
abbrev pub cells_told : Columns → Fields → Option Told
cells_told columns fields =
    told_or (whole_code columns fields) 0
    (first_of (first_told (missing_code columns.side) 1 columns.uses fields)
    (first_of (first_told (long_code columns.side) 1 columns.uses fields)
    (first_told refused_code 1 columns.uses fields)))

-- what all rules tell
abbrev pub told : Columns → Fields → Option Told
told columns fields = first_of (cells_told columns fields) (many_told (value_count columns fields))

-- the row of a record without a fault
abbrev pub row_by : Side → List ColumnUse → Fields → List RowProperty → Row
row_by side.Vertex uses fields properties =
    Vertex (system_cell is_id_use uses fields) (labels_in (system_cell is_label_use uses fields))
    properties
row_by side.Edge uses fields properties =
    Edge (system_cell is_id_use uses fields) (edge_label (system_cell is_label_use uses fields))
    (system_cell is_from_use uses fields) (system_cell is_to_use uses fields) properties

-- the row of a record, by the fault that is told
abbrev pub row_told : Option Told → Columns → Fields → Row
row_told (Some fault) columns fields = Bad fault.0 fault.1
row_told None columns fields =
    row_by columns.side columns.uses fields (properties_of columns fields)

unfoldable pub record_row : Columns → Fields → Row
record_row columns fields = row_told (told columns fields) columns fields

-- A record has one row, and it is this one.
abbrev pub HasOneRow : Type 0
HasOneRow = (columns : Columns) (fields : Fields) (row : Row) →
    IsRowOf columns fields row ↔ (row ≡ record_row columns fields)

-- The refusal is what was told. Want of memory tells nothing.
abbrev pub Tells : Option Told → Refused → Type 0
Tells told (Fault code column) = told ≡ Some (code, column)
Tells told NoMemory = Unit {0}

-- The same of one column.
abbrev pub TellsOf : Option LogCode → ℕ → Refused → Type 0
TellsOf found number (Fault code column) = (found ≡ Some code) × (column ≡ number)
TellsOf found number NoMemory = Unit {0}
