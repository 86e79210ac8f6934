-- What a record says under the columns of its file (Neptune User Guide, "Gremlin load data
-- format"): the set of its faults, and its row where it has none.
use Rattle.std.specs.Prelude.{◌≡◌, ◌⊎◌, ℕ, ◌==◌, ◌+◌, ◌<◌, nat_le, nat_eq, Bool, true, false, not, ◌&&◌, if◌then◌else◌, codes, List, [], ◌∷◌, ◌++◌, length, map, filter, sum_by, slice_get, Some, Ok, Err}
use Rattle.std.specs.declared.result.Result.{Result}
use Rattle.std.specs.List.{list_all}
use Rattle.std.specs.Str.{is_utf8}
use Rattle.std.specs.Cmp.Lexicographic.{pointwise}
use Rattle.bl_value.specs.Once.{once_behind}
use Rattle.bl_value.specs.Valid.{id_limit}
use Rattle.bl_value.specs.Cells.{items, values_in as values_of_item, values_of, without_spaces}
use Rattle.bl_value.specs.declared.value.Value.{Value}
use Rattle.bl_value.specs.declared.cell.CellRefusal.{CellRefusal}
use Rattle.bl_value.specs.declared.cell.CellRefusal.TheVariants as refusal
use Rattle.bl_value.specs.declared.column.Side.{Side}
use Rattle.bl_value.specs.declared.column.Side.TheVariants as side
use Rattle.bl_value.specs.declared.column.Column.{Column}
use Rattle.bl_value.specs.declared.column.Columns.{Columns}
use Rattle.bl_value.specs.declared.column.ColumnUse.{ColumnUse}
use Rattle.bl_value.specs.declared.column.ColumnUse.TheVariants.{Id, Label, From, To, Property}
use Rattle.bl_value.specs.declared.log_code.LogCode.{LogCode}
use Rattle.bl_value.specs.declared.log_code.LogCode.TheVariants.{ColumnCount, NotUtf8, RecordTooLarge, MissingId, IdTooLong, NotOfType, OutOfRange, TooManyValues}
use Rattle.bl_value.specs.declared.row.Property.{Property as RowProperty}
use Rattle.bl_value.specs.declared.row.Row.{Row}
use Rattle.bl_value.specs.declared.row.Row.TheVariants.{Vertex, Edge, Bad}
use Rattle.bl_rows.specs.Contents.{Fields}

-- System cells: those of the columns whose names begin with `~`. They lose the ASCII spaces at
-- their ends.

abbrev pub is_id_use : ColumnUse → Bool
is_id_use Id = true
is_id_use _ = false

abbrev pub is_label_use : ColumnUse → Bool
is_label_use Label = true
is_label_use _ = false

abbrev pub is_from_use : ColumnUse → Bool
is_from_use From = true
is_from_use _ = false

abbrev pub is_to_use : ColumnUse → Bool
is_to_use To = true
is_to_use _ = false

-- the cell of a system column, and an empty one where there is no such column
abbrev pub system_cell : (ColumnUse → Bool) → List ColumnUse → Fields → List ℕ
system_cell is_wanted (column ∷ uses) (field ∷ fields) =
    if is_wanted column then without_spaces field else system_cell is_wanted uses fields
system_cell is_wanted _ _ = []

-- texts without the spaces at their ends, those that aren't empty
abbrev pub some_labels : List (List ℕ) → List (List ℕ)
some_labels found = filter (λ label. not (length label == 0)) (map without_spaces found)

-- The labels of a vertex: the items of its label cell lose the spaces at their ends, then empty and
-- repeated ones are dropped.
abbrev pub labels_of : List (List ℕ) → List (List ℕ)
labels_of found = once_behind (pointwise nat_eq) [] (some_labels found)

abbrev pub labels_in : List ℕ → List (List ℕ)
labels_in label_cell = labels_of (items label_cell)

-- The label of an edge: the whole cell, or `edge`.
abbrev pub edge_label : List ℕ → List ℕ
edge_label label_cell = if length label_cell == 0 then codes "edge" else label_cell

-- The properties: one for each property cell that has values.

abbrev pub values_or_none : Result (List Value) CellRefusal → List Value
values_or_none (Ok values) = values
values_or_none (Err refused) = []

abbrev pub values_in : Column → List ℕ → List Value
values_in column bytes = values_or_none (values_of column.kind column.many bytes)

abbrev pub property_in : ℕ → ColumnUse → List ℕ → List RowProperty
property_in number (Property column) bytes =
    if length (values_in column bytes) == 0 then []
    else record {
      key = column.name;
      column = number;
      single = column.single;
      values = values_in column bytes;
    } ∷ []
property_in number _ bytes = []

-- the properties of the columns from this number on
abbrev pub properties_from : ℕ → List ColumnUse → Fields → List RowProperty
properties_from number (column ∷ uses) (field ∷ fields) =
    property_in number column field ++ properties_from (number + 1) uses fields
properties_from number _ _ = []

abbrev pub properties_of : Columns → Fields → List RowProperty
properties_of columns fields = properties_from 1 columns.uses fields

-- labels and property values together, where an edge has one label
abbrev pub label_count : Side → List ℕ → ℕ
label_count side.Vertex label_cell = length (labels_in label_cell)
label_count side.Edge label_cell = 1

abbrev pub value_count : Columns → Fields → ℕ
value_count columns fields =
    label_count columns.side (system_cell is_label_use columns.uses fields)
    + sum_by (λ property. length property.values) (properties_of columns fields)

-- Faults.

-- the most bytes that the fields of a record may have together, and the most labels and values
abbrev pub record_limit : ℕ
record_limit = 1048576

abbrev pub value_limit : ℕ
value_limit = 4096

-- an id or a label that isn't too long
abbrev pub is_short : List ℕ → Bool
is_short text = nat_le (length text) id_limit

-- an id of the record, which on an edge file has two more
abbrev pub is_key_use : Side → ColumnUse → Bool
is_key_use side Id = true
is_key_use side.Edge From = true
is_key_use side.Edge To = true
is_key_use _ _ = false

abbrev pub is_missing : Side → ColumnUse → List ℕ → Bool
is_missing side role field = is_key_use side role && length (without_spaces field) == 0

abbrev pub is_long_label : Side → List ℕ → Bool
is_long_label side.Vertex label_cell = not (list_all is_short (labels_in label_cell))
is_long_label side.Edge label_cell = not (is_short label_cell)

abbrev pub is_long : Side → ColumnUse → List ℕ → Bool
is_long side Label field = is_long_label side (without_spaces field)
is_long side role field = is_key_use side role && not (is_short (without_spaces field))

-- the items of a property cell: those of an array, or the whole cell
abbrev pub property_items : Column → List ℕ → List (List ℕ)
property_items column bytes = if column.many then items bytes else bytes ∷ []

-- the item with this number of a property cell is refused
abbrev pub IsRefused : ColumnUse → List ℕ → ℕ → CellRefusal → Type 0
IsRefused (Property column) bytes number refused =
    (place : ℕ) × (item : List ℕ) × (number ≡ place + 1)
    × (slice_get (property_items column bytes) place ≡ Some item)
    × (values_of_item column.kind item ≡ Err refused)
IsRefused _ bytes number refused = ⊥

-- a fact of the column with this number, counted from 1, and of the record's field in it
abbrev pub HoldsAt : List ColumnUse → Fields → ℕ → (ColumnUse → List ℕ → Type 0) → Type 0
HoldsAt uses fields number Fact =
    (place : ℕ) × (role : ColumnUse) × (field : List ℕ)
    × (number ≡ place + 1) × (slice_get uses place ≡ Some role)
    × (slice_get fields place ≡ Some field) × Fact role field

-- A fault of a record. The column is 0 where its rule is about the whole record, and the item is 0
-- where it is about a whole cell.
pub record Fault : Type 0 where
  pub code : LogCode
  pub column : ℕ
  pub item : ℕ

abbrev pub OfRecord : ℕ → ℕ → Type 0
OfRecord column item = (column ≡ 0) × (item ≡ 0)

abbrev pub IsFaultBy : Columns → Fields → LogCode → ℕ → ℕ → Type 0
IsFaultBy columns fields ColumnCount column item =
    OfRecord column item × ((length fields == length columns.uses) ≡ false)
IsFaultBy columns fields NotUtf8 column item =
    OfRecord column item × (list_all is_utf8 fields ≡ false)
IsFaultBy columns fields RecordTooLarge column item =
    OfRecord column item × (nat_le (sum_by length fields) record_limit ≡ false)
IsFaultBy columns fields MissingId column item =
    (item ≡ 0) × HoldsAt columns.uses fields column
    (λ role field. is_missing columns.side role field ≡ true)
IsFaultBy columns fields IdTooLong column item =
    (item ≡ 0) × HoldsAt columns.uses fields column
    (λ role field. is_long columns.side role field ≡ true)
IsFaultBy columns fields NotOfType column item =
    HoldsAt columns.uses fields column (λ role field. IsRefused role field item refusal.NotOfType)
IsFaultBy columns fields OutOfRange column item =
    HoldsAt columns.uses fields column (λ role field. IsRefused role field item refusal.OutOfRange)
IsFaultBy columns fields TooManyValues column item =
    OfRecord column item × (nat_le (value_count columns fields) value_limit ≡ false)
IsFaultBy columns fields _ column item = ⊥

-- the fault is one of the record's
abbrev pub IsFault : Columns → Fields → Fault → Type 0
IsFault columns fields fault = IsFaultBy columns fields fault.code fault.column fault.item

-- the rule that is broken, in the order of the rules
abbrev pub rule_of : LogCode → ℕ
rule_of ColumnCount = 1
rule_of NotUtf8 = 2
rule_of RecordTooLarge = 3
rule_of MissingId = 4
rule_of IdTooLong = 5
rule_of NotOfType = 6
rule_of OutOfRange = 6
rule_of TooManyValues = 7
rule_of _ = 0

-- one fault comes before another: by rule, then by column, then by item
abbrev pub Precedes : Fault → Fault → Type 0
Precedes a b =
    (rule_of a.code < rule_of b.code)
    ⊎ ((rule_of a.code ≡ rule_of b.code)
    × ((a.column < b.column) ⊎ ((a.column ≡ b.column) × (a.item < b.item))))

-- the least of a record's faults
pub record IsLeast (columns : Columns) (fields : Fields) (fault : Fault) : Type 0 where
  pub holds : IsFault columns fields fault
  pub least : (other : Fault) → IsFault columns fields other → ¬ (Precedes other fault)

abbrev pub HasNoFault : Columns → Fields → Type 0
HasNoFault columns fields = (fault : Fault) → ¬ (IsFault columns fields fault)

-- The row of a record: its values where it has no fault, and else its least fault.
abbrev pub IsRowOf : Columns → Fields → Row → Type 0
IsRowOf columns fields (Vertex id labels properties) =
    HasNoFault columns fields
    × (columns.side ≡ side.Vertex)
    × (id ≡ system_cell is_id_use columns.uses fields)
    × (labels ≡ labels_in (system_cell is_label_use columns.uses fields))
    × (properties ≡ properties_of columns fields)
IsRowOf columns fields (Edge id label from to properties) =
    HasNoFault columns fields
    × (columns.side ≡ side.Edge)
    × (id ≡ system_cell is_id_use columns.uses fields)
    × (label ≡ edge_label (system_cell is_label_use columns.uses fields))
    × (from ≡ system_cell is_from_use columns.uses fields)
    × (to ≡ system_cell is_to_use columns.uses fields)
    × (properties ≡ properties_of columns fields)
IsRowOf columns fields (Bad code column) =
    (fault : Fault) × (code ≡ fault.code) × (column ≡ fault.column) × IsLeast columns fields fault
