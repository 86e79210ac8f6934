-- The faults of the columns of a header, and which of them comes first.
use Rattle.std.specs.Prelude.{◌≡◌, ℕ, ◌-◌, ◌<◌, ◌≤◌, ◌⊎◌, Bool, true, false, not, ◌&&◌, ◌||◌, codes, List, [], take, length, slice_index_or, None, Some}
use Rattle.std.specs.declared.option.Option.{Option}
use Rattle.std.specs.Option.{is_none}
use Rattle.std.specs.List.{list_any}
use Rattle.bl_value.specs.Cells.{without_spaces}
use Rattle.bl_value.specs.declared.column.Side.{Side}
use Rattle.bl_value.specs.declared.column.Side.TheVariants.{Vertex, Edge}
use Rattle.bl_header.specs.declared.type_text.TypeName.{TypeName}
use Rattle.bl_header.specs.declared.type_text.TypeName.TheVariants.{Kept, Float}
use Rattle.bl_header.specs.declared.type_text.Cardinality.{Cardinality}
use Rattle.bl_header.specs.declared.type_text.Cardinality.TheVariants.{Single, Set}
use Rattle.bl_header.specs.declared.type_text.TypeText.{TypeText}
use Rattle.bl_header.specs.TypeTexts.{is_text}
use Rattle.bl_header.specs.Fields.{is_system, is_name, is_same_column, name_of, system_column, type_of}

-- What can be wrong with a column. In one column the first of these comes first.
pub data Fault : Type 0 where
  bad_name : Fault
  unknown_system : Fault
  unknown_type : Fault
  float_column : Fault
  single_array : Fault
  edge_not_single : Fault
  repeated : Fault

-- some field is this one, but for the spaces at its ends
abbrev pub has_field : List ℕ → List (List ℕ) → Bool
has_field word fields = list_any (λ field. is_text word (without_spaces field)) fields

-- A file with `~from` or `~to` is about edges.
abbrev pub side_by : Bool → Side
side_by true = Edge
side_by false = Vertex

abbrev pub side_of : List (List ℕ) → Side
side_of fields = side_by (has_field (codes "~from") fields || has_field (codes "~to") fields)

-- The one field, without the spaces at its ends.

abbrev pub is_bad_name : List ℕ → Bool
is_bad_name field = not (is_system field) && not (is_name (name_of field))

abbrev pub is_unknown_system : List ℕ → Bool
is_unknown_system field = is_system field && is_none (system_column field)

abbrev pub is_unknown_type : List ℕ → Bool
is_unknown_type field = not (is_system field) && is_none (type_of field)

-- a type text that is read, and of which the test is true
abbrev pub some_passes : (TypeText → Bool) → Option TypeText → Bool
some_passes test None = false
some_passes test (Some type) = test type

abbrev pub has_type : (TypeText → Bool) → List ℕ → Bool
has_type test field = not (is_system field) && some_passes test (type_of field)

abbrev pub is_float : TypeName → Bool
is_float (Kept kind) = false
is_float Float = true

abbrev pub is_said_single : Option Cardinality → Bool
is_said_single (Some Single) = true
is_said_single (Some Set) = false
is_said_single None = false

abbrev pub is_said_set : Option Cardinality → Bool
is_said_set (Some Single) = false
is_said_set (Some Set) = true
is_said_set None = false

abbrev pub is_on_edge : Side → Bool
is_on_edge Vertex = false
is_on_edge Edge = true

-- the column has this fault, behind the fields to its left
abbrev pub has_fault : Side → List (List ℕ) → List ℕ → Fault → Bool
has_fault side left field bad_name = is_bad_name field
has_fault side left field unknown_system = is_unknown_system field
has_fault side left field unknown_type = is_unknown_type field
has_fault side left field float_column = has_type (λ type. is_float type.name) field
has_fault side left field single_array =
    has_type (λ type. is_said_single type.cardinality && type.many) field
has_fault side left field edge_not_single =
    is_on_edge side && has_type (λ type. is_said_set type.cardinality || type.many) field
has_fault side left field repeated =
    list_any (λ other. is_same_column (without_spaces other) field) left

-- the order of faults in one column
abbrev pub place_of : Fault → ℕ
place_of bad_name = 0
place_of unknown_system = 1
place_of unknown_type = 2
place_of float_column = 3
place_of single_array = 4
place_of edge_not_single = 5
place_of repeated = 6

-- The fault is one of this column's. Columns are counted from 1.
pub record Holds (fields : List (List ℕ)) (column : ℕ) (fault : Fault) : Type 0 where
  pub counted : 1 ≤ column
  pub within : column ≤ length fields
  pub has : has_fault (side_of fields) (take (column - 1) fields)
      (without_spaces (slice_index_or fields (column - 1) [])) fault ≡ true

-- one fault of a file comes before another: by column, then by the order in one column
abbrev pub Precedes : ℕ → Fault → ℕ → Fault → Type 0
Precedes column fault other other_fault =
    (column < other) ⊎ ((column ≡ other) × (place_of fault < place_of other_fault))

-- the least of all faults
pub record IsFirstFault (fields : List (List ℕ)) (column : ℕ) (fault : Fault) : Type 0 where
  pub holds : Holds fields column fault
  pub first : (other : ℕ) (other_fault : Fault) → Precedes other other_fault column fault →
      ¬ (Holds fields other other_fault)

-- no column has a fault
abbrev pub HasNoFault : List (List ℕ) → Type 0
HasNoFault fields = (column : ℕ) (fault : Fault) → ¬ (Holds fields column fault)
