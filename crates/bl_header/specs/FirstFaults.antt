-- The first fault of one column, in the order of a column's faults.
use Rattle.std.specs.Prelude.{◌≡◌, ℕ, ◌+◌, ◌<◌, Bool, ◌||◌, ◌&&◌, if◌then◌else◌, List, [], take, length, slice_index_or, None, Some}
use Rattle.std.specs.declared.option.Option.{Option}
use Rattle.std.specs.Option.{option_or}
use Rattle.bl_value.specs.Cells.{without_spaces}
use Rattle.bl_value.specs.declared.column.Side.{Side}
use Rattle.bl_value.specs.declared.column.ColumnUse.{ColumnUse}
use Rattle.bl_header.specs.declared.refusal.HeaderRefusal.{HeaderRefusal}
use Rattle.bl_header.specs.declared.refusal.HeaderRefusal.TheVariants.{NoId, HalfEdge, UnknownSystem, UnknownType, FloatColumn, SingleArray, EdgeNotSingle, Repeated, BadName, TooManyColumns, NoMemory}
use Rattle.bl_header.specs.declared.type_text.TypeText.{TypeText}
use Rattle.bl_header.specs.Fields.{column_use}
use Rattle.bl_header.specs.Faults.{Fault, bad_name, unknown_system, unknown_type, float_column, single_array, edge_not_single, repeated, has_fault, is_float, is_on_edge, is_said_set, is_said_single}

-- the first of the faults of a column for which the test is true, whatever stands to its left
abbrev pub first_own : (Fault → Bool) → Option Fault
first_own test =
    if test bad_name then Some bad_name
    else (if test unknown_system then Some unknown_system
    else (if test unknown_type then Some unknown_type
    else (if test float_column then Some float_column
    else (if test single_array then Some single_array
    else (if test edge_not_single then Some edge_not_single
    else None)))))

-- the first of the faults for which the test is true
abbrev pub first_of : (Fault → Bool) → Option Fault
first_of test = option_or (first_own test) (if test repeated then Some repeated else None)

-- the field at this place, counted from 0
abbrev pub field_at : List (List ℕ) → ℕ → List ℕ
field_at fields place = without_spaces (slice_index_or fields place [])

abbrev pub use_in : Side → List ℕ → Option ColumnUse
use_in side field = column_use side (without_spaces field)

-- the fault that is given for the column at this place
abbrev pub fault_at : Side → List (List ℕ) → ℕ → Option Fault
fault_at side fields place = first_of (has_fault side (take place fields) (field_at fields place))

-- the fault that is given for the field, whatever stands to its left
abbrev pub own_fault : Side → List ℕ → Option Fault
own_fault side field = first_own (has_fault side [] field)

-- the faults of a type that is read
abbrev pub type_fault : Side → TypeText → Option Fault
type_fault side type =
    if is_float type.name then Some float_column
    else (if is_said_single type.cardinality && type.many then Some single_array
    else (if is_on_edge side && (is_said_set type.cardinality || type.many)
    then Some edge_not_single
    else None))

-- the refusal is that of the column with this fault
abbrev pub Gives : Option Fault → ℕ → HeaderRefusal → Type 0
Gives found column (BadName at) = (at ≡ column) × (found ≡ Some bad_name)
Gives found column (UnknownSystem at) = (at ≡ column) × (found ≡ Some unknown_system)
Gives found column (UnknownType at) = (at ≡ column) × (found ≡ Some unknown_type)
Gives found column (FloatColumn at) = (at ≡ column) × (found ≡ Some float_column)
Gives found column (SingleArray at) = (at ≡ column) × (found ≡ Some single_array)
Gives found column (EdgeNotSingle at) = (at ≡ column) × (found ≡ Some edge_not_single)
Gives found column (Repeated at) = (at ≡ column) × (found ≡ Some repeated)
Gives found column NoId = ⊥
Gives found column HalfEdge = ⊥
Gives found column (TooManyColumns number) = ⊥
Gives found column NoMemory = Unit {0}

-- no column left of this place has a fault
abbrev pub IsCleanBefore : Side → List (List ℕ) → ℕ → Type 0
IsCleanBefore side fields place = (other : ℕ) → other < place → fault_at side fields other ≡ None

-- a refusal of the column at some place, where no column further left has a fault
abbrev pub IsLeftmost : Side → List (List ℕ) → HeaderRefusal → Type 0
IsLeftmost side fields refusal =
    (place : ℕ) × (place < length fields) × IsCleanBefore side fields place
    × Gives (fault_at side fields place) (place + 1) refusal
