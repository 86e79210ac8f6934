-- What a header means: its columns, or why it is refused.
use Rattle.std.specs.Prelude.{◌≡◌, ℕ, ◌<◌, ◌≤◌, true, false, codes, List, map, length, Some, Result, Ok, Err}
use Rattle.bl_value.specs.Cells.{without_spaces}
use Rattle.bl_value.specs.declared.column.Columns.{Columns}
use Rattle.bl_header.specs.declared.refusal.HeaderRefusal.{HeaderRefusal}
use Rattle.bl_header.specs.declared.refusal.HeaderRefusal.TheVariants.{NoId, HalfEdge, UnknownSystem, UnknownType, FloatColumn, SingleArray, EdgeNotSingle, Repeated, BadName, TooManyColumns, NoMemory}
use Rattle.bl_header.specs.Fields.{column_use}
use Rattle.bl_header.specs.Faults.{Fault, bad_name, unknown_system, unknown_type, float_column, single_array, edge_not_single, repeated, has_field, side_of, HasNoFault, IsFirstFault}

-- the most columns that a file may have
abbrev pub column_limit : ℕ
column_limit = 1024

-- not too many columns, none with a fault
pub record IsSound (fields : List (List ℕ)) : Type 0 where
  pub few : length fields ≤ column_limit
  pub no_fault : HasNoFault fields

-- the header is accepted, and these are its columns
pub record IsMeaning (fields : List (List ℕ)) (columns : Columns) : Type 0 where
  pub sound : IsSound fields
  pub id : has_field (codes "~id") fields ≡ true
  pub ends : has_field (codes "~from") fields ≡ has_field (codes "~to") fields
  pub side : columns.side ≡ side_of fields
  pub uses : map Some columns.uses
      ≡ map (λ field. column_use (side_of fields) (without_spaces field)) fields

-- the header is accepted but for its `~id`
pub record HasNoId (fields : List (List ℕ)) : Type 0 where
  pub sound : IsSound fields
  pub no_id : has_field (codes "~id") fields ≡ false

-- there is an `~id`, and just one of `~from` and `~to`
pub record IsHalfEdge (fields : List (List ℕ)) : Type 0 where
  pub sound : IsSound fields
  pub id : has_field (codes "~id") fields ≡ true
  pub half : ¬ (has_field (codes "~from") fields ≡ has_field (codes "~to") fields)

-- not too many columns, and this is the first fault of all
abbrev pub IsFaulty : List (List ℕ) → ℕ → Fault → Type 0
IsFaulty fields column fault = (length fields ≤ column_limit) × IsFirstFault fields column fault

-- the refusal is that of the fields; want of memory comes at any time
abbrev pub IsRefusal : List (List ℕ) → HeaderRefusal → Type 0
IsRefusal fields (TooManyColumns number) = (column_limit < length fields) × (number ≡ length fields)
IsRefusal fields (BadName column) = IsFaulty fields column bad_name
IsRefusal fields (UnknownSystem column) = IsFaulty fields column unknown_system
IsRefusal fields (UnknownType column) = IsFaulty fields column unknown_type
IsRefusal fields (FloatColumn column) = IsFaulty fields column float_column
IsRefusal fields (SingleArray column) = IsFaulty fields column single_array
IsRefusal fields (EdgeNotSingle column) = IsFaulty fields column edge_not_single
IsRefusal fields (Repeated column) = IsFaulty fields column repeated
IsRefusal fields NoId = HasNoId fields
IsRefusal fields HalfEdge = IsHalfEdge fields
IsRefusal fields NoMemory = Unit {0}

-- what reading a header gives
abbrev pub Reads : List (List ℕ) → Result Columns HeaderRefusal → Type 0
Reads fields (Ok columns) = IsMeaning fields columns
Reads fields (Err refusal) = IsRefusal fields refusal

-- the column that a refusal is logged with
abbrev pub column_of : HeaderRefusal → ℕ
column_of NoId = 0
column_of HalfEdge = 0
column_of NoMemory = 0
column_of (UnknownSystem column) = column
column_of (UnknownType column) = column
column_of (FloatColumn column) = column
column_of (SingleArray column) = column
column_of (EdgeNotSingle column) = column
column_of (Repeated column) = column
column_of (BadName column) = column
column_of (TooManyColumns number) = number
