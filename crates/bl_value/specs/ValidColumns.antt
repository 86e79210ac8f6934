-- What valid columns are.
use Rattle.std.specs.Prelude.{◌≡◌, ◌<◌, ◌^◌, ℕ, nat_eq, Bool, true, false, ◌&&◌, List, length}
use Rattle.std.specs.List.{All, Contains, IsDistinct}
use Rattle.std.specs.Cmp.Lexicographic.{pointwise}
use Rattle.bl_value.specs.Valid.{IsKey}
use Rattle.bl_value.specs.declared.column.Side.{Side}
use Rattle.bl_value.specs.declared.column.Side.TheVariants.{Vertex, Edge}
use Rattle.bl_value.specs.declared.column.Column.{Column}
use Rattle.bl_value.specs.declared.column.Columns.{Columns}
use Rattle.bl_value.specs.declared.column.ColumnUse.{ColumnUse}
use Rattle.bl_value.specs.declared.column.ColumnUse.TheVariants.{Id, Label, From, To, Property}

-- what a column is called
pub data ColumnName : Type 0 where
  of_id : ColumnName
  of_label : ColumnName
  of_from : ColumnName
  of_to : ColumnName
  of_property : List ℕ → ColumnName

abbrev pub is_same_name : ColumnName → ColumnName → Bool
is_same_name of_id of_id = true
is_same_name of_label of_label = true
is_same_name of_from of_from = true
is_same_name of_to of_to = true
is_same_name (of_property a) (of_property b) = pointwise nat_eq a b
is_same_name _ _ = false

abbrev pub use_name : ColumnUse → ColumnName
use_name Id = of_id
use_name Label = of_label
use_name From = of_from
use_name To = of_to
use_name (Property column) = of_property column.name

-- two uses of one system column, or properties of one name
abbrev pub is_same_use : ColumnUse → ColumnUse → Bool
is_same_use a b = is_same_name (use_name a) (use_name b)

-- a property column of a file of this side
pub record IsColumn (side : Side) (column : Column) : Type 0 where
  pub name : IsKey column.name
  pub one : (column.single && column.many) ≡ false
  pub edge : side ≡ Edge → column.single ≡ true

abbrev pub IsColumnUse : Side → ColumnUse → Type 0
IsColumnUse side Id = Unit {0}
IsColumnUse side Label = Unit {0}
IsColumnUse side From = Unit {0}
IsColumnUse side To = Unit {0}
IsColumnUse side (Property column) = IsColumn side column

-- an edge has both its ends
abbrev pub HasEnds : Side → List ColumnUse → Type 0
HasEnds Vertex uses = Unit {0}
HasEnds Edge uses = Contains uses From × Contains uses To

pub record IsColumns (columns : Columns) : Type 0 where
  pub each : All (IsColumnUse columns.side) columns.uses
  pub differ : IsDistinct is_same_use columns.uses
  pub id : Contains columns.uses Id
  pub ends : HasEnds columns.side columns.uses
  pub few : length columns.uses < 2 ^ 32
