-- What valid rows are.
use Rattle.std.specs.Prelude.{◌≡◌, ◌≤◌, ◌<◌, ◌^◌, ℕ, nat_eq, true, List, length, map}
use Rattle.std.specs.List.{All, IsDistinct}
use Rattle.std.specs.Ordering.{eq_by_cmp}
use Rattle.std.specs.Cmp.Lexicographic.{pointwise}
use Rattle.bl_value.specs.Order.{value_cmp}
use Rattle.bl_value.specs.Valid.{IsId, IsKey, IsValue}
use Rattle.bl_value.specs.declared.log_code.LogCode.{LogCode}
use Rattle.bl_value.specs.declared.log_code.LogCode.TheVariants.{ColumnCount, NotUtf8, RecordTooLarge, MissingId, IdTooLong, NotOfType, OutOfRange, TooManyValues}
use Rattle.bl_value.specs.declared.row.Property.{Property}
use Rattle.bl_value.specs.declared.row.Row.{Row}
use Rattle.bl_value.specs.declared.row.Row.TheVariants.{Vertex, Edge, Bad}

-- texts that differ
abbrev pub AreApart : List (List ℕ) → Type 0
AreApart texts = IsDistinct (pointwise nat_eq) texts

abbrev pub HasValues : Property → Type 0
HasValues property = All IsValue property.values

pub record IsProperty (property : Property) : Type 0 where
  pub key : IsKey property.key
  pub each : HasValues property
  pub some : 1 ≤ length property.values
  pub few : length property.values < 2 ^ 32
  pub differ : IsDistinct (eq_by_cmp value_cmp) property.values
  pub one : property.single ≡ true → length property.values ≡ 1

pub record AreProperties (properties : List Property) : Type 0 where
  pub each : All IsProperty properties
  pub few : length properties < 2 ^ 32
  pub differ : AreApart (map (λ property. property.key) properties)

pub record AreLabels (labels : List (List ℕ)) : Type 0 where
  pub each : All IsId labels
  pub few : length labels < 2 ^ 32
  pub differ : AreApart labels

-- a code that converting a record gives
abbrev pub IsRecordCode : LogCode → Type 0
IsRecordCode ColumnCount = Unit {0}
IsRecordCode NotUtf8 = Unit {0}
IsRecordCode RecordTooLarge = Unit {0}
IsRecordCode MissingId = Unit {0}
IsRecordCode IdTooLong = Unit {0}
IsRecordCode NotOfType = Unit {0}
IsRecordCode OutOfRange = Unit {0}
IsRecordCode TooManyValues = Unit {0}
IsRecordCode _ = ⊥

abbrev pub IsRow : Row → Type 0
IsRow (Vertex id labels properties) = IsId id × AreLabels labels × AreProperties properties
IsRow (Edge id label from to properties) =
    IsId id × IsId label × IsId from × IsId to × AreProperties properties
    × All (λ property. property.single ≡ true) properties
IsRow (Bad code column) = IsRecordCode code
