-- How much of a file is taken at once.
use Rattle.std.specs.Prelude.{ℕ, ◌+◌, nat_le, Bool, ◌||◌, List, length, sum_by}
use Rattle.bl_value.specs.declared.row.Property.{Property}
use Rattle.bl_value.specs.declared.row.Row.{Row}
use Rattle.bl_value.specs.declared.row.Row.TheVariants.{Vertex, Edge, Bad}
use Rattle.bl_chain.specs.declared.batch_size.BatchSize.{BatchSize}

abbrev pub property_values : List Property → ℕ
property_values properties = sum_by (λ property. length property.values) properties

-- What a row counts: its labels and property values. An edge has one label, and a bad row counts nothing.
abbrev pub row_values : Row → ℕ
row_values (Vertex id labels properties) = length labels + property_values properties
row_values (Edge id label from to properties) = 1 + property_values properties
row_values (Bad code column) = 0

-- the bytes of a record's fields
abbrev pub field_bytes : List (List ℕ) → ℕ
field_bytes fields = sum_by length fields

abbrev pub no_rows : BatchSize
no_rows = record { rows = 0; values = 0; bytes = 0 }

-- one row more, whose fields have so many bytes
abbrev pub with_row : BatchSize → Row → ℕ → BatchSize
with_row size row bytes = record { rows = size.rows + 1; values = size.values + row_values row; bytes = size.bytes + bytes }

abbrev pub most_rows : ℕ
most_rows = 1000

abbrev pub most_values : ℕ
most_values = 16384

abbrev pub most_bytes : ℕ
most_bytes = 8388608

-- A batch ends with the row that reaches one of these.
abbrev pub is_full : BatchSize → Bool
is_full size = nat_le most_rows size.rows || (nat_le most_values size.values || nat_le most_bytes size.bytes)
