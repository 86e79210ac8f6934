-- The JSON of a value in a change record (Neptune User Guide, "Property graph change records").
use Rattle.std.specs.Prelude.{ℕ, List}
use Rattle.serde_json.specs.Data.{Data, boolean, number, string}
use Rattle.serde_json.specs.Find.{of_integer}
use Rattle.serde_json.specs.Written.{compact_text}
use Rattle.bl_value.specs.Dates.{date_text}
use Rattle.bl_value.specs.declared.value.Value.{Value}
use Rattle.bl_value.specs.declared.value.Value.TheVariants.{Bool, Byte, Short, Int, Long, Str, Date}

-- the value as JSON
abbrev pub value_data : Value → Data
value_data (Bool b) = boolean b
value_data (Byte n) = number (of_integer n)
value_data (Short n) = number (of_integer n)
value_data (Int n) = number (of_integer n)
value_data (Long n) = number (of_integer n)
value_data (Str text) = string text
value_data (Date seconds) = string (date_text seconds)

abbrev pub value_text : Value → List ℕ
value_text value = compact_text (value_data value)
