-- A date is found in its text.
use Rattle.std.proofs.Common.{◌≡◌, ◌∙◌, ℕ, List, ap}
use Rattle.std.specs.Prelude.{Ok}
use Rattle.serde_json.specs.Data.{string}
use Rattle.bl_value.specs.Cells.{cell}
use Rattle.bl_value.specs.Dates.{date_text}
use Rattle.bl_value.specs.Json.{value_data}
use Rattle.bl_value.specs.Valid.{IsValue}
use Rattle.bl_value.specs.declared.value.Value.{Value}
use Rattle.bl_value.specs.declared.value.Value.TheVariants.{Bool, Byte, Short, Int, Long, Str, Date}
use Rattle.bl_value.specs.declared.value_type.ValueType.TheVariants as type
use Rattle.bl_value.proofs.DateTexts.{read_back}
use Rattle.bl_change.specs.Found.{type_of}

pub date_cell : (text : List ℕ) (value : Value) → (type.Date ≡ type_of value) × IsValue value × (string text ≡ value_data value) → cell type.Date text ≡ Ok value
date_cell text (Bool b) is = absurd (let no = is.0 in cc)
date_cell text (Byte n) is = absurd (let no = is.0 in cc)
date_cell text (Short n) is = absurd (let no = is.0 in cc)
date_cell text (Int n) is = absurd (let no = is.0 in cc)
date_cell text (Long n) is = absurd (let no = is.0 in cc)
date_cell text (Str other) is = absurd (let no = is.0 in cc)
date_cell text (Date seconds) is =
    let same : text ≡ date_text seconds = cc (is.2) in
    ap (cell type.Date) same ∙ read_back seconds is.1
