-- What a valid thing is: the ranges of its parts.
use Rattle.std.specs.Prelude.{ℕ, ◌≤◌, ◌<◌, ◌^◌, ℤ, pos, ◌≤ℤ◌, negsuc, List, length, FitsSigned}
use Rattle.std.specs.Int.{w8, w16, w32, w64}
use Rattle.std.specs.Str.{IsUtf8}
use Rattle.bl_outside.specs.Texts.{IsShortText}
use Rattle.bl_value.specs.declared.value.Value.{Value}
use Rattle.bl_value.specs.declared.value.Value.TheVariants.{Bool, Byte, Short, Int, Long, Str, Date}
use Rattle.bl_value.specs.declared.change.Change.{Change}
use Rattle.bl_value.specs.declared.change.Change.TheVariants.{AddLabel, AddEdge, AddValue, RemoveValue}

-- the most bytes of an id or a label, and of a property's key
abbrev pub id_limit : ℕ
id_limit = 1024

abbrev pub key_limit : ℕ
key_limit = 256

-- the first second of the year 0000, and the last of the year 9999, in seconds from 1970 UTC
abbrev pub first_date : ℤ
first_date = negsuc 62167219199

abbrev pub last_date : ℤ
last_date = pos 253402300799

-- an id or a label
pub record IsId (text : List ℕ) : Type 0 where
  pub utf8 : IsUtf8 text
  pub some : 1 ≤ length text
  pub short : length text ≤ id_limit

-- a property's key, and a column's name
pub record IsKey (text : List ℕ) : Type 0 where
  pub utf8 : IsUtf8 text
  pub some : 1 ≤ length text
  pub short : length text ≤ key_limit

-- a date lies in the years 0000 to 9999
abbrev pub IsDate : ℤ → Type 0
IsDate seconds = (first_date ≤ℤ seconds) × (seconds ≤ℤ last_date)

-- a value in the range of its type
abbrev pub IsValue : Value → Type 0
IsValue (Bool b) = Unit {0}
IsValue (Byte n) = FitsSigned w8 n
IsValue (Short n) = FitsSigned w16 n
IsValue (Int n) = FitsSigned w32 n
IsValue (Long n) = FitsSigned w64 n
IsValue (Str text) = IsShortText text
IsValue (Date seconds) = IsDate seconds

abbrev pub IsChange : Change → Type 0
IsChange (AddLabel id label) = IsId id × IsId label
IsChange (AddEdge id label from to) = IsId id × (IsId label × (IsId from × IsId to))
IsChange (AddValue side id key value) = IsId id × (IsKey key × IsValue value)
IsChange (RemoveValue side id key value) = IsId id × (IsKey key × IsValue value)

-- What can be printed: texts in UTF-8 and dates in their range, of whatever length. All that is
-- valid can.
abbrev pub IsPrintableValue : Value → Type 0
IsPrintableValue (Str text) = IsUtf8 text
IsPrintableValue (Date seconds) = IsDate seconds
IsPrintableValue (Bool b) = Unit {0}
IsPrintableValue (Byte n) = Unit {0}
IsPrintableValue (Short n) = Unit {0}
IsPrintableValue (Int n) = Unit {0}
IsPrintableValue (Long n) = Unit {0}

abbrev pub IsPrintable : Change → Type 0
IsPrintable (AddLabel id label) = IsUtf8 id × IsUtf8 label
IsPrintable (AddEdge id label from to) = IsUtf8 id × IsUtf8 label × IsUtf8 from × IsUtf8 to
IsPrintable (AddValue side id key value) = IsUtf8 id × IsUtf8 key × IsPrintableValue value
IsPrintable (RemoveValue side id key value) = IsUtf8 id × IsUtf8 key × IsPrintableValue value
