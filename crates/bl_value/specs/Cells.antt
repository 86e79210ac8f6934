-- What a cell and an array cell mean (Neptune User Guide, "Gremlin load data format").
use Rattle.std.specs.Prelude.{◌==◌, ℕ, ◌+◌, ◌-◌, ◌*◌, ◌^◌, nat_le, nat_lt, Bool, true, false, not, ◌&&◌, ◌||◌, if◌then◌else◌, codes, ℤ, pos, neg_ℤ, ◌+ℤ◌, ◌*ℤ◌, int_le, int_lt, List, [], ◌∷◌, ◌++◌, drop, length, reverse, Ok, Err}
use Rattle.std.specs.declared.result.Result.{Result}
use Rattle.std.specs.Char.{is_ascii_digit}
use Rattle.std.specs.List.{list_all}
use Rattle.std.specs.Ordering.{eq_by_cmp}
use Rattle.std.specs.Str.{is_utf8, str_eq_ignore_ascii_case}
use Rattle.std.specs.Str.Parse.{signed_digits_value, without_leading_sign}
use Rattle.jiff_core.specs.Calendar.{days_from_civil, days_in_month}
use Rattle.bl_value.specs.Once.{once_behind}
use Rattle.bl_value.specs.Order.{value_cmp}
use Rattle.bl_value.specs.declared.value.Value.{Value}
use Rattle.bl_value.specs.declared.value.Value.TheVariants.{Bool as BoolValue, Byte, Short, Int, Long, Str, Date}
use Rattle.bl_value.specs.declared.value_type.ValueType.{ValueType}
use Rattle.bl_value.specs.declared.value_type.ValueType.TheVariants.{Bool as BoolType, Byte as ByteType, Short as ShortType, Int as IntType, Long as LongType, Str as StrType, Date as DateType}
use Rattle.bl_value.specs.declared.cell.CellRefusal.{CellRefusal}
use Rattle.bl_value.specs.declared.cell.CellRefusal.TheVariants.{NotUtf8, NotOfType, OutOfRange}

-- without the spaces in front
abbrev pub without_spaces_in_front : List ℕ → List ℕ
without_spaces_in_front [] = []
without_spaces_in_front (byte ∷ rest) =
    if byte == 32 then without_spaces_in_front rest else byte ∷ rest

-- without the ASCII spaces at both ends
abbrev pub without_spaces : List ℕ → List ℕ
without_spaces cell = reverse (without_spaces_in_front (reverse (without_spaces_in_front cell)))

-- an optional sign, then one digit or more
abbrev pub is_integer : List ℕ → Bool
is_integer text = not (length (without_leading_sign text) == 0) && list_all is_ascii_digit
    (without_leading_sign text)

-- a number of that many signed bits
abbrev pub fits : ℕ → ℤ → Bool
fits bits number = int_le (neg_ℤ (pos (2 ^ (bits - 1)))) number && int_lt number
    (pos (2 ^ (bits - 1)))

-- the integer of that many bits that a text writes
abbrev pub integer : ℕ → (ℤ → Value) → List ℕ → Result Value CellRefusal
integer bits value text =
    if not (is_integer text) then Err NotOfType
    else (if fits bits (signed_digits_value 10 text) then Ok (value (signed_digits_value 10 text))
    else Err OutOfRange)

-- `true` in any letter case
abbrev pub is_true : List ℕ → Bool
is_true text = str_eq_ignore_ascii_case text (codes "true")

-- a digit where a form has the digit 0, and else the form's byte
abbrev pub is_like : ℕ → ℕ → Bool
is_like mark byte = if mark == 48 then is_ascii_digit byte else byte == mark

-- a text has a form
abbrev pub has_form : List ℕ → List ℕ → Bool
has_form [] [] = true
has_form [] (byte ∷ text) = false
has_form (mark ∷ form) [] = false
has_form (mark ∷ form) (byte ∷ text) = is_like mark byte && has_form form text

-- a date's text, of a day alone, to the minute or to the second
abbrev pub has_date_form : List ℕ → Bool
has_date_form text =
    has_form (codes "0000-00-00") text || has_form (codes "0000-00-00T00:00") text
    || has_form (codes "0000-00-00T00:00:00") text || has_form (codes "0000-00-00T00:00:00Z") text

-- the number that two digits in front write, and 0 where none stand there
abbrev pub two_digits : List ℕ → ℕ
two_digits (tens ∷ ones ∷ rest) =
    if is_ascii_digit tens && is_ascii_digit ones then (tens - 48) * 10 + (ones - 48) else 0
two_digits _ = 0

-- The parts of a date's text. A clock that it doesn't have stands at midnight.
abbrev pub year_of : List ℕ → ℕ
year_of text = two_digits text * 100 + two_digits (drop 2 text)

abbrev pub month_of : List ℕ → ℕ
month_of text = two_digits (drop 5 text)

abbrev pub day_of : List ℕ → ℕ
day_of text = two_digits (drop 8 text)

abbrev pub hour_of : List ℕ → ℕ
hour_of text = two_digits (drop 11 text)

abbrev pub minute_of : List ℕ → ℕ
minute_of text = two_digits (drop 14 text)

abbrev pub second_of : List ℕ → ℕ
second_of text = two_digits (drop 17 text)

-- the calendar has this day
abbrev pub is_day : ℕ → ℕ → ℕ → Bool
is_day year month day = nat_le 1 month && nat_le month 12 && nat_le 1 day && nat_le day
    (days_in_month (pos year) month)

-- a clock shows this time
abbrev pub is_time : ℕ → ℕ → ℕ → Bool
is_time hour minute second = nat_lt hour 24 && nat_lt minute 60 && nat_lt second 60

-- the seconds from 1970 UTC: 86,400 for each day, and those of the day
abbrev pub moment_of : List ℕ → ℤ
moment_of text =
    pos 86400 *ℤ days_from_civil (pos (year_of text)) (month_of text) (day_of text)
    +ℤ pos (hour_of text * 3600 + minute_of text * 60 + second_of text)

abbrev pub is_date : List ℕ → Bool
is_date text =
    has_date_form text && is_day (year_of text) (month_of text) (day_of text)
    && is_time (hour_of text) (minute_of text) (second_of text)

abbrev pub date : List ℕ → Result Value CellRefusal
date text = if is_date text then Ok (Date (moment_of text)) else Err NotOfType

-- the value of a text in UTF-8
abbrev pub text_cell : ValueType → List ℕ → Result Value CellRefusal
text_cell BoolType text = Ok (BoolValue (is_true (without_spaces text)))
text_cell ByteType text = integer 8 Byte (without_spaces text)
text_cell ShortType text = integer 16 Short (without_spaces text)
text_cell IntType text = integer 32 Int (without_spaces text)
text_cell LongType text = integer 64 Long (without_spaces text)
text_cell StrType text = Ok (Str text)
text_cell DateType text = date (without_spaces text)

-- the value of a cell, or the first refusal
abbrev pub cell : ValueType → List ℕ → Result Value CellRefusal
cell kind bytes = if is_utf8 bytes then text_cell kind bytes else Err NotUtf8

-- An empty cell has no value. Of another type than text, neither has one of spaces alone.
abbrev pub is_empty_cell : ValueType → List ℕ → Bool
is_empty_cell StrType bytes = length bytes == 0
is_empty_cell _ bytes = length (without_spaces bytes) == 0

-- A cell is a sequence of pieces: a backslash with a semicolon, wherever they can be read from the
-- left, or one byte.
pub data Piece : Type 0 where
  escaped : Piece
  plain : ℕ → Piece

-- the pieces of a cell, where a backslash may be held that was read just before
abbrev pub pieces_from : Bool → List ℕ → List Piece
pieces_from false [] = []
pieces_from true [] = plain 92 ∷ []
pieces_from true (byte ∷ rest) =
    if byte == 59 then escaped ∷ pieces_from false rest
    else (if byte == 92 then plain 92 ∷ pieces_from true rest else plain 92
    ∷ (plain byte ∷ pieces_from false rest))
pieces_from false (byte ∷ rest) =
    if byte == 92 then pieces_from true rest else plain byte ∷ pieces_from false rest

abbrev pub pieces : List ℕ → List Piece
pieces cell = pieces_from false cell

-- a plain semicolon divides items
abbrev pub is_divider : Piece → Bool
is_divider escaped = false
is_divider (plain byte) = byte == 59

abbrev pub byte_of : Piece → ℕ
byte_of escaped = 59
byte_of (plain byte) = byte

-- the items of a list of pieces, the bytes of the first of which may have begun
abbrev pub items_from : List ℕ → List Piece → List (List ℕ)
items_from begun [] = begun ∷ []
items_from begun (piece ∷ rest) =
    if is_divider piece then begun ∷ items_from [] rest
    else items_from (begun ++ byte_of piece ∷ []) rest

-- the items of an array cell, empty and repeated ones among them
abbrev pub items : List ℕ → List (List ℕ)
items cell = items_from [] (pieces cell)

-- values in front of others, where no refusal stands in the way
abbrev pub in_front : Result (List Value) CellRefusal → Result (List Value) CellRefusal →
    Result (List Value) CellRefusal
in_front (Err refusal) others = Err refusal
in_front (Ok values) (Err refusal) = Err refusal
in_front (Ok values) (Ok others) = Ok (values ++ others)

-- the value of a cell or an item as a list
abbrev pub one_value : Result Value CellRefusal → Result (List Value) CellRefusal
one_value (Err refusal) = Err refusal
one_value (Ok value) = Ok (value ∷ [])

-- the value of an item, and none where it is empty
abbrev pub values_in : ValueType → List ℕ → Result (List Value) CellRefusal
values_in kind item = if is_empty_cell kind item then Ok [] else one_value (cell kind item)

-- the values of items, or the first refusal
abbrev pub item_values : ValueType → List (List ℕ) → Result (List Value) CellRefusal
item_values kind [] = Ok []
item_values kind (item ∷ others) = in_front (values_in kind item) (item_values kind others)

-- values, each once
abbrev pub each_once : Result (List Value) CellRefusal → Result (List Value) CellRefusal
each_once (Err refusal) = Err refusal
each_once (Ok values) = Ok (once_behind (eq_by_cmp value_cmp) [] values)

-- The values of a property cell, each once: those of its items where it may have many, and else
-- that of the whole cell.
abbrev pub values_of : ValueType → Bool → List ℕ → Result (List Value) CellRefusal
values_of kind many bytes = each_once
    (if many then item_values kind (items bytes) else values_in kind bytes)
