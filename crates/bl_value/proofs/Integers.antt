-- Integers: what std's `parse` says, in the words of cells.
use Rattle.std.proofs.Common.{◌≡◌, ℕ, zero, suc, ◌<◌, ◌==◌, ◌&&◌, cond, Bool, true, false, not, List, [], ◌∷◌, length, drop, refl, arith, ℤ, pos, negsuc, Err}
use Rattle.std.specs.Prelude.{int_le, int_lt, IsAscii, IsUtf8}
use Rattle.std.specs.List.{list_all}
use Rattle.std.specs.Char.{is_ascii_digit}
use Rattle.std.specs.Str.Parse.{AllDigits, IsNumeral, signed_digits_value, without_leading_sign}
use Rattle.std.proofs.lemmas.Bool.{eqb-true}
use Rattle.std.proofs.lemmas.Str.{IsUtf8-from_ascii, IsUtf8-nil}
use lib.Signed.{mag}
use Rattle.bl_value.specs.Cells.{fits, integer, is_integer}
use Rattle.bl_value.specs.declared.value.Value.{Value}
use Rattle.bl_value.specs.declared.cell.CellRefusal.TheVariants.{OutOfRange}

-- what is true of both is true of each
pub both : (a b : Bool) → (a && b) ≡ true → (a ≡ true) × (b ≡ true)
both true true is = (refl, refl)
both true false is = (refl, is)
both false b is = (is, grind arith)

digits : (text : List ℕ) → list_all is_ascii_digit text ≡ true → AllDigits 10 text
digits [] all = tt
digits (byte ∷ text) all =
    let is = both (is_ascii_digit byte) (list_all is_ascii_digit text) all in
    (grind (arith, is.0), digits text is.1)

-- an integer has a numeral behind its sign
pub numeral : (text : List ℕ) → is_integer text ≡ true → IsNumeral 10 (without_leading_sign text)
numeral text is =
    let parts = both (not (length (without_leading_sign text) == 0)) (list_all is_ascii_digit (without_leading_sign text)) is in
    (grind (arith, parts.0), digits (without_leading_sign text) parts.1)

-- a number that doesn't fit by its size is out of the range
pub out_of_range : (limit : ℕ) (z : ℤ) → (mag z < suc limit → ⊥) → (int_le (negsuc limit) z && int_lt z (pos (suc limit))) ≡ false
out_of_range limit (pos n) large = grind (arith, large)
out_of_range limit (negsuc n) large = grind (arith, large)

-- an integer that doesn't fit is refused
pub refused : (bits : ℕ) (value : ℤ → Value) (text : List ℕ) → is_integer text ≡ true → fits bits (signed_digits_value 10 text) ≡ false →
    Err OutOfRange ≡ integer bits value text
refused bits value text is large = grind (arith, is, large)

in_front : (byte : ℕ) (text : List ℕ) → byte < 128 → IsAscii text → IsAscii (byte ∷ text)
in_front byte text small ascii zero = small
in_front byte text small ascii (suc i) = ascii i

ascii_digits : (text : List ℕ) → list_all is_ascii_digit text ≡ true → IsAscii text
ascii_digits [] all = λ i. omega arith
ascii_digits (byte ∷ text) all =
    let is = both (is_ascii_digit byte) (list_all is_ascii_digit text) all in
    in_front byte text (grind (arith, is.0)) (ascii_digits text is.1)

signed : (minus plus : Bool) (byte : ℕ) (text : List ℕ) → (byte == 45) ≡ minus → (byte == 43) ≡ plus →
    list_all is_ascii_digit (cond minus text (drop (cond plus 1 0) (byte ∷ text))) ≡ true → IsAscii (byte ∷ text)
signed true plus byte text minus _ all = in_front byte text (let e = eqb-true byte 45 minus in omega arith) (ascii_digits text all)
signed false true byte text _ plus all = in_front byte text (let e = eqb-true byte 43 plus in omega arith) (ascii_digits text all)
signed false false byte text _ _ all = ascii_digits (byte ∷ text) all

-- an integer's text is ASCII, so it is UTF-8
pub integer_utf8 : (text : List ℕ) → is_integer text ≡ true → IsUtf8 text
integer_utf8 [] is = IsUtf8-nil
integer_utf8 (byte ∷ text) is =
    let parts = both (not (length (without_leading_sign (byte ∷ text)) == 0)) (list_all is_ascii_digit (without_leading_sign (byte ∷ text))) is in
    IsUtf8-from_ascii (byte ∷ text) (signed (byte == 45) (byte == 43) byte text refl refl parts.1)
