-- Numbers in digits, as std reads them, and texts that are no identifiers.
use Rattle.std.proofs.Common.{◌≡◌, ℕ, ◌&&◌, ◌+◌, cond, ◌==◌, Bool, true, false, List, [], ◌∷◌, Option, Some, None, drop, length, refl, arith}
use Rattle.std.specs.Prelude.{IsTrue, IsUtf8, nat_le, nat_lt, option_map}
use Rattle.std.specs.List.{list_all}
use Rattle.std.specs.Char.{is_ascii_digit}
use Rattle.std.specs.Int.{w128, from_be_bytes}
use Rattle.std.specs.Str.Parse.{AllDigits, IsNumeral, without_leading_plus}
use Rattle.std.proofs.lemmas.Fmt.{IsAscii-from_digits}
use Rattle.std.proofs.lemmas.Str.{IsUtf8-from_ascii}
use Rattle.bl_feed.specs.Parameters.{is_number}

-- what is true of both is true of each
both : (a b : Bool) → (a && b) ≡ true → (a ≡ true) × (b ≡ true)
both true true is = (refl, refl)
both true false is = (refl, is)
both false b is = (is, grind arith)

digits : (text : List ℕ) → list_all is_ascii_digit text ≡ true → AllDigits 10 text
digits [] all = tt
digits (byte ∷ text) all =
    let is = both (is_ascii_digit byte) (list_all is_ascii_digit text) all in
    (grind (arith, is.0), digits text is.1)

unsigned : (text : List ℕ) → list_all is_ascii_digit text ≡ true → without_leading_plus text ≡ text
unsigned [] all = refl
unsigned (byte ∷ text) all =
    let is = both (is_ascii_digit byte) (list_all is_ascii_digit text) all in
    let other : (byte == 43) ≡ false = grind (arith, is.0) in
    rw other refl

-- a number is what std reads
pub record IsPlain (text : List ℕ) : Type 0 where
  pub numeral : IsNumeral 10 (without_leading_plus text)
  pub same : without_leading_plus text ≡ text
  pub utf8 : IsUtf8 text

pub plain : (text : List ℕ) → is_number text ≡ true → IsPlain text
plain text is =
    let one = both (nat_lt 0 (length text)) (nat_le (length text) 20 && list_all is_ascii_digit text) is in
    let two = both (nat_le (length text) 20) (list_all is_ascii_digit text) one.1 in
    let same = unsigned text two.1 in
    record {
      numeral = rw same (grind (arith, one.0), digits text two.1);
      same = same;
      utf8 = IsUtf8-from_ascii text (IsAscii-from_digits text (digits text two.1));
    }

-- a text that is no identifier
pub no_id : (read : Option (List ℕ)) → ((bytes : List ℕ) → read ≡ Some bytes → ⊥) → None ≡ option_map (from_be_bytes w128) read
no_id None none = refl
no_id (Some bytes) none = absurd (none bytes refl)
