-- Compact texts are read back: of single values, and of objects put together of them.
use Rattle.std.proofs.Common.{◌≡◌, ◌∙◌, ℕ, suc, ◌<◌, ◌≤◌, ◌^◌, ℤ, pos, negsuc, Bool, true, false, List, [], ◌∷◌, ◌++◌, Some, option_and_then, decimal, refl, sym, ap, arith, append-nil}
use Rattle.std.specs.Prelude.{option_map}
use Rattle.std.specs.Int.Signed.{mag}
use Rattle.std.specs.Fmt.{signed_decimal}
use Rattle.std.specs.Str.{IsUtf8}
use Rattle.std.proofs.lemmas.Fmt.{IsAscii-from_digits, IsAscii-signed, decimal_is_IsNumeral}
use Rattle.std.proofs.lemmas.Str.{IsUtf8-append, IsUtf8-from_ascii}
use Rattle.json.specs.Lex.{tokens}
use Rattle.json.specs.Print.{quoted}
use Rattle.json.specs.Json as json
use Rattle.json.specs.Tree.{HasNumbers, MembersHaveNumbers, depth, json_tokens, members_depth}
use Rattle.json.proofs.Printed.Decimals.{IsNumber-decimal, IsNumber-signed_decimal}
use Rattle.json.proofs.Printed.Tokens.{tokens-print}
use Rattle.json.proofs.Printed.Trees.{ArePrintable-json_tokens, value-json_tokens}
use Rattle.json.proofs.Printed.Utf8.{IsUtf8-are_ascii, IsUtf8-boolean, IsUtf8-quoted}
use Rattle.serde_json.specs.Data.{Data, boolean, number, unsigned, string, object, Members, no_members, member}
use Rattle.serde_json.specs.Find.{of_integer}
use Rattle.serde_json.specs.Read.{max_depth, of_json, of_members, read}
use Rattle.serde_json.specs.Written.{comma_if, compact_text, members_outline, members_text, outline}
use Rattle.serde_json.proofs.Numbers.{number_of-decimal, number_of-negative}
use Rattle.serde_json.proofs.Texts.{print-outline}

-- a value of at most so many levels that its text is read as
pub record IsPrinted (levels : ℕ) (value : Data) : Type 0 where
  pub same : of_json (outline value) ≡ Some value
  pub numbers : HasNumbers (outline value)
  pub shallow : depth (outline value) ≤ levels
  pub utf8 : IsUtf8 (compact_text value)

pub string_printed : (levels : ℕ) (text : List ℕ) → IsUtf8 text → IsPrinted levels (string text)
string_printed levels text utf8 = record { same = refl; numbers = tt; shallow = omega arith; utf8 = IsUtf8-quoted text utf8 }

pub boolean_printed : (levels : ℕ) (truth : Bool) → IsPrinted levels (boolean truth)
boolean_printed levels truth = record { same = refl; numbers = tt; shallow = omega arith; utf8 = IsUtf8-boolean truth }

pub unsigned_printed : (levels n : ℕ) → n < 2 ^ 64 → IsPrinted levels (number (unsigned n))
unsigned_printed levels n fits = record {
  same = ap (option_map number) (number_of-decimal n fits);
  numbers = IsNumber-decimal n fits;
  shallow = omega arith;
  utf8 = IsUtf8-from_ascii (decimal n) (IsAscii-from_digits (decimal n) (decimal_is_IsNumeral n fits).0.1);
}

pub integer_printed : (levels : ℕ) (z : ℤ) → mag z < 2 ^ 63 → IsPrinted levels (number (of_integer z))
integer_printed levels (pos n) fits = unsigned_printed levels n (omega arith)
integer_printed levels (negsuc n) fits = record {
  same = ap (option_map number) (number_of-negative n fits);
  numbers = IsNumber-signed_decimal (negsuc n) fits;
  shallow = omega arith;
  utf8 = IsUtf8-from_ascii (signed_decimal (negsuc n)) (IsAscii-signed (negsuc n) fits);
}

-- the same of an object's members, but for the order of their names
pub record ArePrinted (levels : ℕ) (members : Members) : Type 0 where
  pub numbers : MembersHaveNumbers (members_outline members)
  pub shallow : members_depth (members_outline members) ≤ levels
  pub utf8 : (later : Bool) → IsUtf8 (members_text later members)

pub no_more : (levels : ℕ) → ArePrinted levels no_members
no_more levels = record { numbers = tt; shallow = omega arith; utf8 = λ later. IsUtf8-are_ascii (125 ∷ []) refl }

comma_utf8 : (later : Bool) → IsUtf8 (comma_if later)
comma_utf8 true = IsUtf8-are_ascii (44 ∷ []) refl
comma_utf8 false = IsUtf8-are_ascii [] refl

pub one_more : (levels : ℕ) (name : List ℕ) (value : Data) (members : Members) → IsUtf8 name → IsPrinted levels value → ArePrinted levels members → ArePrinted levels (member name value members)
one_more levels name value rest utf8 is others = record {
  numbers = (is.numbers, others.numbers);
  shallow = let first = is.shallow in let below = others.shallow in omega arith;
  utf8 = λ later.
      IsUtf8-append (comma_if later) _ (comma_utf8 later)
      (IsUtf8-append (quoted name) _ (IsUtf8-quoted name utf8)
      (IsUtf8-append (58 ∷ []) _ (IsUtf8-are_ascii (58 ∷ []) refl) (IsUtf8-append (compact_text value) _ is.utf8 (others.utf8 true))));
}

pub object_printed : (levels : ℕ) (members : Members) → of_members (members_outline members) no_members ≡ Some members → ArePrinted levels members → IsPrinted (suc levels) (object members)
object_printed levels all same are = record {
  same = ap (option_map object) same;
  numbers = are.numbers;
  shallow = let below = are.shallow in omega arith;
  utf8 = IsUtf8-append (123 ∷ []) _ (IsUtf8-are_ascii (123 ∷ []) refl) (are.utf8 false);
}

-- what is printed is read back
pub read_printed : (levels : ℕ) (value : Data) → levels ≤ 127 → IsPrinted levels value → read (compact_text value) ≡ Some value
read_printed levels value few is =
    let all = json_tokens (outline value) in
    let back : tokens (compact_text value) ≡ all ++ [] =
    ap tokens (sym (print-outline value)) ∙ tokens-print all (ArePrintable-json_tokens (outline value) is.numbers) ∙ sym (append-nil all) in
    let shallow = is.shallow in
    ap (λ ts. option_and_then of_json (option_and_then (λ p. json.if_last p.0 p.1) (json.value max_depth ts))) back
    ∙ ap (λ found. option_and_then of_json (option_and_then (λ p. json.if_last p.0 p.1) found)) (value-json_tokens (outline value) max_depth [] (omega arith))
    ∙ is.same
