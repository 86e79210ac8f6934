-- The test of UTF-8 and what it tests.
use Rattle.std.proofs.Common.{◌≡◌, ℕ, List, Bool, true, false, refl, ap, if◌then◌else◌}
use Rattle.std.specs.Prelude.{Err}
use Rattle.std.specs.Str.{IsUtf8, is_utf8}
use Rattle.std.proofs.lemmas.Str.{IsUtf8-from_is_utf8}
use Rattle.std.proofs.lemmas.Str.{is_utf8-from_IsUtf8}
use Rattle.bl_value.specs.Cells.{cell, text_cell}
use Rattle.bl_value.specs.declared.cell.CellRefusal.TheVariants.{NotUtf8}
use Rattle.bl_value.specs.declared.value_type.ValueType.{ValueType}

by_test : (bytes : List ℕ) (test : Bool) → is_utf8 bytes ≡ test → (IsUtf8 bytes → ⊥) → test ≡ false
by_test bytes true is not_text = absurd (not_text (IsUtf8-from_is_utf8 bytes is))
by_test bytes false is not_text = refl

pub no_utf8 : (bytes : List ℕ) → (IsUtf8 bytes → ⊥) → is_utf8 bytes ≡ false
no_utf8 bytes not_text = by_test bytes (is_utf8 bytes) refl not_text

-- what a cell in UTF-8 means is what its text means
pub text_means : (kind : ValueType) (bytes : List ℕ) → IsUtf8 bytes → cell kind bytes ≡ text_cell kind bytes
text_means kind bytes text = ap (λ test. if test then text_cell kind bytes else Err NotUtf8) (is_utf8-from_IsUtf8 bytes text)
