-- The test of UTF-8.
use Rattle.std.specs.Prelude.{◌≡◌, ℕ, Bool, true, false, List, refl}
use Rattle.std.proofs.lemmas.Str.{IsUtf8-from_is_utf8}
use Rattle.std.specs.Str.{IsUtf8, is_utf8}

not_utf8_by : (bytes : List ℕ) (test : Bool) → is_utf8 bytes ≡ test → ¬ (IsUtf8 bytes) → false ≡ test
not_utf8_by bytes true is bad = absurd (bad (IsUtf8-from_is_utf8 bytes is))
not_utf8_by bytes false is bad = refl

-- bytes that are no UTF-8 fail the test
pub not_utf8 : (bytes : List ℕ) → ¬ (IsUtf8 bytes) → false ≡ is_utf8 bytes
not_utf8 bytes bad = not_utf8_by bytes (is_utf8 bytes) refl bad
