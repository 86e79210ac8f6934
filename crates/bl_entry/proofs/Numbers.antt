-- Numbers of each width.
use Rattle.std.proofs.Common.{◌≡◌, ℕ, ◌+◌, ◌*◌, ◌/◌, ◌%◌, ◌^◌, ◌<◌, List, [], ◌∷◌, length, FitsSigned, refl, ap, arith}
use Rattle.std.specs.Int.{Width, w8, w16, w32, w64, from_be_bytes, to_be_bytes, cast_signed, cast_unsigned}
use Rattle.std.proofs.lemmas.Nat.{be_bytes_2, be_bytes_4, be_bytes_8, from_be_bytes-to_be_bytes_2, from_be_bytes-to_be_bytes_4, from_be_bytes-to_be_bytes_8}
use Rattle.std.proofs.lemmas.Int.{of_z-to_z, to_z-of_z}
use Rattle.std.proofs.Math.Facts.{sfits_to_z, Fits-of_z}
use Rattle.bl_entry.specs.Encoding.{u128_bytes}
use Rattle.bl_entry.specs.Reading.{signed_at, long_at}
use Rattle.bl_entry.proofs.Parses.{IsBytes, IsWide, Parses, made_parses, both_parses, number_parses}

byte_back : (bytes : List ℕ) → length bytes ≡ 1 → IsBytes bytes → to_be_bytes w8 (from_be_bytes w8 bytes) ≡ bytes
byte_back [] len fits = absurd (omega arith)
byte_back (b ∷ []) len fits = ap (λ (n : ℕ). n ∷ []) (let e : from_be_bytes w8 (b ∷ []) % 256 ≡ b = omega (arith, fits 0) in e)
byte_back (b ∷ c ∷ bytes) len fits = absurd (omega arith)

pub wide8 : IsWide w8
wide8 = record {
  len = λ n. refl;
  back = byte_back;
  again = λ n lt. omega arith;
  below = λ bytes fits. omega (arith, fits 0);
}

pub wide16 : IsWide w16
wide16 = record {
  len = λ n. refl;
  back = λ bytes len fits. be_bytes_2 bytes _ len fits refl;
  again = λ n lt. from_be_bytes-to_be_bytes_2 n lt;
  below = λ bytes fits. omega (arith, fits 0, fits 1);
}

pub wide32 : IsWide w32
wide32 = record {
  len = λ n. refl;
  back = λ bytes len fits. be_bytes_4 bytes _ len fits refl;
  again = λ n lt. from_be_bytes-to_be_bytes_4 n lt;
  below = λ bytes fits. omega (arith, fits 0, fits 1, fits 2, fits 3);
}

pub wide64 : IsWide w64
wide64 = record {
  len = λ n. refl;
  back = λ bytes len fits. be_bytes_8 bytes _ len fits refl;
  again = λ n lt. from_be_bytes-to_be_bytes_8 n lt;
  below = λ bytes fits. omega (arith, fits 0, fits 1, fits 2, fits 3, fits 4, fits 5, fits 6, fits 7);
}

pub signed_parses : (w : Width) → IsWide w → Parses (λ z. to_be_bytes w (cast_unsigned w z)) (FitsSigned w) (signed_at w)
signed_parses w wide =
    made_parses (cast_signed w) (cast_unsigned w) (FitsSigned w) (λ z fits. ((Fits-of_z fits).fits, to_z-of_z w z fits)) (λ n lt. (sfits_to_z (record { fits = lt }), of_z-to_z w n lt)) (number_parses w wide)

halves : (n : ℕ) → n < 2 ^ 128 → ((n / 2 ^ 64 < 2 ^ 64) × (n % 2 ^ 64 < 2 ^ 64)) × (n / 2 ^ 64 * 2 ^ 64 + n % 2 ^ 64 ≡ n)
halves n lt = ((omega arith, omega arith), omega arith)

high_again : (h l : ℕ) → l < 2 ^ 64 → (h * 2 ^ 64 + l) / 2 ^ 64 ≡ h
high_again h l lt = omega arith

low_again : (h l : ℕ) → l < 2 ^ 64 → (h * 2 ^ 64 + l) % 2 ^ 64 ≡ l
low_again h l lt = omega arith

below_again : (h l : ℕ) → h < 2 ^ 64 → l < 2 ^ 64 → h * 2 ^ 64 + l < 2 ^ 128
below_again h l one two = omega arith

pub long_parses : Parses u128_bytes (λ n. n < 2 ^ 128) long_at
unfolding long_at
long_parses =
    made_parses (λ (x : ℕ × ℕ). x.0 * 2 ^ 64 + x.1) (λ n. (n / 2 ^ 64, n % 2 ^ 64)) (λ n. n < 2 ^ 128) halves
    (λ x fits. (below_again x.0 x.1 fits.0 fits.1, λ i. (high_again x.0 x.1 fits.1 i, low_again x.0 x.1 fits.1 i)))
    (both_parses (number_parses w64 wide64) (number_parses w64 wide64))
