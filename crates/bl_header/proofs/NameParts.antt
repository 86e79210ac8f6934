-- The name part stands in front of its field.
use Rattle.std.proofs.Common.{◌≡◌, ◌==◌, ℕ, Bool, true, false, not, ◌&&◌, if◌then◌else◌, List, [], ◌∷◌, length, take, refl, ap}
use Rattle.bl_header.specs.Fields.{before_colon}

step : (test : Bool) (byte : ℕ) (front rest : List ℕ) → take (length front) rest ≡ front → take (length (if test then [] else byte ∷ front)) (byte ∷ rest) ≡ (if test then [] else byte ∷ front)
step true byte front rest e = refl
step false byte front rest e = ap (λ xs. byte ∷ xs) e

pub take-before_colon : (barred : Bool) (field : List ℕ) → take (length (before_colon barred field)) field ≡ before_colon barred field
take-before_colon barred [] = refl
take-before_colon barred (byte ∷ rest) =
    step (byte == 58 && not barred) byte (before_colon (byte == 92) rest) rest (take-before_colon (byte == 92) rest)
