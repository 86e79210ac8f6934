-- Events one after another.
use Rattle.std.specs.Prelude.{◌≡◌, ℕ, ◌+◌, nat_eq, Bool, true, false, List, [], ◌∷◌, length, refl}
use Rattle.std.proofs.Common.{arith, eq-eqb, eqb-true}
use Rattle.bl_value.specs.declared.change.Change.{Change}
use Rattle.bl_cli.specs.Outputs.{is_end}

unequal_by : (a b : ℕ) (test : Bool) → nat_eq a b ≡ test → ¬ (a ≡ b) → test ≡ false
unequal_by a b true is apart = absurd (apart (eqb-true a b is))
unequal_by a b false is apart = refl

-- the last change is the one whose number is the count
pub last_is : (op count : ℕ) (rest : List Change) → count ≡ op + length rest → nat_eq op count ≡ is_end rest
last_is op count [] h = eq-eqb op count (omega (arith, h))
last_is op count (change ∷ rest) h = unequal_by op count _ refl (λ e. omega (arith, h, e))
