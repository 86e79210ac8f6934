-- A name whose colons are escaped is read back.
use Rattle.std.proofs.Common.{◌≡◌, ◌∙◌, ◌==◌, ℕ, Bool, true, false, not, ◌&&◌, cond, if◌then◌else◌, List, [], ◌∷◌, drop, length, refl, ap, sym, None, Some, eqb-true}
use Rattle.std.proofs.Math.Seq.{drop-length}
use Rattle.bl_value.specs.declared.column.Side.{Side}
use Rattle.bl_header.specs.Fields.{NamesAreReadBack, before_colon, begins_with_colon, behind_first, escaped, is_system, name_of, name_part, plain_text, type_of, type_or_text, unescaped}

-- no colon divides it
undivided : (barred : Bool) (name : List ℕ) → before_colon barred (escaped name) ≡ escaped name
undivided barred [] = refl
undivided barred (byte ∷ rest) = by (byte == 58) refl (undivided false rest) (undivided (byte == 92) rest)
  where
    by : (test : Bool) → byte == 58 ≡ test → before_colon false (escaped rest) ≡ escaped rest → before_colon (byte == 92) (escaped rest) ≡ escaped rest
        → before_colon barred (cond test (92 ∷ (58 ∷ escaped rest)) (byte ∷ escaped rest)) ≡ cond test (92 ∷ (58 ∷ escaped rest)) (byte ∷ escaped rest)
    by true is colon other = ap (λ more. 92 ∷ (58 ∷ more)) colon
    by false is colon other = rw is (ap (λ more. byte ∷ more) other)

no_colon : (name : List ℕ) → begins_with_colon (escaped name) ≡ false
no_colon [] = refl
no_colon (byte ∷ rest) = by (byte == 58) refl
  where
    by : (test : Bool) → byte == 58 ≡ test → begins_with_colon (cond test (92 ∷ (58 ∷ escaped rest)) (byte ∷ escaped rest)) ≡ false
    by true is = refl
    by false is = is

never : (test other : Bool) (a b : List ℕ) → other ≡ false → cond (test && other) a b ≡ b
never true other a b is = rw is refl
never false other a b is = refl

-- without its backslashes it is the name
back : (name : List ℕ) → unescaped (escaped name) ≡ name
back [] = refl
back (byte ∷ rest) = by (byte == 58) refl (back rest)
  where
    by : (test : Bool) → byte == 58 ≡ test → unescaped (escaped rest) ≡ rest → unescaped (cond test (92 ∷ (58 ∷ escaped rest)) (byte ∷ escaped rest)) ≡ byte ∷ rest
    by true is more = (λ i. sym (eqb-true byte 58 is) i ∷ more i)
    by false is more = never (byte == 92) (begins_with_colon (escaped rest)) (unescaped (escaped rest)) (byte ∷ unescaped (escaped rest)) (no_colon rest) ∙ ap (λ all. byte ∷ all) more

no_system : (name : List ℕ) → is_system name ≡ false → is_system (escaped name) ≡ false
no_system [] is = refl
no_system (byte ∷ rest) is = by (byte == 58)
  where
    by : (test : Bool) → is_system (cond test (92 ∷ (58 ∷ escaped rest)) (byte ∷ escaped rest)) ≡ false
    by true = refl
    by false = is

no_type : (name : List ℕ) → type_of (escaped name) ≡ Some plain_text
no_type name =
    ap (λ front. type_or_text (behind_first (drop (length front) (escaped name)))) (undivided false name)
    ∙ ap (λ rest. type_or_text (behind_first rest)) (drop-length (escaped name))

pub names_are_read_back : NamesAreReadBack
names_are_read_back side name is own =
    let same : name_of (escaped name) ≡ name = ap unescaped (undivided false name) ∙ back name in
    rw (no_system name own, same, is, no_type name) refl
