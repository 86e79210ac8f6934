-- The parts of a text between its slashes, byte by byte.
use Rattle.std.specs.Prelude.{◌≡◌, ℕ, ◌+◌, ◌-◌, ◌<◌, ◌≤◌, suc, Bool, true, false, ◌&&◌, cond, List, [], ◌∷◌, ◌++◌, length, take, drop, refl}
use Rattle.std.proofs.Common.{sym, ap, ◌∙◌, arith, get_or, add-one, eq-eqb, eqb-true}
use Rattle.std.proofs.Math.Seq.{drop-cons}
use Rattle.std.proofs.lemmas.List.{take_more, get_or-drop, length-drop}
use Rattle.bl_files.specs.Sources.{is_part, is_slash, parts_from}
use Rattle.std.specs.List.{list_all}

-- a part of a text, one byte longer
pub part_grows : (start i : ℕ) (text : List ℕ) → start ≤ i → i < length text → take (i - start) (drop start text) ++ get_or text i 0 ∷ [] ≡ take (i + 1 - start) (drop start text)
part_grows start i text le lt =
    let same : start + (i - start) ≡ i = omega arith in
    let next : i - start + 1 ≡ i + 1 - start = omega arith in
    ap (λ k. take (i - start) (drop start text) ++ get_or text k 0 ∷ []) (sym same)
    ∙ ap (λ b. take (i - start) (drop start text) ++ b ∷ []) (sym (get_or-drop start text (i - start) 0))
    ∙ sym (take_more (drop start text) (i - start) 0 (omega (arith, length-drop start text)))
    ∙ ap (λ k. take k (drop start text)) next

-- one byte of a text that is divided at slashes
pub parts_step : (begun text : List ℕ) (i : ℕ) (test : Bool) → i < length text → is_slash (get_or text i 0) ≡ test →
    parts_from begun (drop i text) ≡ cond test (begun ∷ parts_from [] (drop (i + 1) text)) (parts_from (begun ++ get_or text i 0 ∷ []) (drop (i + 1) text))
parts_step begun text i test lt is =
    ap (parts_from begun) (drop-cons text i 0 lt)
    ∙ ap (λ b. cond b (begun ∷ parts_from [] (drop (suc i) text)) (parts_from (begun ++ get_or text i 0 ∷ []) (drop (suc i) text))) is
    ∙ ap (λ k. cond test (begun ∷ parts_from [] (drop k text)) (parts_from (begun ++ get_or text i 0 ∷ []) (drop k text))) (sym (add-one i))

-- the part from one place to another
abbrev pub between : List ℕ → ℕ → ℕ → List ℕ
between text start i = take (i - start) (drop start text)

-- a part that ends at a slash is looked at, and the next one begins
pub part_ends : (text : List ℕ) (start i : ℕ) (all : Bool) → i < length text → get_or text i 0 ≡ 47 → is_part (between text start i) ≡ true →
    list_all is_part (parts_from (between text start i) (drop i text)) ≡ all → list_all is_part (parts_from (between text (i + 1) (i + 1)) (drop (i + 1) text)) ≡ all
part_ends text start i all lt slash good before =
    let none : i + 1 - (i + 1) ≡ 0 = omega arith in
    ap (λ k. list_all is_part (parts_from (take k (drop (i + 1) text)) (drop (i + 1) text))) none
    ∙ sym (ap (λ b. b && list_all is_part (parts_from [] (drop (i + 1) text))) good)
    ∙ sym (ap (list_all is_part) (parts_step (between text start i) text i true lt (eq-eqb (get_or text i 0) 47 slash)))
    ∙ before

other_byte : (byte : ℕ) (test : Bool) → is_slash byte ≡ test → ¬ (byte ≡ 47) → is_slash byte ≡ false
other_byte byte true is other = absurd (other (eqb-true byte 47 is))
other_byte byte false is other = is

-- another byte makes the part longer
pub part_goes_on : (text : List ℕ) (start i : ℕ) (all : Bool) → start ≤ i → i < length text → ¬ (get_or text i 0 ≡ 47) →
    list_all is_part (parts_from (between text start i) (drop i text)) ≡ all → list_all is_part (parts_from (between text start (i + 1)) (drop (i + 1) text)) ≡ all
part_goes_on text start i all le lt other before =
    sym (ap (λ part. list_all is_part (parts_from part (drop (i + 1) text))) (part_grows start i text le lt))
    ∙ sym (ap (list_all is_part) (parts_step (between text start i) text i false lt (other_byte (get_or text i 0) _ refl other)))
    ∙ before
