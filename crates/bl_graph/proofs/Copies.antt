-- Copies of texts and of owners, one after the other.
use Rattle.std.specs.Prelude.{◌≡◌, ℕ, nat_eq, false, ◌||◌, if◌then◌else◌, List, [], ◌∷◌, ◌++◌, refl}
use Rattle.std.proofs.Common.{sym, ap, subst, ◌∙◌, append_assoc}
use Rattle.std.specs.List.{list_any, AllByRecursion, IsDistinct}
use Rattle.std.specs.Map.{keys_of}
use Rattle.std.specs.Cmp.Lexicographic.{pointwise, nat_list_eq_equiv}
use Rattle.std.proofs.lemmas.Map.Keys.{IsDistinct-head, IsDistinct-tail}
use Rattle.indexmap.specs.IndexMap.{IndexMap, insert_entry}
use Rattle.indexmap.specs.IndexSet.{insert_key}
use Rattle.indexmap.proofs.CallerLemmas.{insert_entry-new}
use Rattle.indexmap.proofs.MapLemmas.{absent_before}

all_at : {X : Type 0} (P : X → Type 0) (xs : List X) (y : X) (ys : List X) → AllByRecursion P (xs ++ y ∷ ys) → P y
all_at P [] y ys h = h.0
all_at P (x ∷ xs) y ys h = all_at P xs y ys h.1

none_before : (xs : List (List ℕ)) (y : List ℕ) (ys : List (List ℕ)) → IsDistinct (pointwise nat_eq) (xs ++ y ∷ ys) → list_any (pointwise nat_eq y) xs ≡ false
none_before [] y ys h = refl
none_before (x ∷ xs) y ys h =
    let head = nat_list_eq_equiv.symm y x ∙ all_at (λ z. pointwise nat_eq x z ≡ false) xs y ys (IsDistinct-head (pointwise nat_eq) x (xs ++ y ∷ ys) h) in
    λ i. head i || none_before xs y ys (IsDistinct-tail (pointwise nat_eq) x (xs ++ y ∷ ys) h) i

-- one text more
pub text_copied : (xs new left rest all : List (List ℕ)) (text copy : List ℕ) → left ≡ text ∷ rest → copy ≡ text → new ≡ insert_key (pointwise nat_eq) xs copy → IsDistinct (pointwise nat_eq) all → xs ++ left ≡ all → new ++ rest ≡ all
text_copied xs new left rest all text copy next same put apart so_far =
    let whole : xs ++ text ∷ rest ≡ all = ap (λ l. xs ++ l) (sym next) ∙ so_far in
    let out = none_before xs text rest (subst (IsDistinct (pointwise nat_eq)) (sym whole) apart) in
    ap (λ l. l ++ rest) (put ∙ ap (insert_key (pointwise nat_eq) xs) same ∙ ap (λ b. if b then xs else xs ++ text ∷ []) out) ∙ append_assoc xs (text ∷ []) rest ∙ whole

-- one owner more
pub owner_copied : {X S : Type 0} (m : IndexMap (List ℕ) X S) (new left rest all : List (List ℕ × X)) (id copy : List ℕ) (owner owner2 : X) → left ≡ (id, owner) ∷ rest → copy ≡ id → owner2 ≡ owner → new ≡ insert_entry (pointwise nat_eq) m.entries copy owner2 → IsDistinct (pointwise nat_eq) (keys_of all) → m.entries ++ left ≡ all → new ++ rest ≡ all
owner_copied m new left rest all id copy owner owner2 next same same2 put apart so_far =
    let whole : m.entries ++ (id, owner) ∷ rest ≡ all = ap (λ l. m.entries ++ l) (sym next) ∙ so_far in
    let out = absent_before nat_list_eq_equiv m.entries rest (id, owner) (subst (λ l. IsDistinct (pointwise nat_eq) (keys_of l)) (sym whole) apart) in
    ap (λ l. l ++ rest) (put ∙ (λ i. insert_entry (pointwise nat_eq) m.entries (same i) (same2 i)) ∙ insert_entry-new (pointwise nat_eq) m id owner out) ∙ append_assoc m.entries ((id, owner) ∷ []) rest ∙ whole
