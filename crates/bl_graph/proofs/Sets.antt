-- Sets that take or lose several items.
use Rattle.std.specs.Prelude.{◌≡◌, Bool, true, false, not, ◌&&◌, ◌||◌, cond, List, [], ◌∷◌, filter, refl}
use Rattle.std.specs.declared.cmp.Ordering.{Ordering}
use Rattle.std.proofs.Common.{sym, ap, ◌∙◌}
use Rattle.std.specs.List.{list_any}
use Rattle.std.specs.Ordering.{eq_by_cmp}
use Rattle.std.specs.Cmp.{IsTotalOrder, Equal-is}
use Rattle.std.specs.FinMap.{IsAntisymmetric}
use Rattle.bl_outside.specs.OrderedSet as set
use Rattle.bl_outside.proofs.Finite.{contains-remove, contains-insert}
use Rattle.bl_graph.proofs.Apart.{take_all}

or_none : (a : Bool) → a ≡ (a || false)
or_none true = refl
or_none false = refl

and_none : (a : Bool) → false ≡ (a && false)
and_none true = refl
and_none false = refl

or_turned : (a b c : Bool) → ((b || a) || c) ≡ (a || (b || c))
or_turned true true c = refl
or_turned true false c = refl
or_turned false true c = refl
or_turned false false c = refl

neither : (a b c : Bool) → (not b && (not a && c)) ≡ (not (a || b) && c)
neither true true c = refl
neither true false c = refl
neither false b c = refl

module _ {K : Type 0} {R : K → K → Ordering} (o : IsTotalOrder R) where
  abbrev pub put_all : List K → set.OrderedSet R → set.OrderedSet R
  put_all [] s = s
  put_all (k ∷ ks) s = put_all ks (set.insert s k)

  -- what is there after some came
  pub has_put : (ks : List K) (s : set.OrderedSet R) (q : K) → set.contains (put_all ks s) q ≡ (set.contains s q || list_any (eq_by_cmp R q) ks)
  has_put [] s q = or_none (set.contains s q)
  has_put (k ∷ ks) s q =
      has_put ks (set.insert s k) q ∙ ap (λ b. b || list_any (eq_by_cmp R q) ks) (contains-insert o s k q) ∙ or_turned (set.contains s q) (eq_by_cmp R q k) (list_any (eq_by_cmp R q) ks)

  -- what is there after some went
  pub has_left : (ks : List K) (s : set.OrderedSet R) (q : K) → set.contains (take_all o ks s) q ≡ (not (list_any (eq_by_cmp R q) ks) && set.contains s q)
  has_left [] s q = refl
  has_left (k ∷ ks) s q =
      has_left ks (set.remove s k) q ∙ ap (λ b. not (list_any (eq_by_cmp R q) ks) && b) (contains-remove o s k q) ∙ neither (eq_by_cmp R q k) (list_any (eq_by_cmp R q) ks) (set.contains s q)

  module _ (exact : IsAntisymmetric R) (p : K → Bool) (q : K) where
    same_test : (x : K) (kept : Bool) → eq_by_cmp R q x ≡ true → p x ≡ kept → p q ≡ kept
    same_test x kept tie is = ap p (exact q x ((Equal-is (R q x)).0 tie)) ∙ is

    among_at : (x : K) (tie kept : Bool) (xs ys : List K) → eq_by_cmp R q x ≡ tie → p x ≡ kept → list_any (eq_by_cmp R q) ys ≡ (p q && list_any (eq_by_cmp R q) xs) → list_any (eq_by_cmp R q) (cond kept (x ∷ ys) ys) ≡ (p q && (tie || list_any (eq_by_cmp R q) xs))
    among_at x true true xs ys ties is later = ap (λ b. b || list_any (eq_by_cmp R q) ys) ties ∙ sym (ap (λ b. b && true) (same_test x true ties is))
    among_at x true false xs ys ties is later = later ∙ ap (λ b. b && list_any (eq_by_cmp R q) xs) (same_test x false ties is) ∙ sym (ap (λ b. b && true) (same_test x false ties is))
    among_at x false true xs ys ties is later = ap (λ b. b || list_any (eq_by_cmp R q) ys) ties ∙ later
    among_at x false false xs ys ties is later = later

    -- one is among those that pass where it passes and is among all
    pub among_passing : (xs : List K) → list_any (eq_by_cmp R q) (filter p xs) ≡ (p q && list_any (eq_by_cmp R q) xs)
    among_passing [] = and_none (p q)
    among_passing (x ∷ xs) = among_at x (eq_by_cmp R q x) (p x) xs (filter p xs) refl refl (among_passing xs)
