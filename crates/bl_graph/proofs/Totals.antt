-- Sums over maps, and what stands in sets.
use Rattle.std.specs.Prelude.{◌≡◌, ℕ, ◌+◌, ◌==◌, Bool, true, false, not, ◌||◌, cond, List, [], ◌∷◌, length, filter, map as each, Some, None, is_some, refl}
use Rattle.std.specs.declared.option.Option.{Option}
use Rattle.std.specs.declared.cmp.Ordering.{Ordering}
use Rattle.std.specs.declared.cmp.Ordering.TheVariants.{Less, Equal, Greater}
use Rattle.std.specs.Option.{unwrap_or, option_map}
use Rattle.std.proofs.Common.{sym, ap, ◌∙◌, arith, zero-add}
use Rattle.std.proofs.lemmas.Bool.{false≢true, eqb-true}
use Rattle.std.specs.List.{list_any}
use Rattle.std.specs.Ordering.{eq_by_cmp, is_eq}
use Rattle.std.specs.Cmp.{IsTotalOrder, Equal-is}
use Rattle.std.specs.FinMap as map
use Rattle.std.specs.FinMap.{IsAntisymmetric, find, entries, entries-insert, get-entries}
use Rattle.std.specs.FinMap.Entries.{put, by_order}
use Rattle.bl_outside.specs.OrderedSet as set
use Rattle.bl_graph.specs.Sizes.{total}
use Rattle.bl_graph.proofs.Maps.{itself}

abbrev sum : {K X : Type 0} → (X → ℕ) → List (K × X) → ℕ
sum f es = total f (each (λ e. e.1) es)

module _ {K X : Type 0} (R : K → K → Ordering) (f : X → ℕ) where
  put_by : (k : K) (x : X) (e : K × X) (es : List (K × X)) (r : Ordering) → R k e.0 ≡ r → cond (is_eq r) (Some e.1) (find R k es) ≡ None → (find R k es ≡ None → sum f (put R k x es) ≡ f x + sum f es) → sum f (by_order r ((k, x) ∷ e ∷ es) ((e.0, x) ∷ es) (e ∷ put R k x es)) ≡ f x + sum f (e ∷ es)
  put_by k x e es Less is none later = refl
  put_by k x e es Equal is none later = absurd (false≢true (sym (ap is_some none)))
  put_by k x e es Greater is none later = ap (λ n. f e.1 + n) (later none) ∙ turn (f e.1) (f x) (sum f es)
    where
      turn : (a b c : ℕ) → a + (b + c) ≡ b + (a + c)
      turn a b c = omega arith

  total_put : (k : K) (x : X) (es : List (K × X)) → find R k es ≡ None → sum f (put R k x es) ≡ f x + sum f es
  total_put k x [] none = refl
  total_put k x (e ∷ es) none = put_by k x e es (R k e.0) refl none (total_put k x es)

  module _ (o : IsTotalOrder R) where
    -- an entry more
    pub total_new : (m : map.FinMap R X) (k : K) (x : X) → map.get m k ≡ None → total f (map.values (map.insert m k x)) ≡ f x + total f (map.values m)
    total_new m k x none = ap (sum f) (entries-insert o m k x) ∙ total_put k x (entries m) (sym (get-entries m k) ∙ none)

    module _ (same : IsAntisymmetric R) where
      removed_none : (m : map.FinMap R X) (k : K) → map.get (map.remove m k) k ≡ None
      removed_none m k = map.get-remove o m k k ∙ ap (λ b. cond b None (map.get m k)) (itself o k)

      twice : (b : Bool) (y z : Option X) → cond b y (cond b None z) ≡ cond b y z
      twice true y z = refl
      twice false y z = refl

      put_back : (m : map.FinMap R X) (k : K) (x : X) → map.insert (map.remove m k) k x ≡ map.insert m k x
      put_back m k x = map.same_map o same _ _ (λ q.
          map.get-insert o (map.remove m k) k x q ∙ ap (cond (eq_by_cmp R q k) (Some x)) (map.get-remove o m k q)
          ∙ twice (eq_by_cmp R q k) (Some x) (map.get m q) ∙ sym (map.get-insert o m k x q))

      -- an entry in the place of another
      pub total_put_at : (m : map.FinMap R X) (k : K) (x : X) → total f (map.values (map.insert m k x)) ≡ f x + total f (map.values (map.remove m k))
      total_put_at m k x = ap (λ n. total f (map.values n)) (sym (put_back m k x)) ∙ total_new (map.remove m k) k x (removed_none m k)

      stays_by : (m : map.FinMap R X) (k q : K) (b : Bool) → eq_by_cmp R q k ≡ b → map.get m k ≡ None → cond b None (map.get m q) ≡ map.get m q
      stays_by m k q true is none = sym (ap (map.get m) (same q k ((Equal-is (R q k)).0 is)) ∙ none)
      stays_by m k q false is none = refl

      total_by : (m : map.FinMap R X) (k : K) (r : Option X) → map.get m k ≡ r → total f (map.values m) ≡ unwrap_or (option_map f r) 0 + total f (map.values (map.remove m k))
      total_by m k None is = ap (λ n. total f (map.values n)) (sym (map.same_map o same _ _ (λ q. map.get-remove o m k q ∙ stays_by m k q (eq_by_cmp R q k) refl is))) ∙ sym (zero-add (total f (map.values (map.remove m k))))
      total_by m k (Some x) is = ap (λ n. total f (map.values n)) (sym (again (eq_by_cmp R))) ∙ total_put_at m k x
        where
          again_by : (q : K) (b : Bool) → eq_by_cmp R q k ≡ b → cond b (Some x) (map.get m q) ≡ map.get m q
          again_by q true tie = sym (ap (map.get m) (same q k ((Equal-is (R q k)).0 tie)) ∙ is)
          again_by q false tie = refl

          again : (K → K → Bool) → map.insert m k x ≡ m
          again _ = map.same_map o same _ _ (λ q. map.get-insert o m k x q ∙ again_by q (eq_by_cmp R q k) refl)

      -- what stands at a key, and the rest
      pub total_at : (m : map.FinMap R X) (k : K) → total f (map.values m) ≡ unwrap_or (option_map f (map.get m k)) 0 + total f (map.values (map.remove m k))
      total_at m k = total_by m k (map.get m k) refl

-- ---- tests over the items of a set

abbrev any_of : {K : Type 0} → (K → Bool) → List (K × Unit {0}) → Bool
any_of p es = list_any p (each (λ e. e.0) es)

or_again : (a b : Bool) → (a || b) ≡ (a || (a || b))
or_again true b = refl
or_again false b = refl

or_swap : (a b c : Bool) → (a || (b || c)) ≡ (b || (a || c))
or_swap true true c = refl
or_swap true false c = refl
or_swap false true c = refl
or_swap false false c = refl

module _ {K : Type 0} {R : K → K → Ordering} (p : K → Bool) where
  any_by : (same : IsAntisymmetric R) (k : K) (e : K × Unit {0}) (es : List (K × Unit {0})) (r : Ordering) → R k e.0 ≡ r → any_of p (put R k tt es) ≡ (p k || any_of p es) → any_of p (by_order r ((k, tt) ∷ e ∷ es) ((e.0, tt) ∷ es) (e ∷ put R k tt es)) ≡ (p k || any_of p (e ∷ es))
  any_by same k e es Less is later = refl
  any_by same k e es Equal is later = or_again (p e.0) (any_of p es) ∙ ap (λ x. p x || (p e.0 || any_of p es)) (sym (same k e.0 is))
  any_by same k e es Greater is later = ap (λ b. p e.0 || b) later ∙ or_swap (p e.0) (p k) (any_of p es)

  any_put : IsAntisymmetric R → (k : K) (es : List (K × Unit {0})) → any_of p (put R k tt es) ≡ (p k || any_of p es)
  any_put same k [] = refl
  any_put same k (e ∷ es) = any_by same k e es (R k e.0) refl (any_put same k es)

  pub any_insert : IsTotalOrder R → IsAntisymmetric R → (s : set.OrderedSet R) (k : K) → list_any p (set.items (set.insert s k)) ≡ (p k || list_any p (set.items s))
  any_insert o same s k = ap (any_of p) (entries-insert o s k tt) ∙ any_put same k (entries s)

any_left_by : {K : Type 0} (p : K → Bool) (x : K) (ys zs : List K) (b : Bool) → p x ≡ b → list_any p ys ≡ not (length zs == 0) → (b || list_any p ys) ≡ not (length (cond b (x ∷ zs) zs) == 0)
any_left_by p x ys zs true is later = sym (ap not (some_left (length (x ∷ zs)) (length (x ∷ zs) == 0) refl (λ e. omega (arith, e))))
  where
    some_left : (n : ℕ) (test : Bool) → (n == 0) ≡ test → (n ≡ 0 → ⊥) → test ≡ false
    some_left n true h none = absurd (none (eqb-true n 0 h))
    some_left n false h none = refl
any_left_by p x ys zs false is later = later

-- some pass where the filter leaves some
pub any_left : {K : Type 0} (p : K → Bool) (xs : List K) → list_any p xs ≡ not (length (filter p xs) == 0)
any_left p [] = refl
any_left p (x ∷ xs) = any_left_by p x xs (filter p xs) (p x) refl (any_left p xs)

pub none_counted : {K X : Type 0} (R : K → K → Ordering) (f : X → ℕ) → total f (map.values (map.empty {X = X} {R = R})) ≡ 0
none_counted {K} {X} R f = ap (λ es. total f (each (λ e. e.1) es)) (none_in (entries (map.empty {X = X} {R = R})) (sym (map.len-entries map.empty) ∙ map.len-empty R X))
  where
    none_in : (es : List (K × X)) → length es ≡ 0 → es ≡ []
    none_in [] h = refl
    none_in (e ∷ es) h = absurd (omega arith)
