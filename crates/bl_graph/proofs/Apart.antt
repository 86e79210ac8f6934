-- Lists of things that differ, and sets that take or lose them.
use Rattle.std.specs.Prelude.{◌≡◌, Bool, true, false, not, ◌&&◌, ◌||◌, cond, T, List, [], ◌∷◌, filter, map as each, refl}
use Rattle.std.specs.declared.cmp.Ordering.{Ordering}
use Rattle.std.specs.declared.cmp.Ordering.TheVariants.{Less, Equal, Greater}
use Rattle.std.proofs.Common.{sym, ap, subst, ◌∙◌}
use Rattle.std.specs.List.{list_any, AllByRecursion, IsDistinct}
use Rattle.std.specs.Ordering.{eq_by_cmp, is_eq, is_lt}
use Rattle.std.specs.Cmp.{IsTotalOrder, eq_by_cmp_equiv}
use Rattle.std.proofs.lemmas.Map.Keys.{IsDistinct-head, IsDistinct-tail, IsDistinct-cons}
use Rattle.std.specs.FinMap as map
use Rattle.std.specs.FinMap.{entries, entries_sorted}
use Rattle.std.specs.FinMap.Entries.{is_sorted, below_all}
use Rattle.bl_outside.specs.OrderedSet as set
use Rattle.bl_outside.proofs.Finite.{contains-remove, contains-insert}
use Rattle.bl_graph.proofs.Maps.{itself}

module _ {X : Type 0} where
  pub all_two : {P Q S : X → Type 0} → ((x : X) → P x → Q x → S x) → (xs : List X) → AllByRecursion P xs → AllByRecursion Q xs → AllByRecursion S xs
  all_two f [] p q = tt
  all_two f (x ∷ xs) p q = (f x p.0 q.0, all_two f xs p.1 q.1)

  pub all_map : {P S : X → Type 0} → ((x : X) → P x → S x) → (xs : List X) → AllByRecursion P xs → AllByRecursion S xs
  all_map f [] p = tt
  all_map f (x ∷ xs) p = (f x p.0, all_map f xs p.1)

  kept_all : (P : X → Type 0) (b : Bool) (x : X) (xs ys : List X) → AllByRecursion P ys → P x → AllByRecursion P (cond b (x ∷ ys) ys)
  kept_all P true x xs ys p h = (h, p)
  kept_all P false x xs ys p h = p

  -- what holds of all holds of those that pass a test
  pub all_filter : (P : X → Type 0) (p : X → Bool) (xs : List X) → AllByRecursion P xs → AllByRecursion P (filter p xs)
  all_filter P p [] h = tt
  all_filter P p (x ∷ xs) h = kept_all P (p x) x xs (filter p xs) (all_filter P p xs h.1) h.0

  passes_all : (p : X → Bool) (b : Bool) (x : X) (ys : List X) → p x ≡ b → AllByRecursion (λ y. p y ≡ true) ys → AllByRecursion (λ y. p y ≡ true) (cond b (x ∷ ys) ys)
  passes_all p true x ys h all = (h, all)
  passes_all p false x ys h all = all

  -- those that pass a test pass it
  pub passing : (p : X → Bool) (xs : List X) → AllByRecursion (λ y. p y ≡ true) (filter p xs)
  passing p [] = tt
  passing p (x ∷ xs) = passes_all p (p x) x (filter p xs) refl (passing p xs)

  apart_kept : (e : X → X → Bool) (b : Bool) (x : X) (ys : List X) → AllByRecursion (λ y. e x y ≡ false) ys → IsDistinct e ys → IsDistinct e (cond b (x ∷ ys) ys)
  apart_kept e true x ys h d = IsDistinct-cons e x ys h d
  apart_kept e false x ys h d = d

  -- those that pass a test differ where all do
  pub apart_filter : (e : X → X → Bool) (p : X → Bool) (xs : List X) → IsDistinct e xs → IsDistinct e (filter p xs)
  apart_filter e p [] h = h
  apart_filter e p (x ∷ xs) h = apart_kept e (p x) x (filter p xs) (all_filter (λ y. e x y ≡ false) p xs (IsDistinct-head e x xs h)) (apart_filter e p xs (IsDistinct-tail e x xs h))

not_true_is : (b : Bool) → not b ≡ true → b ≡ false
not_true_is false h = refl
not_true_is true h = sym h

or_right : (a b : Bool) → b ≡ true → (a || b) ≡ true
or_right true b h = refl
or_right false b h = h

and_none : (a b : Bool) → b ≡ false → (a && b) ≡ false
and_none true b h = h
and_none false b h = refl

less_apart : (r : Ordering) → T (is_lt r) → is_eq r ≡ false
less_apart Less h = refl
less_apart Equal h = absurd h
less_apart Greater h = absurd h

first_true : (a b : Bool) → T (a && b) → T a
first_true true b h = tt
first_true false b h = absurd h

second_true : (a b : Bool) → T (a && b) → T b
second_true true b h = h
second_true false b h = absurd h

-- those that a test that is negated passes fail it
pub failing : {X : Type 0} (p : X → Bool) (xs : List X) → AllByRecursion (λ y. p y ≡ false) (filter (λ y. not (p y)) xs)
failing p xs = all_map (λ y. not_true_is (p y)) (filter (λ y. not (p y)) xs) (passing (λ y. not (p y)) xs)

module _ {K : Type 0} {R : K → K → Ordering} (o : IsTotalOrder R) where
  abbrev pub take_all : List K → set.OrderedSet R → set.OrderedSet R
  take_all [] s = s
  take_all (k ∷ ks) s = take_all ks (set.remove s k)

  -- two that differ, the other way round
  pub flipped : (x y : K) → eq_by_cmp R x y ≡ false → eq_by_cmp R y x ≡ false
  flipped x y h = (eq_by_cmp_equiv o).symm y x ∙ h

  -- one that isn't there isn't there after another came
  pub still_missing : (s : set.OrderedSet R) (k q : K) → eq_by_cmp R k q ≡ false → set.contains s q ≡ false → set.contains (set.insert s k) q ≡ false
  still_missing s k q apart h = contains-insert o s k q ∙ ap (λ b. b || set.contains s q) (flipped k q apart) ∙ h

  -- one that is there is there after another went
  pub still_there : (s : set.OrderedSet R) (k q : K) → eq_by_cmp R k q ≡ false → set.contains s q ≡ true → set.contains (set.remove s k) q ≡ true
  still_there s k q apart h = contains-remove o s k q ∙ ap (λ b. not b && set.contains s q) (flipped k q apart) ∙ h

  -- one that isn't there isn't there after some went
  pub gone : (ks : List K) (s : set.OrderedSet R) (q : K) → set.contains s q ≡ false → set.contains (take_all ks s) q ≡ false
  gone [] s q h = h
  gone (k ∷ ks) s q h = gone ks (set.remove s k) q (contains-remove o s k q ∙ and_none (not (eq_by_cmp R q k)) (set.contains s q) h)

  taken_by : (ks : List K) (s : set.OrderedSet R) (k q : K) (b : Bool) → eq_by_cmp R q k ≡ b → (b || list_any (eq_by_cmp R q) ks) ≡ true → ((s : set.OrderedSet R) → list_any (eq_by_cmp R q) ks ≡ true → set.contains (take_all ks s) q ≡ false) → set.contains (take_all ks (set.remove s k)) q ≡ false
  taken_by ks s k q true tie h later = gone ks (set.remove s k) q (contains-remove o s k q ∙ ap (λ b. not b && set.contains s q) tie)
  taken_by ks s k q false tie h later = later (set.remove s k) h

  -- one of those that went isn't there
  pub taken : (ks : List K) (q : K) (s : set.OrderedSet R) → list_any (eq_by_cmp R q) ks ≡ true → set.contains (take_all ks s) q ≡ false
  taken [] q s h = absurd (subst T (sym h) tt)
  taken (k ∷ ks) q s h = taken_by ks s k q (eq_by_cmp R q k) refl h (taken ks q)

  all_below : (k : K) (es : List (K × Unit {0})) → T (below_all R k es) → AllByRecursion (λ y. eq_by_cmp R k y ≡ false) (each (λ e. e.0) es)
  all_below k [] h = tt
  all_below k (e ∷ es) h = (less_apart (R k e.0) (first_true (is_lt (R k e.0)) (below_all R k es) h), all_below k es (second_true (is_lt (R k e.0)) (below_all R k es) h))

  sorted_apart : (es : List (K × Unit {0})) → T (is_sorted R es) → IsDistinct (eq_by_cmp R) (each (λ e. e.0) es)
  unfolding IsDistinct
  sorted_apart [] h = tt
  sorted_apart (e ∷ es) h = (all_below e.0 es (first_true (below_all R e.0 es) (is_sorted R es) h), sorted_apart es (second_true (below_all R e.0 es) (is_sorted R es) h))

  -- the items of a set differ
  pub items_apart : (s : set.OrderedSet R) → IsDistinct (eq_by_cmp R) (set.items s)
  items_apart s = sorted_apart (entries s) (entries_sorted s)

  all_among : (ks : List K) → AllByRecursion (λ k. list_any (eq_by_cmp R k) ks ≡ true) ks
  all_among [] = tt
  all_among (k ∷ ks) =
      (ap (λ b. b || list_any (eq_by_cmp R k) ks) (itself o k), all_map (λ x h. or_right (eq_by_cmp R x k) (list_any (eq_by_cmp R x) ks) h) ks (all_among ks))

  -- the items of a set are in it
  pub items_there : (s : set.OrderedSet R) → AllByRecursion (λ k. set.contains s k ≡ true) (set.items s)
  items_there s = all_map (λ k h. map.contains_key-keys s k ∙ h) (set.items s) (all_among (set.items s))
