-- What stands at names, where it is held by their numbers.
use Rattle.std.specs.Prelude.{◌≡◌, ℕ, ◌+◌, ◌<◌, ◌≤◌, ◌==◌, nat_eq, nat_lt, Bool, true, false, cond, List, [], ◌∷◌, ◌++◌, length, position, Some, None, refl}
use Rattle.std.specs.declared.option.Option.{Option}
use Rattle.std.specs.declared.cmp.Ordering.{Ordering}
use Rattle.std.proofs.Common.{sym, ap, ◌∙◌, get_or, arith, zero, suc}
use Rattle.std.proofs.lemmas.Bool.{false≢true, eqb-true, ltb-true, ltb-false}
use Rattle.std.proofs.lemmas.List.Quantifiers.{position-Some}
use Rattle.std.proofs.lemmas.Iterator.Adapters.{position_from-zero}
use Rattle.std.proofs.lemmas.Map.Keys.{IsDistinct-head, IsDistinct-tail}
use Rattle.std.specs.List.{position_from, AllByRecursion, IsDistinct}
use Rattle.std.specs.Ordering.{nat_cmp, eq_by_cmp}
use Rattle.std.specs.Cmp.{IsTotalOrder, nat_cmp_total, Equal-is}
use Rattle.std.specs.Cmp.Lexicographic.{pointwise, slice_cmp, nat_list_cmp_total, texts_ties, nat_list_eq_equiv, bytes_decides}
use Rattle.std.specs.FinMap as map
use Rattle.std.specs.FinMap.{nat_cmp-IsAntisymmetric}
use Rattle.std.proofs.lemmas.Map.Lookups.{exact_bytes}
use Rattle.bl_graph.specs.Numbered.{ByNumber, written, named, named_from, IsFront, IsBelow}
use Rattle.bl_graph.proofs.Maps.{itself}

-- what a written map has
pub get_written : {K X : Type 0} {R : K → K → Ordering} → IsTotalOrder R → (m : map.FinMap R X) (k : K) (o : Option X) (q : K) → map.get (written m k o) q ≡ cond (eq_by_cmp R q k) o (map.get m q)
get_written t m k (Some x) q = map.get-insert t m k x q
get_written t m k None q = map.get-remove t m k q

-- what stands at a number, if it is one
abbrev pub reached : {X : Type 0} → ByNumber X → Option ℕ → Option X
reached m (Some n) = map.get m n
reached m None = None

reached_by : {X : Type 0} (m : ByNumber X) (b : Bool) (n : ℕ) (r : Option ℕ) → cond b (map.get m n) (reached m r) ≡ reached m (cond b (Some n) r)
reached_by m true n r = refl
reached_by m false n r = refl

abbrev pub number_from : ℕ → List (List ℕ) → List ℕ → Option ℕ
number_from n names q = position_from (pointwise nat_eq q) n names

pub get_from : {X : Type 0} (n : ℕ) (names : List (List ℕ)) (m : ByNumber X) (q : List ℕ) → map.get (named_from n names m) q ≡ reached m (number_from n names q)
get_from n [] m q = map.get-empty (slice_cmp nat_cmp) q
get_from n (t ∷ ts) m q =
    get_written nat_list_cmp_total (named_from (n + 1) ts m) t (map.get m n) q
    ∙ ap (λ b. cond b (map.get m n) (map.get (named_from (n + 1) ts m) q)) (sym (texts_ties q t))
    ∙ ap (cond (pointwise nat_eq q t) (map.get m n)) (get_from (n + 1) ts m q)
    ∙ reached_by m (pointwise nat_eq q t) n (number_from (n + 1) ts q)

pub number_is : (names : List (List ℕ)) (q : List ℕ) → position (pointwise nat_eq q) names ≡ number_from 0 names q
number_is names q = position_from-zero (pointwise nat_eq q) names

-- What stands at a name.
pub get_named : {X : Type 0} (names : List (List ℕ)) (m : ByNumber X) (q : List ℕ) → map.get (named names m) q ≡ reached m (position (pointwise nat_eq q) names)
get_named names m q = get_from 0 names m q ∙ ap (reached m) (sym (number_is names q))

pub equal_texts : (a b : List ℕ) → pointwise nat_eq a b ≡ true → a ≡ b
equal_texts a b h = (bytes_decides a b).0 h

-- ---- a number is that of one name

-- two names of one number are one
one_name : (names : List (List ℕ)) (k q : List ℕ) (n i : ℕ) → position (pointwise nat_eq k) names ≡ Some n → position (pointwise nat_eq q) names ≡ Some i → i ≡ n → q ≡ k
one_name names k q n i at_k at_q same =
    equal_texts q (get_or names i []) (position-Some (pointwise nat_eq q) names i [] at_q).1
    ∙ ap (λ j. get_or names j []) same
    ∙ sym (equal_texts k (get_or names n []) (position-Some (pointwise nat_eq k) names n [] at_k).1)

tied_numbers : (i n : ℕ) (b : Bool) → eq_by_cmp nat_cmp i n ≡ b → b ≡ true → i ≡ n
tied_numbers i n b is h = nat_cmp-IsAntisymmetric i n ((Equal-is (nat_cmp i n)).0 (is ∙ h))

tied_texts : (q k : List ℕ) → eq_by_cmp (slice_cmp nat_cmp) q k ≡ true → q ≡ k
tied_texts q k h = exact_bytes q k ((Equal-is (slice_cmp nat_cmp q k)).0 h)

module _ {X : Type 0} (names : List (List ℕ)) (m : ByNumber X) (k : List ℕ) (n : ℕ) (o : Option X) (at_k : position (pointwise nat_eq k) names ≡ Some n) where
  -- at the name itself
  here : (q : List ℕ) → q ≡ k → reached (written m n o) (position (pointwise nat_eq q) names) ≡ o
  here q same =
      ap (λ t. reached (written m n o) (position (pointwise nat_eq t) names)) same ∙ ap (reached (written m n o)) at_k
      ∙ get_written nat_cmp_total m n o n ∙ ap (λ b. cond b o (map.get m n)) (itself nat_cmp_total n)

  -- and at another
  apart_at : (q : List ℕ) (i : ℕ) (b : Bool) → eq_by_cmp nat_cmp i n ≡ b → position (pointwise nat_eq q) names ≡ Some i → (q ≡ k → ⊥) → cond b o (map.get m i) ≡ map.get m i
  apart_at q i true is at_q differs = absurd (differs (one_name names k q n i at_k at_q (tied_numbers i n true is refl)))
  apart_at q i false is at_q differs = refl

  there_at : (q : List ℕ) (r : Option ℕ) → position (pointwise nat_eq q) names ≡ r → (q ≡ k → ⊥) → reached (written m n o) r ≡ reached m r
  there_at q None is differs = refl
  there_at q (Some i) is differs = get_written nat_cmp_total m n o i ∙ apart_at q i (eq_by_cmp nat_cmp i n) refl is differs

  by_name : (q : List ℕ) (b : Bool) → eq_by_cmp (slice_cmp nat_cmp) q k ≡ b → reached (written m n o) (position (pointwise nat_eq q) names) ≡ cond b o (reached m (position (pointwise nat_eq q) names))
  by_name q true is = here q (tied_texts q k is)
  by_name q false is = there_at q (position (pointwise nat_eq q) names) refl (λ e. false≢true (sym is ∙ ap (λ t. eq_by_cmp (slice_cmp nat_cmp) t k) e ∙ itself nat_list_cmp_total k))

  -- what is written at a number is written at its name
  pub named_written : named names (written m n o) ≡ written (named names m) k o
  named_written = map.same_map nat_list_cmp_total exact_bytes _ _ (λ q.
      get_named names (written m n o) q ∙ by_name q (eq_by_cmp (slice_cmp nat_cmp) q k) refl
      ∙ ap (cond (eq_by_cmp (slice_cmp nat_cmp) q k) o) (sym (get_named names m q)) ∙ sym (get_written nat_list_cmp_total (named names m) k o q))

  -- and read there
  pub named_at : map.get (named names m) k ≡ map.get m n
  named_at = get_named names m k ∙ ap (reached m) at_k

pub named_missing : {X : Type 0} (names : List (List ℕ)) (m : ByNumber X) (k : List ℕ) → position (pointwise nat_eq k) names ≡ None → map.get (named names m) k ≡ None
named_missing names m k none = get_named names m k ∙ ap (reached m) none

-- ---- more names behind the others

module _ {X : Type 0} (m : ByNumber X) (t : List ℕ → Bool) where
  unreached_by : (b : Bool) (n : ℕ) (r : Option ℕ) → map.get m n ≡ None → reached m r ≡ None → reached m (cond b (Some n) r) ≡ None
  unreached_by true n r h later = h
  unreached_by false n r h later = later

  unreached : (n : ℕ) (names : List (List ℕ)) → ((i : ℕ) → n ≤ i → map.get m i ≡ None) → reached m (position_from t n names) ≡ None
  unreached n [] h = refl
  unreached n (x ∷ xs) h = unreached_by (t x) n (position_from t (n + 1) xs) (h n (omega arith)) (unreached (n + 1) xs (λ i le. h i (omega (arith, le))))

  grown_by : (b : Bool) (n : ℕ) (r s : Option ℕ) → reached m r ≡ reached m s → reached m (cond b (Some n) r) ≡ reached m (cond b (Some n) s)
  grown_by true n r s h = refl
  grown_by false n r s h = h

  grown_from : (n : ℕ) (names more : List (List ℕ)) → ((i : ℕ) → n + length names ≤ i → map.get m i ≡ None) → reached m (position_from t n (names ++ more)) ≡ reached m (position_from t n names)
  grown_from n [] more h = unreached n more (λ i le. h i (omega (arith, le)))
  grown_from n (x ∷ xs) more h = grown_by (t x) n (position_from t (n + 1) (xs ++ more)) (position_from t (n + 1) xs) (grown_from (n + 1) xs more (λ i le. h i (omega (arith, le))))

-- more names change nothing
pub named_grown : {X : Type 0} (names others : List (List ℕ)) (m : ByNumber X) → IsFront names others → IsBelow (length names) m → named others m ≡ named names m
named_grown names others m front below = map.same_map nat_list_cmp_total exact_bytes _ _ (λ q.
    ap (λ l. map.get (named l m) q) front.1
    ∙ get_from 0 (names ++ front.0) m q ∙ grown_from m (pointwise nat_eq q) 0 names front.0 (λ i le. below i (omega (arith, le))) ∙ sym (get_from 0 names m q))

pub below_more : {X : Type 0} (n o : ℕ) (m : ByNumber X) → n ≤ o → IsBelow n m → IsBelow o m
below_more n o m le below = λ i h. below i (omega (arith, le, h))

pub below_empty : {X : Type 0} (n : ℕ) → IsBelow n (map.empty {X = X})
below_empty n = λ i h. map.get-empty nat_cmp i

below_at : {X : Type 0} (m : ByNumber X) (k : ℕ) (o : Option X) (i n : ℕ) (b : Bool) → eq_by_cmp nat_cmp i k ≡ b → k < n → n ≤ i → map.get m i ≡ None → cond b o (map.get m i) ≡ None
below_at m k o i n true is within le h = absurd (omega (arith, tied_numbers i k true is refl, within, le))
below_at m k o i n false is within le h = h

-- what is written at a number below is below
pub below_written : {X : Type 0} (n : ℕ) (m : ByNumber X) (k : ℕ) (o : Option X) → k < n → IsBelow n m → IsBelow n (written m k o)
below_written n m k o within below = λ i le. get_written nat_cmp_total m k o i ∙ below_at m k o i n (eq_by_cmp nat_cmp i k) refl within le (below i le)

-- ---- names that differ

module _ (eq : List ℕ → List ℕ → Bool) where
  apart : (x : List ℕ) (ys : List (List ℕ)) (i : ℕ) (d : List ℕ) → i < length ys → AllByRecursion (λ y. eq x y ≡ false) ys → eq x (get_or ys i d) ≡ false
  apart x [] i d h all = absurd (omega arith)
  apart x (y ∷ ys) zero d h all = all.0
  apart x (y ∷ ys) (suc i) d h all = apart x ys i d (omega (arith, h)) all.1

take_first : (b : Bool) (n : ℕ) (r : Option ℕ) → b ≡ true → cond b (Some n) r ≡ Some n
take_first true n r h = refl
take_first false n r h = absurd (false≢true h)

take_later : (b : Bool) (n : ℕ) (r : Option ℕ) → b ≡ false → cond b (Some n) r ≡ r
take_later true n r h = absurd (false≢true (sym h))
take_later false n r h = refl

own_from : (n : ℕ) (names : List (List ℕ)) → IsDistinct (pointwise nat_eq) names → (i : ℕ) → i < length names → number_from n names (get_or names i []) ≡ Some (n + i)
own_from n [] apart_all i h = absurd (omega arith)
own_from n (x ∷ xs) apart_all zero h = take_first (pointwise nat_eq x x) n _ ((bytes_decides x x).1 refl) ∙ ap Some (plus_zero n)
  where
    plus_zero : (a : ℕ) → a ≡ a + 0
    plus_zero a = omega arith
own_from n (x ∷ xs) apart_all (suc i) h =
    take_later (pointwise nat_eq (get_or xs i []) x) n _ (nat_list_eq_equiv.symm (get_or xs i []) x ∙ apart (pointwise nat_eq) x xs i [] (omega (arith, h)) (IsDistinct-head (pointwise nat_eq) x xs apart_all))
    ∙ own_from (n + 1) xs (IsDistinct-tail (pointwise nat_eq) x xs apart_all) i (omega (arith, h)) ∙ ap Some (next n i)
  where
    next : (a b : ℕ) → (a + 1) + b ≡ a + suc b
    next a b = omega arith

-- each name has its own number
pub own_number : (names : List (List ℕ)) → IsDistinct (pointwise nat_eq) names → (i : ℕ) → i < length names → position (pointwise nat_eq (get_or names i [])) names ≡ Some i
own_number names apart_all i h = number_is names (get_or names i []) ∙ own_from 0 names apart_all i h ∙ ap Some (zero_plus i)
  where
    zero_plus : (a : ℕ) → 0 + a ≡ a
    zero_plus a = omega arith

none_past : {X : Type 0} (names : List (List ℕ)) (m : ByNumber X) → IsDistinct (pointwise nat_eq) names → IsBelow (length names) m → named names m ≡ map.empty → (i : ℕ) (b : Bool) → nat_lt i (length names) ≡ b → map.get m i ≡ None
none_past names m apart_all below none i true is =
    sym (named_at names m (get_or names i []) i None (own_number names apart_all i (ltb-true i (length names) is)))
    ∙ ap (λ n. map.get n (get_or names i [])) none ∙ map.get-empty (slice_cmp nat_cmp) (get_or names i [])
none_past names m apart_all below none i false is = below i (ltb-false i (length names) is)

pub empty_named : {X : Type 0} (names : List (List ℕ)) → named names (map.empty {X = X}) ≡ map.empty
empty_named {X} names = map.same_map nat_list_cmp_total exact_bytes _ _ (λ q. get_named names map.empty q ∙ nothing (position (pointwise nat_eq q) names) ∙ sym (map.get-empty (slice_cmp nat_cmp) q))
  where
    nothing : (r : Option ℕ) → reached (map.empty {X = X}) r ≡ None
    nothing None = refl
    nothing (Some i) = map.get-empty nat_cmp i

pub none_named : {X : Type 0} (names : List (List ℕ)) (q : List ℕ) → map.get (named names (map.empty {X = X})) q ≡ None
none_named {X} names q = ap (λ n. map.get n q) (empty_named {X = X} names) ∙ map.get-empty (slice_cmp nat_cmp) q

len_by : {X : Type 0} (names : List (List ℕ)) (m : ByNumber X) → IsDistinct (pointwise nat_eq) names → IsBelow (length names) m → (a b : Bool) → (map.len (named names m) == 0) ≡ a → (map.len m == 0) ≡ b → a ≡ b
len_by names m apart_all below true true p q = refl
len_by names m apart_all below false false p q = refl
len_by {X} names m apart_all below true false p q =
    let none : m ≡ map.empty = map.same_map nat_cmp_total nat_cmp-IsAntisymmetric _ _ (λ i. none_past names m apart_all below (map.empty_of_len (named names m) (eqb-true _ 0 p)) i (nat_lt i (length names)) refl ∙ sym (map.get-empty nat_cmp i)) in
    absurd (false≢true (sym q ∙ ap (λ n. map.len n == 0) none ∙ ap (λ n. n == 0) (map.len-empty nat_cmp X)))
len_by {X} names m apart_all below false true p q =
    absurd (false≢true (sym p ∙ ap (λ n. map.len (named names n) == 0) (map.empty_of_len m (eqb-true _ 0 q)) ∙ ap (λ n. map.len n == 0) (empty_named {X = X} names) ∙ ap (λ n. n == 0) (map.len-empty (slice_cmp nat_cmp) X)))

-- there is nothing at names where there is nothing at numbers
pub named_empty : {X : Type 0} (names : List (List ℕ)) (m : ByNumber X) → IsDistinct (pointwise nat_eq) names → IsBelow (length names) m → (map.len (named names m) == 0) ≡ (map.len m == 0)
named_empty names m apart_all below = len_by names m apart_all below _ _ refl refl
