-- Maps and sets by number: what entries make of them.
use Rattle.std.specs.Prelude.{◌≡◌, ℕ, Bool, true, false, ◌||◌, cond, nat_eq, is_some, List, [], ◌∷◌, ◌++◌, Some, None, refl}
use Rattle.std.specs.declared.option.Option.{Option}
use Rattle.std.specs.Option.{unwrap_or}
use Rattle.std.proofs.Common.{sym, ap, subst, ◌∙◌}
use Rattle.std.proofs.lemmas.Bool.{false≢true}
use Rattle.std.specs.List.{list_any}
use Rattle.std.specs.Map.{lookup}
use Rattle.std.specs.BTreeMap.{is_at}
use Rattle.std.specs.Ordering.{nat_cmp}
use Rattle.std.specs.Cmp.{nat_cmp_total, eq_by_cmp_equiv, unsigned_ties}
use Rattle.std.specs.FinMap as map
use Rattle.std.specs.FinMap.{nat_cmp-IsAntisymmetric}
use Rattle.bl_outside.specs.OrderedSet as set
use Rattle.bl_outside.proofs.Finite.{get_key, has_key, put_key, drop_key, same_keys, add_key, put_again, drop_put, put_all}

-- what entries have at a number
abbrev pub at : {V : Type 0} → List (ℕ × V) → ℕ → Option V
at es q = lookup (is_at (nat_cmp q)) es

pub get_number : {V : Type 0} (es : List (ℕ × V)) (q : ℕ) → map.get (map.from_entries {R = nat_cmp} es) q ≡ at es q
get_number es q = get_key nat_cmp_total es q

pub given : {V : Type 0} (es fs : List (ℕ × V)) (k : ℕ) (v : V) → ((q : ℕ) → at fs q ≡ cond (is_at (nat_cmp k) q) (Some v) (at es q)) → map.from_entries {R = nat_cmp} fs ≡ map.insert (map.from_entries es) k v
given es fs k v h = put_key nat_cmp_total nat_cmp-IsAntisymmetric es fs k v h

pub without : {V : Type 0} (es fs : List (ℕ × V)) (k : ℕ) → ((q : ℕ) → at fs q ≡ cond (is_at (nat_cmp k) q) None (at es q)) → map.from_entries {R = nat_cmp} fs ≡ map.remove (map.from_entries es) k
without es fs k h = drop_key nat_cmp_total nat_cmp-IsAntisymmetric es fs k h

pub unchanged : {V : Type 0} (es fs : List (ℕ × V)) → ((q : ℕ) → at fs q ≡ at es q) → map.from_entries {R = nat_cmp} fs ≡ map.from_entries es
unchanged es fs h = same_keys nat_cmp_total nat_cmp-IsAntisymmetric es fs h

pub has_number : (ks : List ℕ) (q : ℕ) → set.contains (set.from_list {R = nat_cmp} ks) q ≡ list_any (is_at (nat_cmp q)) ks
has_number ks q = has_key nat_cmp_total ks q

pub given_number : (ks ls : List ℕ) (k : ℕ) → ((q : ℕ) → list_any (is_at (nat_cmp q)) ls ≡ cond (is_at (nat_cmp k) q) true (list_any (is_at (nat_cmp q)) ks)) → set.from_list {R = nat_cmp} ls ≡ set.insert (set.from_list ks) k
given_number ks ls k h = add_key nat_cmp_total nat_cmp-IsAntisymmetric ks ls k h

-- to insert what is there changes nothing
pub stays : {V : Type 0} (m : map.FinMap (nat_cmp) V) (k : ℕ) (v : V) → map.get m k ≡ Some v → map.insert m k v ≡ m
stays m k v h = put_again nat_cmp_total nat_cmp-IsAntisymmetric m k v h

-- ---- a map of maps or sets: what stands at a number, or d where nothing stands there

-- entries that were written at one number
abbrev pub Writes : {V : Type 0} → List (ℕ × V) → List (ℕ × V) → ℕ → V → Type 0
Writes es fs k w = (q : ℕ) → at fs q ≡ cond (is_at (nat_cmp k) q) (Some w) (at es q)

module _ {V : Type 0} (es : List (ℕ × V)) (m : map.FinMap (nat_cmp) V) (view : map.from_entries {R = nat_cmp} es ≡ m) (k : ℕ) where
  pub stands : map.get m k ≡ at es k
  stands = ap (λ n. map.get n k) (sym view) ∙ get_number es k

  pub read_some : {T : Type 0} (d x : V) (p : V → T) → Some x ≡ at es k → p x ≡ p (unwrap_or (map.get m k) d)
  read_some d x p h = ap (λ o. p (unwrap_or o d)) (h ∙ sym stands)

  pub read_none : {T : Type 0} (d : V) (p : V → T) → None ≡ at es k → p d ≡ p (unwrap_or (map.get m k) d)
  read_none d p h = ap (λ o. p (unwrap_or o d)) (h ∙ sym stands)

  written : (fs : List (ℕ × V)) (w : V) → Writes es fs k w → map.from_entries fs ≡ map.insert m k w
  written fs w h = given es fs k w h ∙ ap (λ n. map.insert n k w) view

  pub write_some : (fs : List (ℕ × V)) (d x w : V) (f : V → V) → Some x ≡ at es k → Writes es fs k w → w ≡ f x → map.from_entries fs ≡ map.insert m k (f (unwrap_or (map.get m k) d))
  write_some fs d x w f h writes e = written fs w writes ∙ ap (map.insert m k) (e ∙ read_some d x f h)

  pub write_none : (lent fs : List (ℕ × V)) (copy : ℕ) (d w : V) (f : V → V) → None ≡ at es k → lent ≡ es → copy ≡ k → Writes lent fs copy w → w ≡ f d → map.from_entries fs ≡ map.insert m k (f (unwrap_or (map.get m k) d))
  write_none lent fs copy d w f h same copied writes e =
      written fs w (subst (λ c. Writes es fs c w) copied (subst (λ l. Writes l fs copy w) same writes)) ∙ ap (map.insert m k) (e ∙ read_none d f h)

  -- what was there is written again
  pub write_same : (fs : List (ℕ × V)) (x w : V) → Some x ≡ at es k → Writes es fs k w → w ≡ x → map.from_entries fs ≡ m
  write_same fs x w h writes e = written fs w writes ∙ ap (map.insert m k) e ∙ stays m k x (stands ∙ sym h)

-- entries that were written at one number are the same without it
pub unwritten : {V : Type 0} (es fs : List (ℕ × V)) (k : ℕ) (w : V) → Writes es fs k w → map.remove (map.from_entries {R = nat_cmp} fs) k ≡ map.remove (map.from_entries es) k
unwritten es fs k w h = ap (λ n. map.remove n k) (given es fs k w h) ∙ drop_put nat_cmp_total nat_cmp-IsAntisymmetric (map.from_entries es) k w

-- a loop that copies a map: one entry more
pub copied_more : {V : Type 0} (copy copy2 left rest : List (ℕ × V)) (key key2 : ℕ) (value value2 : V) (whole : map.FinMap (nat_cmp) V) → left ≡ (key, value) ∷ rest → Writes copy copy2 key2 value2 → key2 ≡ key → value2 ≡ value →
    put_all nat_cmp_total left (map.from_entries copy) ≡ whole → put_all nat_cmp_total rest (map.from_entries copy2) ≡ whole
copied_more copy copy2 left rest key key2 value value2 whole next writes same_key same_value so_far =
    ap (put_all nat_cmp_total rest) (given copy copy2 key2 value2 writes ∙ ap (λ k. map.insert (map.from_entries copy) k value2) same_key ∙ ap (map.insert (map.from_entries copy) key) same_value)
    ∙ ap (λ l. put_all nat_cmp_total l (map.from_entries copy)) (sym next) ∙ so_far

-- ---- few numbers, in the order in which they came

turned : (x q : ℕ) → nat_eq x q ≡ is_at (nat_cmp q) x
turned x q = unsigned_ties x q ∙ (eq_by_cmp_equiv nat_cmp_total).symm x q

pub among : (ks : List ℕ) (q : ℕ) → list_any (λ other. nat_eq other q) ks ≡ set.contains (set.from_list {R = nat_cmp} ks) q
among ks q = (λ i. list_any (λ x. turned x q i) ks) ∙ sym (has_number ks q)

alone : (b : Bool) → (b || false) ≡ cond b true false
alone true = refl
alone false = refl

behind : (a b c : Bool) → (a || cond b true c) ≡ cond b true (a || c)
behind true true c = refl
behind true false c = refl
behind false true c = refl
behind false false c = refl

any_behind : (ks : List ℕ) (k q : ℕ) → list_any (is_at (nat_cmp q)) (ks ++ k ∷ []) ≡ cond (is_at (nat_cmp k) q) true (list_any (is_at (nat_cmp q)) ks)
any_behind [] k q = ap (λ b. b || false) ((eq_by_cmp_equiv nat_cmp_total).symm q k) ∙ alone (is_at (nat_cmp k) q)
any_behind (x ∷ ks) k q = ap (λ b. is_at (nat_cmp q) x || b) (any_behind ks k q) ∙ behind (is_at (nat_cmp q) x) (is_at (nat_cmp k) q) (list_any (is_at (nat_cmp q)) ks)

-- one number more, behind the others
pub pushed : (ks : List ℕ) (k : ℕ) → set.from_list {R = nat_cmp} (ks ++ k ∷ []) ≡ set.insert (set.from_list ks) k
pushed ks k = given_number ks (ks ++ k ∷ []) k (any_behind ks k)

there : (o : Option (Unit {0})) → is_some o ≡ true → o ≡ Some tt
there (Some tt) h = refl
there None h = absurd (false≢true h)

-- a number that is there already changes nothing
pub stays_in : (s : set.OrderedSet nat_cmp) (k : ℕ) → set.contains s k ≡ true → set.insert s k ≡ s
stays_in s k h = stays s k tt (there (map.get s k) h)
