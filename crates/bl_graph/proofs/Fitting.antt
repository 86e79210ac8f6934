-- The changes of a property fit.
use Rattle.std.specs.Prelude.{◌≡◌, ◌==◌, ℕ, Bool, true, false, not, ◌&&◌, ◌||◌, if◌then◌else◌, List, [], ◌∷◌, ◌++◌, filter, map as each, refl}
use Rattle.std.specs.List.{list_any, AllByRecursion, IsDistinct}
use Rattle.std.proofs.Common.{sym, ap, ◌∙◌}
use Rattle.std.proofs.lemmas.Bool.{false≢true}
use Rattle.std.proofs.lemmas.Map.Keys.{IsDistinct-head, IsDistinct-tail}
use Rattle.std.specs.Ordering.{nat_cmp, eq_by_cmp, is_eq}
use Rattle.std.specs.Cmp.{Equal-is}
use Rattle.std.specs.Cmp.Lexicographic.{slice_cmp}
use Rattle.std.specs.FinMap as map
use Rattle.bl_outside.specs.OrderedSet as set
use Rattle.bl_outside.proofs.Finite.{same_set, contains-empty}
use Rattle.bl_value.specs.Order.{value_cmp}
use Rattle.bl_value.specs.declared.value.Value.{Value}
use Rattle.bl_value.specs.declared.column.Side.{Side}
use Rattle.bl_value.specs.declared.column.Side.TheVariants.{Vertex, Edge}
use Rattle.bl_value.specs.declared.change.Change.{Change}
use Rattle.bl_value.specs.declared.change.Change.TheVariants.{AddValue, RemoveValue}
use Rattle.bl_graph.specs.Graph.{Graph, Values, values_at, has_owner}
use Rattle.bl_graph.specs.Replay.{after_one, after, fits, fit}
use Rattle.bl_graph.specs.Admission.{is_among}
use Rattle.bl_graph.proofs.ValueOrder.{value_cmp_total, exact_values}
use Rattle.bl_graph.proofs.Lenses.{values_there, values_elsewhere, owner_stays}
use Rattle.bl_graph.proofs.Apart.{all_two, take_all, gone, taken, still_missing, still_there}

pub fits_first : (a b : Bool) → (a && b) ≡ true → a ≡ true
fits_first true b h = refl
fits_first false b h = h

pub fits_later : (a b : Bool) → (a && b) ≡ true → b ≡ true
fits_later true b h = h
fits_later false b h = absurd (false≢true h)

-- changes that fit, and then more that fit
pub fit_more : (graph : Graph) (changes more : List Change) → fit graph changes ≡ true → fit (after graph changes) more ≡ true → fit graph (changes ++ more) ≡ true
fit_more graph [] more a b = b
fit_more graph (change ∷ changes) more a b = (λ i. fits_first (fits graph change) (fit (after_one graph change) changes) a i && fit_more (after_one graph change) changes more (fits_later (fits graph change) (fit (after_one graph change) changes) a) b i)

module _ (side : Side) (id key : List ℕ) where
  abbrev pub removals : List Value → List Change
  removals values = each (λ value. RemoveValue side id key value) values

  abbrev pub additions : List Value → List Change
  additions values = each (λ value. AddValue side id key value) values

  -- values that are there, each once, may be removed
  pub fit_removals : (graph : Graph) (values : List Value) → AllByRecursion (λ v. set.contains (values_at graph side id key) v ≡ true) values → IsDistinct (eq_by_cmp value_cmp) values → fit graph (removals values) ≡ true
  fit_removals graph [] there apart = refl
  fit_removals graph (v ∷ vs) there apart =
      let now : Graph = after_one graph (RemoveValue side id key v) in
      let is : values_at now side id key ≡ set.remove (values_at graph side id key) v = values_there graph side id key (set.remove (values_at graph side id key) v) in
      λ i. there.0 i && fit_removals now vs (all_two (λ w differs h. ap (λ s. set.contains s w) is ∙ still_there value_cmp_total (values_at graph side id key) v w differs h) vs (IsDistinct-head (eq_by_cmp value_cmp) v vs apart) there.1) (IsDistinct-tail (eq_by_cmp value_cmp) v vs apart) i

  -- what is left at the key
  pub after_removals : (graph : Graph) (values : List Value) → values_at (after graph (removals values)) side id key ≡ take_all value_cmp_total values (values_at graph side id key)
  after_removals graph [] = refl
  after_removals graph (v ∷ vs) =
      after_removals (after_one graph (RemoveValue side id key v)) vs ∙ ap (take_all value_cmp_total vs) (values_there graph side id key (set.remove (values_at graph side id key) v))

  pub owner_after_removals : (graph : Graph) (values : List Value) → has_owner (after graph (removals values)) side id ≡ has_owner graph side id
  owner_after_removals graph [] = refl
  owner_after_removals graph (v ∷ vs) =
      owner_after_removals (after_one graph (RemoveValue side id key v)) vs ∙ owner_stays graph side id key (set.remove (values_at graph side id key) v)

  pub owner_after_additions : (graph : Graph) (values : List Value) → has_owner (after graph (additions values)) side id ≡ has_owner graph side id
  owner_after_additions graph [] = refl
  owner_after_additions graph (v ∷ vs) =
      owner_after_additions (after_one graph (AddValue side id key v)) vs ∙ owner_stays graph side id key (set.insert (values_at graph side id key) v)

  module _ (other : List ℕ) (differs : eq_by_cmp (slice_cmp nat_cmp) other key ≡ false) where
    pub removals_apart : (graph : Graph) (values : List Value) → values_at (after graph (removals values)) side id other ≡ values_at graph side id other
    removals_apart graph [] = refl
    removals_apart graph (v ∷ vs) =
        removals_apart (after_one graph (RemoveValue side id key v)) vs ∙ values_elsewhere graph side id key (set.remove (values_at graph side id key) v) other differs

    pub additions_apart : (graph : Graph) (values : List Value) → values_at (after graph (additions values)) side id other ≡ values_at graph side id other
    additions_apart graph [] = refl
    additions_apart graph (v ∷ vs) =
        additions_apart (after_one graph (AddValue side id key v)) vs ∙ values_elsewhere graph side id key (set.insert (values_at graph side id key) v) other differs

module _ (id key : List ℕ) where
  -- values that aren't there, each once, may be added to a vertex
  pub fit_vertex_additions : (graph : Graph) (values : List Value) → has_owner graph Vertex id ≡ true → AllByRecursion (λ v. set.contains (values_at graph Vertex id key) v ≡ false) values → IsDistinct (eq_by_cmp value_cmp) values → fit graph (additions Vertex id key values) ≡ true
  fit_vertex_additions graph [] owner missing apart = refl
  fit_vertex_additions graph (v ∷ vs) owner missing apart =
      let now : Graph = after_one graph (AddValue Vertex id key v) in
      let is : values_at now Vertex id key ≡ set.insert (values_at graph Vertex id key) v = values_there graph Vertex id key (set.insert (values_at graph Vertex id key) v) in
      λ i. (owner i && not (missing.0 i) && true) && fit_vertex_additions now vs owner (all_two (λ w differs h. ap (λ s. set.contains s w) is ∙ still_missing value_cmp_total (values_at graph Vertex id key) v w differs h) vs (IsDistinct-head (eq_by_cmp value_cmp) v vs apart) missing.1) (IsDistinct-tail (eq_by_cmp value_cmp) v vs apart) i

  -- one value may be added to an edge where there is none
  pub fit_edge_addition : (graph : Graph) (v : Value) → has_owner graph Edge id ≡ true → values_at graph Edge id key ≡ set.empty → fit graph (additions Edge id key (v ∷ [])) ≡ true
  fit_edge_addition graph v owner none =
      λ i. (owner i && not ((ap (λ s. set.contains s v) none ∙ contains-empty value_cmp v) i) && (ap (λ s. set.len s == 0) none ∙ ap (λ n. n == 0) (map.len-empty value_cmp (Unit {0}))) i) && true

-- ---- one property

any_filter_at : (p : Value → Bool) (q x : Value) (tie kept : Bool) (xs ys : List Value) → eq_by_cmp value_cmp q x ≡ tie → p x ≡ kept → p q ≡ true → (tie || list_any (eq_by_cmp value_cmp q) xs) ≡ true → (list_any (eq_by_cmp value_cmp q) xs ≡ true → list_any (eq_by_cmp value_cmp q) ys ≡ true) → list_any (eq_by_cmp value_cmp q) (if kept then x ∷ ys else ys) ≡ true
any_filter_at p q x true true xs ys tie keeps passes h later = ap (λ b. b || list_any (eq_by_cmp value_cmp q) ys) tie
any_filter_at p q x true false xs ys tie keeps passes h later = absurd (false≢true (sym keeps ∙ ap p (sym (exact_values q x ((Equal-is (value_cmp q x)).0 tie))) ∙ passes))
any_filter_at p q x false true xs ys tie keeps passes h later = ap (λ b. b || list_any (eq_by_cmp value_cmp q) ys) tie ∙ later h
any_filter_at p q x false false xs ys tie keeps passes h later = later h

-- one that is there and passes is among those that pass
any_filter : (p : Value → Bool) (q : Value) (xs : List Value) → p q ≡ true → list_any (eq_by_cmp value_cmp q) xs ≡ true → list_any (eq_by_cmp value_cmp q) (filter p xs) ≡ true
any_filter p q [] passes h = h
any_filter p q (x ∷ xs) passes h = any_filter_at p q x (eq_by_cmp value_cmp q x) (p x) xs (filter p xs) refl refl passes h (any_filter p q xs passes)

differs_by : (v q : Value) (s : Values) (b : Bool) → is_eq (value_cmp v q) ≡ b → set.contains s v ≡ false → set.contains s q ≡ true → not (b || false) ≡ true
differs_by v q s true tie out there = absurd (false≢true (sym out ∙ ap (set.contains s) (exact_values v q ((Equal-is (value_cmp v q)).0 tie)) ∙ there))
differs_by v q s false tie out there = refl

others_gone_at : (v q : Value) (s : Values) (b : Bool) → set.contains s q ≡ b → set.contains s v ≡ false → set.contains (take_all value_cmp_total (filter (λ value. not (is_among (v ∷ []) value)) (set.items s)) s) q ≡ false
others_gone_at v q s false there out = gone value_cmp_total (filter (λ value. not (is_among (v ∷ []) value)) (set.items s)) s q there
others_gone_at v q s true there out =
    taken value_cmp_total (filter (λ value. not (is_among (v ∷ []) value)) (set.items s)) q s
    (any_filter (λ value. not (is_among (v ∷ []) value)) q (set.items s) (ap (λ b. not (b || false)) refl ∙ differs_by v q s (is_eq (value_cmp v q)) refl out there) (sym (map.contains_key-keys s q) ∙ there))

-- without all values but one that isn't there, nothing is there
pub others_gone : (v : Value) (s : Values) → set.contains s v ≡ false → take_all value_cmp_total (filter (λ value. not (is_among (v ∷ []) value)) (set.items s)) s ≡ set.empty
others_gone v s out = same_set value_cmp_total exact_values _ _ (λ q. others_gone_at v q s (set.contains s q) refl out ∙ sym (contains-empty value_cmp q))
