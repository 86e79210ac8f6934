-- The changes of a row fit.
use Rattle.std.specs.Prelude.{◌≡◌, ℕ, Bool, true, false, not, cond, if◌then◌else◌, nat_eq, List, [], ◌∷◌, filter, map as each, length, refl}
use Rattle.std.specs.List.{All, AllByRecursion, IsDistinct, flat_map}
use Rattle.std.proofs.Common.{sym, ap, subst, ◌∙◌}
use Rattle.std.proofs.lemmas.List.Elements.{All-head, All-tail}
use Rattle.std.proofs.lemmas.Map.Keys.{IsDistinct-head, IsDistinct-tail}
use Rattle.std.specs.Ordering.{nat_cmp, eq_by_cmp}
use Rattle.std.specs.Cmp.Lexicographic.{slice_cmp, pointwise, nat_list_cmp_total, texts_ties}
use Rattle.bl_outside.specs.OrderedSet as set
use Rattle.bl_value.specs.Order.{value_cmp}
use Rattle.bl_value.specs.declared.value.Value.{Value}
use Rattle.bl_value.specs.declared.column.Side.{Side}
use Rattle.bl_value.specs.declared.column.Side.TheVariants.{Vertex, Edge}
use Rattle.bl_value.specs.declared.row.Property.{Property}
use Rattle.bl_value.specs.ValidRows.{AreApart}
use Rattle.bl_graph.specs.Graph.{Graph, Values, values_at, has_owner}
use Rattle.bl_graph.specs.Replay.{after, fit}
use Rattle.bl_graph.specs.Admission.{is_among, replaced, added, property_changes}
use Rattle.bl_graph.specs.Admitted.{IsProper}
use Rattle.bl_graph.proofs.ValueOrder.{value_cmp_total}
use Rattle.bl_graph.proofs.Replayed.{after-append}
use Rattle.bl_graph.proofs.Apart.{all_two, all_map, all_filter, apart_filter, failing, take_all, gone, flipped, items_apart, items_there}
use Rattle.bl_graph.proofs.Fitting.{fit_more, removals, additions, fit_removals, after_removals, owner_after_removals, owner_after_additions, removals_apart, additions_apart, fit_vertex_additions, fit_edge_addition, others_gone}

pub none_apart : {K : Type 0} (e : K → K → Bool) → IsDistinct e []
unfolding IsDistinct
none_apart e = tt

pub by_order : (a b : List ℕ) → pointwise nat_eq a b ≡ false → eq_by_cmp (slice_cmp nat_cmp) a b ≡ false
by_order a b h = sym (texts_ties a b) ∙ h

pub apart_by_order : (texts : List (List ℕ)) → AreApart texts → IsDistinct (eq_by_cmp (slice_cmp nat_cmp)) texts
apart_by_order texts h = subst (λ (e : List ℕ → List ℕ → Bool). IsDistinct e texts) (λ i a b. texts_ties a b i) h

pub by_recursion : {X : Type 0} (P : X → Type 0) (xs : List X) → All P xs → AllByRecursion P xs
by_recursion P [] h = tt
by_recursion P (x ∷ xs) h = (All-head P x xs h, by_recursion P xs (All-tail P x xs h))

pub all_each : {X Y : Type 0} (f : X → Y) (P : Y → Type 0) (xs : List X) → AllByRecursion P (each f xs) → AllByRecursion (λ x. P (f x)) xs
all_each f P [] h = tt
all_each f P (x ∷ xs) h = (h.0, all_each f P xs h.1)

if_all : {X : Type 0} (P : X → Type 0) (b : Bool) (xs : List X) → AllByRecursion P xs → AllByRecursion P (if b then xs else [])
if_all P true xs h = h
if_all P false xs h = tt

pub if_apart : {X : Type 0} (e : X → X → Bool) (b : Bool) (xs : List X) → IsDistinct e xs → IsDistinct e (if b then xs else [])
if_apart e true xs h = h
if_apart e false xs h = none_apart e

-- ---- one property, in a graph that has moved on elsewhere

module _ (graph : Graph) (side : Side) (id : List ℕ) (property : Property) (now : Graph) (same : values_at now side id property.key ≡ values_at graph side id property.key) where
  abbrev there : Values
  there = values_at graph side id property.key

  replaced_there : AllByRecursion (λ v. set.contains (values_at now side id property.key) v ≡ true) (replaced graph side id property)
  replaced_there =
      if_all (λ v. set.contains (values_at now side id property.key) v ≡ true) property.single (filter (λ value. not (is_among property.values value)) (set.items there))
      (all_filter (λ v. set.contains (values_at now side id property.key) v ≡ true) (λ value. not (is_among property.values value)) (set.items there)
      (all_map (λ v h. ap (λ s. set.contains s v) same ∙ h) (set.items there) (items_there value_cmp_total there)))

  replaced_apart : IsDistinct (eq_by_cmp value_cmp) (replaced graph side id property)
  replaced_apart =
      if_apart (eq_by_cmp value_cmp) property.single (filter (λ value. not (is_among property.values value)) (set.items there))
      (apart_filter (eq_by_cmp value_cmp) (λ value. not (is_among property.values value)) (set.items there) (items_apart value_cmp_total there))

  pub fit_replaced : fit now (removals side id property.key (replaced graph side id property)) ≡ true
  fit_replaced = fit_removals side id property.key now (replaced graph side id property) replaced_there replaced_apart

  -- what is left before the values are added
  pub left : values_at (after now (removals side id property.key (replaced graph side id property))) side id property.key ≡ take_all value_cmp_total (replaced graph side id property) there
  left = after_removals side id property.key now (replaced graph side id property) ∙ ap (take_all value_cmp_total (replaced graph side id property)) same

  pub added_missing : AllByRecursion (λ v. set.contains (values_at (after now (removals side id property.key (replaced graph side id property))) side id property.key) v ≡ false) (added graph side id property)
  added_missing =
      all_map (λ v h. ap (λ s. set.contains s v) left ∙ gone value_cmp_total (replaced graph side id property) there v h) (added graph side id property) (failing (set.contains there) property.values)

  pub owner_left : has_owner now side id ≡ true → has_owner (after now (removals side id property.key (replaced graph side id property))) side id ≡ true
  owner_left owner = owner_after_removals side id property.key now (replaced graph side id property) ∙ owner

fit_at_vertex : (graph : Graph) (id : List ℕ) (property : Property) (now : Graph) → values_at now Vertex id property.key ≡ values_at graph Vertex id property.key → has_owner now Vertex id ≡ true → IsProper property → fit now (property_changes graph Vertex id property) ≡ true
fit_at_vertex graph id property now same owner proper =
    fit_more now (removals Vertex id property.key (replaced graph Vertex id property)) (additions Vertex id property.key (added graph Vertex id property)) (fit_replaced graph Vertex id property now same)
    (fit_vertex_additions id property.key (after now (removals Vertex id property.key (replaced graph Vertex id property))) (added graph Vertex id property) (owner_left graph Vertex id property now same owner) (added_missing graph Vertex id property now same)
    (apart_filter (eq_by_cmp value_cmp) (λ value. not (set.contains (values_at graph Vertex id property.key) value)) property.values proper.differ))

one_at_edge : (now : Graph) (id key : List ℕ) (s : Values) (v : Value) (b : Bool) → set.contains s v ≡ b → has_owner now Edge id ≡ true → values_at now Edge id key ≡ take_all value_cmp_total (filter (λ value. not (is_among (v ∷ []) value)) (set.items s)) s → fit now (additions Edge id key (cond (not b) (v ∷ []) [])) ≡ true
one_at_edge now id key s v true h owner is = refl
one_at_edge now id key s v false h owner is = fit_edge_addition id key now v owner (is ∙ others_gone v s h)

values_at_edge : (now : Graph) (id key : List ℕ) (s : Values) (values : List Value) → length values ≡ 1 → has_owner now Edge id ≡ true → values_at now Edge id key ≡ take_all value_cmp_total (filter (λ value. not (is_among values value)) (set.items s)) s → fit now (additions Edge id key (filter (λ value. not (set.contains s value)) values)) ≡ true
values_at_edge now id key s [] one owner is = absurd (omega Rattle.std.proofs.Common.arith)
values_at_edge now id key s (v ∷ []) one owner is = one_at_edge now id key s v (set.contains s v) refl owner is
values_at_edge now id key s (v ∷ w ∷ ws) one owner is = absurd (omega Rattle.std.proofs.Common.arith)

fit_at_edge : (graph : Graph) (id : List ℕ) (property : Property) (now : Graph) → values_at now Edge id property.key ≡ values_at graph Edge id property.key → has_owner now Edge id ≡ true → IsProper property → property.single ≡ true → fit now (property_changes graph Edge id property) ≡ true
fit_at_edge graph id property now same owner proper single =
    fit_more now (removals Edge id property.key (replaced graph Edge id property)) (additions Edge id property.key (added graph Edge id property)) (fit_replaced graph Edge id property now same)
    (values_at_edge (after now (removals Edge id property.key (replaced graph Edge id property))) id property.key (values_at graph Edge id property.key) property.values (proper.one single) (owner_left graph Edge id property now same owner)
    (left graph Edge id property now same
    ∙ ap (λ b. take_all value_cmp_total (if b then filter (λ value. not (is_among property.values value)) (set.items (values_at graph Edge id property.key)) else []) (values_at graph Edge id property.key)) single))

-- what a property has to be on a side
abbrev MayStand : Side → Property → Type 0
MayStand Vertex property = Unit {0}
MayStand Edge property = property.single ≡ true

fit_property : (graph : Graph) (side : Side) (id : List ℕ) (property : Property) (now : Graph) → values_at now side id property.key ≡ values_at graph side id property.key → has_owner now side id ≡ true → IsProper property → MayStand side property → fit now (property_changes graph side id property) ≡ true
fit_property graph Vertex id property now same owner proper may = fit_at_vertex graph id property now same owner proper
fit_property graph Edge id property now same owner proper may = fit_at_edge graph id property now same owner proper may

-- ---- all properties

module _ (graph : Graph) (side : Side) (id : List ℕ) where
  owner_later : (now : Graph) (property : Property) → has_owner (after now (property_changes graph side id property)) side id ≡ has_owner now side id
  owner_later now property =
      ap (λ g. has_owner g side id) (after-append now (removals side id property.key (replaced graph side id property)) (additions side id property.key (added graph side id property)))
      ∙ owner_after_additions side id property.key (after now (removals side id property.key (replaced graph side id property))) (added graph side id property)
      ∙ owner_after_removals side id property.key now (replaced graph side id property)

  pub elsewhere_later : (now : Graph) (property : Property) (other : List ℕ) → eq_by_cmp (slice_cmp nat_cmp) other property.key ≡ false → values_at (after now (property_changes graph side id property)) side id other ≡ values_at now side id other
  elsewhere_later now property other differs =
      ap (λ g. values_at g side id other) (after-append now (removals side id property.key (replaced graph side id property)) (additions side id property.key (added graph side id property)))
      ∙ additions_apart side id property.key other differs (after now (removals side id property.key (replaced graph side id property))) (added graph side id property)
      ∙ removals_apart side id property.key other differs now (replaced graph side id property)

  pub fit_properties : (properties : List Property) (now : Graph) → AllByRecursion (λ p. values_at now side id p.key ≡ values_at graph side id p.key) properties → has_owner now side id ≡ true → AllByRecursion IsProper properties → AllByRecursion (MayStand side) properties → AreApart (each (λ p. p.key) properties) → fit now (flat_map (property_changes graph side id) properties) ≡ true
  fit_properties [] now same owner proper may apart = refl
  fit_properties (p ∷ ps) now same owner proper may apart =
      fit_more now (property_changes graph side id p) (flat_map (property_changes graph side id) ps) (fit_property graph side id p now same.0 owner proper.0 may.0)
      (fit_properties ps (after now (property_changes graph side id p))
      (all_two (λ q differs h. elsewhere_later now p q.key (flipped nat_list_cmp_total p.key q.key (by_order p.key q.key differs)) ∙ h) ps (all_each (λ q. q.key) (λ k. pointwise nat_eq p.key k ≡ false) ps (IsDistinct-head (pointwise nat_eq) p.key (each (λ q. q.key) ps) apart)) same.1)
      (owner_later now p ∙ owner) proper.1 may.1 (IsDistinct-tail (pointwise nat_eq) p.key (each (λ q. q.key) ps) apart))

pub all_same : (graph : Graph) (side : Side) (id : List ℕ) (properties : List Property) → AllByRecursion (λ p. values_at graph side id p.key ≡ values_at graph side id p.key) properties
all_same graph side id [] = tt
all_same graph side id (p ∷ ps) = (refl, all_same graph side id ps)

pub any_on_vertex : (properties : List Property) → AllByRecursion (MayStand Vertex) properties
any_on_vertex [] = tt
any_on_vertex (p ∷ ps) = (tt, any_on_vertex ps)
