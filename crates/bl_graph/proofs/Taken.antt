-- The graph after the changes of a row has taken the row.
use Rattle.std.specs.Prelude.{◌≡◌, ◌==◌, ℕ, Bool, true, false, not, ◌&&◌, ◌||◌, cond, if◌then◌else◌, nat_eq, List, [], ◌∷◌, ◌++◌, filter, map as each, length, Some, None, refl}
use Rattle.std.specs.declared.option.Option.{Option}
use Rattle.std.specs.List.{AllByRecursion, list_any, flat_map}
use Rattle.std.proofs.Common.{sym, ap, subst, ◌∙◌}
use Rattle.std.proofs.lemmas.Map.Keys.{IsDistinct-head, IsDistinct-tail}
use Rattle.std.proofs.lemmas.Map.Lookups.{exact_bytes}
use Rattle.std.specs.Ordering.{nat_cmp, eq_by_cmp}
use Rattle.std.specs.Cmp.{eq_by_cmp_equiv}
use Rattle.std.specs.Cmp.Lexicographic.{slice_cmp, pointwise, nat_list_cmp_total, texts_ties}
use Rattle.std.specs.FinMap as map
use Rattle.bl_outside.specs.OrderedSet as set
use Rattle.bl_value.specs.Order.{value_cmp}
use Rattle.bl_value.specs.declared.value.Value.{Value}
use Rattle.bl_value.specs.declared.column.Side.{Side}
use Rattle.bl_value.specs.declared.column.Side.TheVariants.{Vertex, Edge}
use Rattle.bl_value.specs.declared.change.Change.{Change}
use Rattle.bl_value.specs.declared.change.Change.TheVariants.{AddLabel, AddEdge, AddValue, RemoveValue}
use Rattle.bl_value.specs.declared.log_code.LogCode.{LogCode}
use Rattle.bl_value.specs.declared.row.Property.{Property}
use Rattle.bl_value.specs.declared.row.Row.{Row}
use Rattle.bl_value.specs.declared.row.Row.TheVariants.{Vertex as vertex_row, Edge as edge_row, Bad}
use Rattle.bl_value.specs.ValidRows.{AreApart}
use Rattle.bl_graph.specs.declared.verdict.Verdict.{Verdict}
use Rattle.bl_graph.specs.Graph.{Graph, Values, ByText, Ends, texts_at, labels_of, edge_of, has_vertex, values_at}
use Rattle.bl_graph.specs.Replay.{after_one, after, with_values_at}
use Rattle.bl_graph.specs.Admission.{given_labels, is_among, replaced, added, property_changes, label_changes, edge_changes, edge_refusal, changed, unless_conflict, unless_refused, conflict, admit}
use Rattle.bl_graph.specs.Admitted.{IsProperRow}
use Rattle.bl_graph.specs.WithRow.{is_one_of, property_at, stands_after, TakesProperties, TakesVertex, TakesEdge, TakesRow, IsTaken}
use Rattle.bl_graph.proofs.Maps.{itself}
use Rattle.bl_graph.proofs.ValueOrder.{value_cmp_total, exact_values}
use Rattle.bl_graph.proofs.Replayed.{after-append}
use Rattle.bl_graph.proofs.Apart.{take_all, flipped}
use Rattle.bl_graph.proofs.Sets.{put_all, has_put, has_left, among_passing}
use Rattle.bl_graph.proofs.Lenses.{values_there}
use Rattle.bl_graph.proofs.Fitting.{removals, additions}
use Rattle.bl_graph.proofs.FittingRows.{by_order, all_each, left, elsewhere_later}
use Rattle.bl_graph.proofs.Admitted.{labelled, missing, labels_with, owner_by}
use Rattle.bl_graph.proofs.Duplicates.{same_text, same_edge}
use Rattle.bl_graph.proofs.Validity.{same_key, value_case}

among_values : (values : List Value) (v : Value) → list_any (eq_by_cmp value_cmp v) values ≡ is_among values v
among_values values v = λ i. list_any (λ other. (eq_by_cmp_equiv value_cmp_total).symm v other i) values

among_texts : (texts : List (List ℕ)) (text : List ℕ) → list_any (eq_by_cmp (slice_cmp nat_cmp) text) texts ≡ is_one_of texts text
among_texts texts text = λ i. list_any (λ other. ((eq_by_cmp_equiv nat_list_cmp_total).symm text other ∙ sym (texts_ties other text)) i) texts

only_own : (own old : Bool) → (not (not own && old) && old) ≡ (own && old)
only_own true old = refl
only_own false true = refl
only_own false false = refl

own_or_new : (own old : Bool) → ((own && old) || (not old && own)) ≡ own
own_or_new true true = refl
own_or_new true false = refl
own_or_new false true = refl
own_or_new false false = refl

old_or_new : (own old : Bool) → (old || (not old && own)) ≡ (old || own)
old_or_new own true = refl
old_or_new own false = refl

-- ---- the values at the key of a property

module _ (old : Values) (values : List Value) (v : Value) where
  has_added : (now : Values) → set.contains (put_all value_cmp_total (filter (λ value. not (set.contains old value)) values) now) v ≡ (set.contains now v || (not (set.contains old v) && is_among values v))
  has_added now =
      has_put value_cmp_total (filter (λ value. not (set.contains old value)) values) now v
      ∙ ap (λ b. set.contains now v || b) (among_passing value_cmp_total exact_values (λ value. not (set.contains old value)) v values ∙ ap (λ b. not (set.contains old v) && b) (among_values values v))

  has_own : set.contains (take_all value_cmp_total (filter (λ value. not (is_among values value)) (set.items old)) old) v ≡ (is_among values v && set.contains old v)
  has_own =
      has_left value_cmp_total (filter (λ value. not (is_among values value)) (set.items old)) old v
      ∙ ap (λ b. not b && set.contains old v) (among_passing value_cmp_total exact_values (λ value. not (is_among values value)) v (set.items old) ∙ ap (λ b. not (is_among values v) && b) (sym (map.contains_key-keys old v)))
      ∙ only_own (is_among values v) (set.contains old v)

  has_taken : (single : Bool) → set.contains (put_all value_cmp_total (filter (λ value. not (set.contains old value)) values) (take_all value_cmp_total (if single then filter (λ value. not (is_among values value)) (set.items old) else []) old)) v ≡ (if single then is_among values v else set.contains old v || is_among values v)
  has_taken true =
      has_added (take_all value_cmp_total (filter (λ value. not (is_among values value)) (set.items old)) old) ∙ ap (λ b. b || (not (set.contains old v) && is_among values v)) has_own
      ∙ own_or_new (is_among values v) (set.contains old v)
  has_taken false = has_added old ∙ old_or_new (is_among values v) (set.contains old v)

module _ (graph : Graph) (side : Side) (id : List ℕ) where
  after_additions : (key : List ℕ) (now : Graph) (values : List Value) → values_at (after now (additions side id key values)) side id key ≡ put_all value_cmp_total values (values_at now side id key)
  after_additions key now [] = refl
  after_additions key now (v ∷ vs) = after_additions key (after_one now (AddValue side id key v)) vs ∙ ap (put_all value_cmp_total vs) (values_there now side id key (set.insert (values_at now side id key) v))

  after_property : (property : Property) (now : Graph) → values_at now side id property.key ≡ values_at graph side id property.key →
      values_at (after now (property_changes graph side id property)) side id property.key ≡ put_all value_cmp_total (added graph side id property) (take_all value_cmp_total (replaced graph side id property) (values_at graph side id property.key))
  after_property property now same =
      ap (λ g. values_at g side id property.key) (after-append now (removals side id property.key (replaced graph side id property)) (additions side id property.key (added graph side id property)))
      ∙ after_additions property.key (after now (removals side id property.key (replaced graph side id property))) (added graph side id property)
      ∙ ap (put_all value_cmp_total (added graph side id property)) (left graph side id property now same)

  -- the changes of properties
  abbrev changes_of : List Property → List Change
  changes_of properties = flat_map (property_changes graph side id) properties

  -- those of other keys leave a key as it is
  untouched : (key : List ℕ) (properties : List Property) (now : Graph) → AllByRecursion (λ p. eq_by_cmp (slice_cmp nat_cmp) key p.key ≡ false) properties → values_at (after now (changes_of properties)) side id key ≡ values_at now side id key
  untouched key [] now differs = refl
  untouched key (p ∷ ps) now differs =
      ap (λ g. values_at g side id key) (after-append now (property_changes graph side id p) (changes_of ps))
      ∙ untouched key ps (after now (property_changes graph side id p)) differs.1
      ∙ elsewhere_later graph side id now p key differs.0

  -- the values at a key once some properties were taken
  abbrev IsOwn : List ℕ → Value → Graph → Option Property → Type 0
  IsOwn key v next property = set.contains (values_at next side id key) v ≡ stands_after property (values_at graph side id key) v

  own_first : (v : Value) (p : Property) (ps : List Property) (now : Graph) → values_at now side id p.key ≡ values_at graph side id p.key → AllByRecursion (λ q. eq_by_cmp (slice_cmp nat_cmp) p.key q.key ≡ false) ps → IsOwn p.key v (after now (changes_of (p ∷ ps))) (Some p)
  own_first v p ps now same differs =
      ap (λ g. set.contains (values_at g side id p.key) v) (after-append now (property_changes graph side id p) (changes_of ps))
      ∙ ap (λ s. set.contains s v) (untouched p.key ps (after now (property_changes graph side id p)) differs ∙ after_property p now same)
      ∙ has_taken (values_at graph side id p.key) p.values v p.single

  own_at : (key : List ℕ) (v : Value) (p : Property) (ps : List Property) (now : Graph) (b : Bool) → pointwise nat_eq p.key key ≡ b → values_at now side id key ≡ values_at graph side id key → AllByRecursion (λ q. eq_by_cmp (slice_cmp nat_cmp) p.key q.key ≡ false) ps →
      ((later : Graph) → values_at later side id key ≡ values_at graph side id key → IsOwn key v (after later (changes_of ps)) (property_at ps key)) → IsOwn key v (after now (changes_of (p ∷ ps))) (cond b (Some p) (property_at ps key))
  own_at key v p ps now true tie same differs rest =
      let is : p.key ≡ key = same_text p.key key tie in
      subst (λ k. IsOwn k v (after now (changes_of (p ∷ ps))) (Some p)) is (own_first v p ps now (subst (λ k. values_at now side id k ≡ values_at graph side id k) (sym is) same) differs)
  own_at key v p ps now false tie same differs rest =
      ap (λ g. set.contains (values_at g side id key) v) (after-append now (property_changes graph side id p) (changes_of ps))
      ∙ rest (after now (property_changes graph side id p)) (elsewhere_later graph side id now p key (flipped nat_list_cmp_total p.key key (by_order p.key key tie)) ∙ same)

  apart_by_keys : (p : Property) (ps : List Property) → AreApart (each (λ q. q.key) (p ∷ ps)) → AllByRecursion (λ q. eq_by_cmp (slice_cmp nat_cmp) p.key q.key ≡ false) ps
  apart_by_keys p ps apart =
      all_each (λ q. q.key) (λ k. eq_by_cmp (slice_cmp nat_cmp) p.key k ≡ false) ps
      (subst (λ (tie : List ℕ → List ℕ → Bool). AllByRecursion (λ k. tie p.key k ≡ false) (each (λ q. q.key) ps)) (λ i a b. texts_ties a b i) (IsDistinct-head (pointwise nat_eq) p.key (each (λ q. q.key) ps) apart))

  own : (key : List ℕ) (v : Value) (properties : List Property) (now : Graph) → values_at now side id key ≡ values_at graph side id key → AreApart (each (λ q. q.key) properties) → IsOwn key v (after now (changes_of properties)) (property_at properties key)
  own key v [] now same apart = ap (λ s. set.contains s v) same
  own key v (p ∷ ps) now same apart =
      own_at key v p ps now (pointwise nat_eq p.key key) refl same (apart_by_keys p ps apart) (λ later same_later. own key v ps later same_later (IsDistinct-tail (pointwise nat_eq) p.key (each (λ q. q.key) ps) apart))

-- ---- all that the values of one vertex or edge leave as it is

record Keeps (side : Side) (id : List ℕ) (graph next : Graph) : Type 0 where
  labels : next.labels ≡ graph.labels
  edges : next.edges ≡ graph.edges
  values : (other_side : Side) (other key : List ℕ) → (other_side ≡ side → other ≡ id → ⊥) → values_at next other_side other key ≡ values_at graph other_side other key

module _ (id : List ℕ) where
  keeps_all : (side : Side) (graph : Graph) → Keeps side id graph graph
  keeps_all side graph = record { labels = refl; edges = refl; values = λ other_side other key apart. refl }

  keeps_both : (side : Side) (graph middle next : Graph) → Keeps side id graph middle → Keeps side id middle next → Keeps side id graph next
  keeps_both side graph middle next first second = record {
    labels = second.labels ∙ first.labels;
    edges = second.edges ∙ first.edges;
    values = λ other_side other key apart. second.values other_side other key apart ∙ first.values other_side other key apart;
  }

  keeps_one : (side : Side) (graph : Graph) (key : List ℕ) (s : Values) → Keeps side id graph (with_values_at graph side id key s)
  keeps_one Vertex graph key s = record {
    labels = refl;
    edges = refl;
    values = λ other_side other at apart. value_case graph Vertex id key s other_side other at (λ t. t ≡ values_at graph other_side other at) (λ p q r. absurd (apart p q)) refl;
  }
  keeps_one Edge graph key s = record {
    labels = refl;
    edges = refl;
    values = λ other_side other at apart. value_case graph Edge id key s other_side other at (λ t. t ≡ values_at graph other_side other at) (λ p q r. absurd (apart p q)) refl;
  }

  keeps_removals : (side : Side) (key : List ℕ) (graph : Graph) (values : List Value) → Keeps side id graph (after graph (removals side id key values))
  keeps_removals side key graph [] = keeps_all side graph
  keeps_removals side key graph (v ∷ vs) =
      let now : Graph = after_one graph (RemoveValue side id key v) in
      keeps_both side graph now (after now (removals side id key vs)) (keeps_one side graph key (set.remove (values_at graph side id key) v)) (keeps_removals side key now vs)

  keeps_additions : (side : Side) (key : List ℕ) (graph : Graph) (values : List Value) → Keeps side id graph (after graph (additions side id key values))
  keeps_additions side key graph [] = keeps_all side graph
  keeps_additions side key graph (v ∷ vs) =
      let now : Graph = after_one graph (AddValue side id key v) in
      keeps_both side graph now (after now (additions side id key vs)) (keeps_one side graph key (set.insert (values_at graph side id key) v)) (keeps_additions side key now vs)

  -- two lists of changes, one after the other
  keeps_lists : (side : Side) (graph : Graph) (changes more : List Change) → Keeps side id graph (after graph changes) → Keeps side id (after graph changes) (after (after graph changes) more) → Keeps side id graph (after graph (changes ++ more))
  keeps_lists side graph changes more first second =
      subst (Keeps side id graph) (sym (after-append graph changes more)) (keeps_both side graph (after graph changes) (after (after graph changes) more) first second)

  keeps_property : (side : Side) (graph : Graph) (property : Property) (now : Graph) → Keeps side id now (after now (property_changes graph side id property))
  keeps_property side graph property now =
      keeps_lists side now (removals side id property.key (replaced graph side id property)) (additions side id property.key (added graph side id property)) (keeps_removals side property.key now (replaced graph side id property))
      (keeps_additions side property.key (after now (removals side id property.key (replaced graph side id property))) (added graph side id property))

  keeps_properties : (side : Side) (graph : Graph) (properties : List Property) (now : Graph) → Keeps side id now (after now (flat_map (property_changes graph side id) properties))
  keeps_properties side graph [] now = keeps_all side now
  keeps_properties side graph (p ∷ ps) now =
      keeps_lists side now (property_changes graph side id p) (flat_map (property_changes graph side id) ps) (keeps_property side graph p now) (keeps_properties side graph ps (after now (property_changes graph side id p)))

takes_properties : (graph : Graph) (side : Side) (id : List ℕ) (properties : List Property) (now : Graph) → ((other_side : Side) (other key : List ℕ) → values_at now other_side other key ≡ values_at graph other_side other key) → AreApart (each (λ p. p.key) properties) →
    TakesProperties graph side id properties (after now (flat_map (property_changes graph side id) properties))
takes_properties graph side id properties now same apart = record {
  own = λ key v. own graph side id key v properties now (same side id key) apart;
  others = λ other_side other key differs. (keeps_properties id side graph properties now).values other_side other key differs ∙ same other_side other key;
}

-- ---- labels

differs_by : (a b : List ℕ) (tie : Bool) → eq_by_cmp (slice_cmp nat_cmp) a b ≡ tie → (a ≡ b → ⊥) → eq_by_cmp (slice_cmp nat_cmp) a b ≡ false
differs_by a b true is differs = absurd (differs (same_key a b is))
differs_by a b false is differs = is

-- what stands at another key of a map, and at the key
get_apart : {X : Type 0} (m : ByText X) (k : List ℕ) (x : X) (q : List ℕ) → (q ≡ k → ⊥) → map.get (map.insert m k x) q ≡ map.get m q
get_apart m k x q differs = map.get-insert nat_list_cmp_total m k x q ∙ ap (λ b. cond b (Some x) (map.get m q)) (differs_by q k (eq_by_cmp (slice_cmp nat_cmp) q k) refl differs)

get_there : {X : Type 0} (m : ByText X) (k : List ℕ) (x : X) → map.get (map.insert m k x) k ≡ Some x
get_there m k x = map.get-insert nat_list_cmp_total m k x k ∙ ap (λ b. cond b (Some x) (map.get m k)) (itself nat_list_cmp_total k)

values_with_label : (graph : Graph) (id label : List ℕ) (side : Side) (other key : List ℕ) → values_at (after_one graph (AddLabel id label)) side other key ≡ values_at graph side other key
values_with_label graph id label Vertex other key = refl
values_with_label graph id label Edge other key = refl

values_with_edge : (graph : Graph) (id label from to : List ℕ) (side : Side) (other key : List ℕ) → values_at (after_one graph (AddEdge id label from to)) side other key ≡ values_at graph side other key
values_with_edge graph id label from to Vertex other key = refl
values_with_edge graph id label from to Edge other key = refl

module _ (id : List ℕ) where
  labels_after : (graph : Graph) (labels : List (List ℕ)) → labels_of (after graph (labelled id labels)) id ≡ put_all nat_list_cmp_total labels (labels_of graph id)
  labels_after graph [] = refl
  labels_after graph (l ∷ ls) = labels_after (after_one graph (AddLabel id l)) ls ∙ ap (put_all nat_list_cmp_total ls) (labels_with id graph l)

  other_labels : (graph : Graph) (labels : List (List ℕ)) (other : List ℕ) → (other ≡ id → ⊥) → map.get (after graph (labelled id labels)).labels other ≡ map.get graph.labels other
  other_labels graph [] other differs = refl
  other_labels graph (l ∷ ls) other differs = other_labels (after_one graph (AddLabel id l)) ls other differs ∙ get_apart graph.labels id (set.insert (labels_of graph id) l) other differs

  edges_with : (graph : Graph) (labels : List (List ℕ)) → (after graph (labelled id labels)).edges ≡ graph.edges
  edges_with graph [] = refl
  edges_with graph (l ∷ ls) = edges_with (after_one graph (AddLabel id l)) ls

  values_with : (graph : Graph) (labels : List (List ℕ)) (side : Side) (other key : List ℕ) → values_at (after graph (labelled id labels)) side other key ≡ values_at graph side other key
  values_with graph [] side other key = refl
  values_with graph (l ∷ ls) side other key = values_with (after_one graph (AddLabel id l)) ls side other key ∙ values_with_label graph id l side other key

  has_labels : (graph : Graph) (given : List (List ℕ)) (label : List ℕ) → set.contains (labels_of (after graph (labelled id (missing id graph given))) id) label ≡ (set.contains (labels_of graph id) label || is_one_of given label)
  has_labels graph given label =
      ap (λ s. set.contains s label) (labels_after graph (missing id graph given)) ∙ has_put nat_list_cmp_total (missing id graph given) (labels_of graph id) label
      ∙ ap (λ b. set.contains (labels_of graph id) label || b)
      (among_passing nat_list_cmp_total exact_bytes (λ l. not (set.contains (labels_of graph id) l)) label given ∙ ap (λ b. not (set.contains (labels_of graph id) label) && b) (among_texts given label))
      ∙ old_or_new (is_one_of given label) (set.contains (labels_of graph id) label)

-- ---- rows

takes_vertex : (graph : Graph) (id : List ℕ) (labels : List (List ℕ)) (properties : List Property) → AreApart (each (λ p. p.key) properties) → TakesVertex graph id labels properties (after graph (label_changes graph id labels ++ flat_map (property_changes graph Vertex id) properties))
takes_vertex graph id labels properties apart =
    let given : List (List ℕ) = given_labels graph id labels in
    let named : Graph = after graph (labelled id (missing id graph given)) in
    let kept : Keeps Vertex id named (after named (flat_map (property_changes graph Vertex id) properties)) = keeps_properties id Vertex graph properties named in
    subst (TakesVertex graph id labels properties) (sym (after-append graph (label_changes graph id labels) (flat_map (property_changes graph Vertex id) properties)))
    (record {
      there = ap (λ all. map.contains_key all id) kept.labels ∙ owner_by id graph labels (length labels == 0) (has_vertex graph id) refl refl;
      labelled = λ label. ap (λ all. set.contains (texts_at all id) label) kept.labels ∙ has_labels id graph given label;
      values = takes_properties graph Vertex id properties named (values_with id graph (missing id graph given)) apart;
      others = λ other differs. ap (λ all. map.get all other) kept.labels ∙ other_labels id graph (missing id graph given) other differs;
      edges = kept.edges ∙ edges_with id graph (missing id graph given);
    })

takes_edge : (graph : Graph) (id label from to : List ℕ) (properties : List Property) (known : Option Ends) → edge_of graph id ≡ known → edge_refusal graph known label from to ≡ None → AreApart (each (λ p. p.key) properties) →
    TakesEdge graph id label from to properties (after graph (edge_changes known id label from to ++ flat_map (property_changes graph Edge id) properties))
takes_edge graph id label from to properties (Some ends) is allowed apart =
    let kept : Keeps Edge id graph (after graph (flat_map (property_changes graph Edge id) properties)) = keeps_properties id Edge graph properties graph in
    record {
      there = ap (λ all. map.get all id) kept.edges ∙ same_edge graph id label from to ends is allowed;
      values = takes_properties graph Edge id properties graph (λ side other key. refl) apart;
      others = λ other differs. ap (λ all. map.get all other) kept.edges;
      vertices = kept.labels;
    }
takes_edge graph id label from to properties None is allowed apart =
    let now : Graph = after_one graph (AddEdge id label from to) in
    let ends : Ends = record { label = label; from = from; to = to } in
    let kept : Keeps Edge id now (after now (flat_map (property_changes graph Edge id) properties)) = keeps_properties id Edge graph properties now in
    record {
      there = ap (λ all. map.get all id) kept.edges ∙ get_there graph.edges id ends;
      values = takes_properties graph Edge id properties now (values_with_edge graph id label from to) apart;
      others = λ other differs. ap (λ all. map.get all other) kept.edges ∙ get_apart graph.edges id ends other differs;
      vertices = kept.labels;
    }

-- ---- verdicts

taken_changed : (graph : Graph) (row : Row) (changes : List Change) → TakesRow graph row (after graph changes) → IsTaken graph row (changed changes)
taken_changed graph row [] h = h
taken_changed graph row (c ∷ cs) h = h

taken_unless_conflict : (graph : Graph) (row : Row) (found : Option Property) (changes : List Change) → TakesRow graph row (after graph changes) → IsTaken graph row (unless_conflict found changes)
taken_unless_conflict graph row (Some p) changes h = tt
taken_unless_conflict graph row None changes h = taken_changed graph row changes h

taken_unless_refused : (graph : Graph) (row : Row) (refusal : Option LogCode) (verdict : Verdict) → (refusal ≡ None → IsTaken graph row verdict) → IsTaken graph row (unless_refused refusal verdict)
taken_unless_refused graph row (Some code) verdict h = tt
taken_unless_refused graph row None verdict h = h refl

pub admitted_taken : (graph : Graph) (update_single : Bool) (row : Row) → IsProperRow row → IsTaken graph row (admit graph update_single row)
admitted_taken graph update_single (vertex_row id labels properties) proper =
    taken_unless_conflict graph (vertex_row id labels properties) (conflict graph update_single Vertex id properties) (label_changes graph id labels ++ flat_map (property_changes graph Vertex id) properties) (takes_vertex graph id labels properties proper.1.differ)
admitted_taken graph update_single (edge_row id label from to properties) proper =
    taken_unless_refused graph (edge_row id label from to properties) (edge_refusal graph (edge_of graph id) label from to)
    (unless_conflict (conflict graph update_single Edge id properties) (edge_changes (edge_of graph id) id label from to ++ flat_map (property_changes graph Edge id) properties))
    (λ allowed. taken_unless_conflict graph (edge_row id label from to properties) (conflict graph update_single Edge id properties) (edge_changes (edge_of graph id) id label from to ++ flat_map (property_changes graph Edge id) properties)
    (takes_edge graph id label from to properties (edge_of graph id) refl allowed proper.0.differ))
admitted_taken graph update_single (Bad code column) proper = tt
