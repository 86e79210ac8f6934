-- The changes of a valid row are valid, and valid changes keep the values of a graph valid.
use Rattle.std.specs.Prelude.{◌≡◌, ◌==◌, ◌<◌, ℕ, Bool, true, false, not, ◌&&◌, ◌||◌, cond, codes, List, [], ◌∷◌, ◌++◌, filter, map as each, length, Some, None, refl}
use Rattle.std.specs.declared.option.Option.{Option}
use Rattle.std.specs.List.{All, flat_map}
use Rattle.std.proofs.Common.{sym, ap, subst, ◌∙◌, arith}
use Rattle.std.proofs.lemmas.Bool.{false≢true}
use Rattle.std.proofs.lemmas.Str.{IsUtf8-from_ascii}
use Rattle.std.proofs.lemmas.Str.Ascii.{IsAscii-from_all}
use Rattle.std.proofs.lemmas.List.Concat.{flat_map-cons}
use Rattle.std.proofs.lemmas.List.Elements.{All-nil, All-cons, All-head, All-tail, All-same, All-append, All-map, All-filter, All-weaker, All-from_recursion}
use Rattle.std.specs.Ordering.{eq_by_cmp}
use Rattle.std.specs.Cmp.{Equal-is}
use Rattle.bl_outside.specs.OrderedSet as set
use Rattle.bl_outside.proofs.Finite.{contains-empty, contains-insert, contains-remove}
use Rattle.bl_value.specs.Order.{value_cmp}
use Rattle.bl_value.specs.Valid.{IsChange, IsId, IsValue}
use Rattle.bl_value.specs.ValidRows.{IsProperty, IsRow}
use Rattle.bl_value.specs.declared.value.Value.{Value}
use Rattle.bl_value.specs.declared.column.Side.{Side}
use Rattle.bl_value.specs.declared.column.Side.TheVariants.{Vertex, Edge}
use Rattle.bl_value.specs.declared.change.Change.{Change}
use Rattle.bl_value.specs.declared.change.Change.TheVariants.{AddLabel, AddEdge, AddValue, RemoveValue}
use Rattle.bl_value.specs.declared.log_code.LogCode.{LogCode}
use Rattle.bl_value.specs.declared.row.Property.{Property}
use Rattle.bl_value.specs.declared.row.Row.{Row}
use Rattle.bl_value.specs.declared.row.Row.TheVariants.{Vertex as vertex_row, Edge as edge_row, Bad}
use Rattle.bl_graph.specs.declared.verdict.Verdict.{Verdict}
use Rattle.bl_graph.specs.Graph.{Graph, Ends, Values, empty, has_vertex, labels_of, edge_of, values_at}
use Rattle.bl_graph.specs.Replay.{with_values_at, after_one, after}
use Rattle.bl_graph.specs.Admission.{added, admit, conflict, edge_changes, edge_refusal, given_labels, is_among, label_changes, property_changes, replaced, unless_conflict, unless_refused}
use Rattle.bl_graph.specs.ValidChanges.{AreValidChanges, HasValidValues}
use Rattle.bl_graph.proofs.Apart.{all_map, items_there}
use Rattle.bl_graph.proofs.Fitting.{fits_later}
use Rattle.bl_graph.proofs.Validity.{empty_at, value_case}
use Rattle.bl_graph.proofs.ValueOrder.{exact_values, value_cmp_total}

-- ---- values after changes

-- a set with one more valid value
valid_with : (s : Values) (v w : Value) (tie : Bool) → eq_by_cmp value_cmp w v ≡ tie → IsValue v → (set.contains s w ≡ true → IsValue w) → (tie || set.contains s w) ≡ true → IsValue w
valid_with s v w true same is old there = subst IsValue (sym (exact_values w v ((Equal-is (value_cmp w v)).0 same))) is
valid_with s v w false same is old there = old there

module _ (graph : Graph) (valid : HasValidValues graph) where
  -- other valid values at one key
  values_with : (side : Side) (id key : List ℕ) (s : Values) → ((v : Value) → set.contains s v ≡ true → IsValue v) → HasValidValues (with_values_at graph side id key s)
  values_with side id key s all side2 id2 key2 v = value_case graph side id key s side2 id2 key2 (λ values. set.contains values v ≡ true → IsValue v) (λ p q r. all v) (valid side2 id2 key2 v)

  values_with_label : (id label : List ℕ) → HasValidValues (after_one graph (AddLabel id label))
  values_with_label id label Vertex = valid Vertex
  values_with_label id label Edge = valid Edge

  values_with_edge : (id label from to : List ℕ) → HasValidValues (after_one graph (AddEdge id label from to))
  values_with_edge id label from to Vertex = valid Vertex
  values_with_edge id label from to Edge = valid Edge

  values_after_one : (change : Change) → IsChange change → HasValidValues (after_one graph change)
  values_after_one (AddLabel id label) is = values_with_label id label
  values_after_one (AddEdge id label from to) is = values_with_edge id label from to
  values_after_one (AddValue side id key v) is =
      let s : Values = values_at graph side id key in
      values_with side id key (set.insert s v) (λ w there. valid_with s v w (eq_by_cmp value_cmp w v) refl is.1.1 (valid side id key w) (sym (contains-insert value_cmp_total s v w) ∙ there))
  values_after_one (RemoveValue side id key v) is =
      let s : Values = values_at graph side id key in
      values_with side id key (set.remove s v) (λ w there. valid side id key w (fits_later (not (eq_by_cmp value_cmp w v)) (set.contains s w) (sym (contains-remove value_cmp_total s v w) ∙ there)))

-- valid changes keep the values of a graph valid
pub values_after : (graph : Graph) (changes : List Change) → HasValidValues graph → All IsChange changes → HasValidValues (after graph changes)
values_after graph [] valid all = valid
values_after graph (change ∷ changes) valid all =
    values_after (after_one graph change) changes (values_after_one graph valid change (All-head IsChange change changes all)) (All-tail IsChange change changes all)

-- the graph without anything has no value that isn't valid
pub values_of_empty : HasValidValues empty
values_of_empty side id key v h = absurd (false≢true (sym (ap (λ s. set.contains s v) (empty_at side id key) ∙ contains-empty value_cmp v) ∙ h))

-- ---- labels

-- one of two lists
all_of_two : {X : Type 0} (P : X → Type 0) (test : Bool) (xs ys : List X) → All P xs → All P ys → All P (cond test xs ys)
all_of_two P true xs ys first second = first
all_of_two P false xs ys first second = second

-- `vertex` is a label
vertex_label : IsId (codes "vertex")
vertex_label = record {
  utf8 = IsUtf8-from_ascii (codes "vertex") (IsAscii-from_all (codes "vertex") (All-from_recursion (λ byte. byte < 128) (codes "vertex") (omega arith, (omega arith, (omega arith, (omega arith, (omega arith, (omega arith, tt))))))));
  some = omega arith;
  short = omega arith;
}

given_are_labels : (graph : Graph) (id : List ℕ) (labels : List (List ℕ)) → All IsId labels → All IsId (given_labels graph id labels)
given_are_labels graph id labels ids =
    all_of_two IsId (length labels == 0 && not (has_vertex graph id)) (codes "vertex" ∷ []) labels (All-cons IsId (codes "vertex") [] vertex_label (All-nil IsId)) ids

valid_labels : (graph : Graph) (id : List ℕ) (labels : List (List ℕ)) → IsId id → All IsId labels → All IsChange (label_changes graph id labels)
valid_labels graph id labels is ids =
    All-map IsChange (λ label. AddLabel id label) (filter (λ label. not (set.contains (labels_of graph id) label)) (given_labels graph id labels))
    (All-filter (λ label. not (set.contains (labels_of graph id) label)) (λ label. IsChange (AddLabel id label)) (given_labels graph id labels)
    (All-weaker IsId (λ label. IsChange (AddLabel id label)) (λ label of. (is, of)) (given_labels graph id labels) (given_are_labels graph id labels ids)))

-- ---- properties

module _ (graph : Graph) (valid : HasValidValues graph) (side : Side) (id : List ℕ) (is : IsId id) where
  -- what a single value takes the place of was in the graph
  valid_replaced : (property : Property) → All IsValue (replaced graph side id property)
  valid_replaced property =
      let s : Values = values_at graph side id property.key in
      all_of_two IsValue property.single (filter (λ value. not (is_among property.values value)) (set.items s)) []
      (All-filter (λ value. not (is_among property.values value)) IsValue (set.items s)
      (All-from_recursion IsValue (set.items s) (all_map (λ v there. valid side id property.key v there) (set.items s) (items_there value_cmp_total s)))) (All-nil IsValue)

  valid_removals : (property : Property) → IsProperty property → All IsChange (each (λ value. RemoveValue side id property.key value) (replaced graph side id property))
  valid_removals property of =
      All-map IsChange (λ value. RemoveValue side id property.key value) (replaced graph side id property)
      (All-weaker IsValue (λ value. IsChange (RemoveValue side id property.key value)) (λ value in_range. (is, (of.key, in_range))) (replaced graph side id property) (valid_replaced property))

  valid_additions : (property : Property) → IsProperty property → All IsChange (each (λ value. AddValue side id property.key value) (added graph side id property))
  valid_additions property of =
      All-map IsChange (λ value. AddValue side id property.key value) (added graph side id property)
      (All-filter (λ value. not (set.contains (values_at graph side id property.key) value)) (λ value. IsChange (AddValue side id property.key value)) property.values
      (All-weaker IsValue (λ value. IsChange (AddValue side id property.key value)) (λ value in_range. (is, (of.key, in_range))) property.values of.each))

  valid_properties : (properties : List Property) → All IsProperty properties → All IsChange (flat_map (property_changes graph side id) properties)
  valid_properties [] are = All-nil IsChange
  valid_properties (property ∷ properties) are =
      let of : IsProperty property = All-head IsProperty property properties are in
      All-same IsChange (flat_map (property_changes graph side id) (property ∷ properties)) (property_changes graph side id property ++ flat_map (property_changes graph side id) properties)
      (flat_map-cons (property_changes graph side id) property properties)
      (All-append IsChange (property_changes graph side id property) (flat_map (property_changes graph side id) properties)
      (All-append IsChange (each (λ value. RemoveValue side id property.key value) (replaced graph side id property)) (each (λ value. AddValue side id property.key value) (added graph side id property)) (valid_removals property of) (valid_additions property of))
      (valid_properties properties (All-tail IsProperty property properties are)))

-- ---- rows

valid_edge_changes : (known : Option Ends) (id label from to : List ℕ) → IsId id → IsId label → IsId from → IsId to → All IsChange (edge_changes known id label from to)
valid_edge_changes (Some ends) id label from to is of start end = All-nil IsChange
valid_edge_changes None id label from to is of start end = All-cons IsChange (AddEdge id label from to) [] (is, (of, (start, end))) (All-nil IsChange)

valid_unless_conflict : (found : Option Property) (changes : List Change) → All IsChange changes → AreValidChanges (unless_conflict found changes)
valid_unless_conflict (Some property) changes all = tt
valid_unless_conflict None [] all = tt
valid_unless_conflict None (change ∷ changes) all = all

valid_unless_refused : (refusal : Option LogCode) (verdict : Verdict) → AreValidChanges verdict → AreValidChanges (unless_refused refusal verdict)
valid_unless_refused (Some code) verdict all = tt
valid_unless_refused None verdict all = all

pub rows_give_valid_changes : (graph : Graph) (update_single : Bool) (row : Row) → IsRow row → HasValidValues graph → AreValidChanges (admit graph update_single row)
rows_give_valid_changes graph update_single (vertex_row id labels properties) is valid =
    valid_unless_conflict (conflict graph update_single Vertex id properties) (label_changes graph id labels ++ flat_map (property_changes graph Vertex id) properties)
    (All-append IsChange (label_changes graph id labels) (flat_map (property_changes graph Vertex id) properties)
    (valid_labels graph id labels is.0 is.1.each) (valid_properties graph valid Vertex id is.0 properties is.2.each))
rows_give_valid_changes graph update_single (edge_row id label from to properties) is valid =
    valid_unless_refused (edge_refusal graph (edge_of graph id) label from to)
    (unless_conflict (conflict graph update_single Edge id properties) (edge_changes (edge_of graph id) id label from to ++ flat_map (property_changes graph Edge id) properties))
    (valid_unless_conflict (conflict graph update_single Edge id properties) (edge_changes (edge_of graph id) id label from to ++ flat_map (property_changes graph Edge id) properties)
    (All-append IsChange (edge_changes (edge_of graph id) id label from to) (flat_map (property_changes graph Edge id) properties)
    (valid_edge_changes (edge_of graph id) id label from to is.0 is.1 is.2 is.3) (valid_properties graph valid Edge id is.0 properties is.4.each)))
rows_give_valid_changes graph update_single (Bad code column) is valid = tt
