-- The changes of a proper row fit.
use Rattle.std.specs.Prelude.{◌≡◌, ◌==◌, ℕ, Bool, true, false, not, ◌&&◌, cond, if◌then◌else◌, codes, List, [], ◌∷◌, ◌++◌, filter, map as each, length, Some, None, is_some, is_none, refl}
use Rattle.std.specs.declared.option.Option.{Option}
use Rattle.std.specs.Option.{unwrap_or}
use Rattle.std.specs.List.{AllByRecursion, IsDistinct, flat_map}
use Rattle.std.proofs.Common.{sym, ap, ◌∙◌}
use Rattle.std.proofs.lemmas.Bool.{false≢true}
use Rattle.std.proofs.lemmas.Map.Keys.{IsDistinct-head, IsDistinct-tail, IsDistinct-cons}
use Rattle.std.specs.Ordering.{nat_cmp, eq_by_cmp}
use Rattle.std.specs.Cmp.Lexicographic.{slice_cmp, nat_list_cmp_total}
use Rattle.std.specs.FinMap as map
use Rattle.bl_outside.specs.OrderedSet as set
use Rattle.bl_outside.proofs.Finite.{contains-empty}
use Rattle.bl_value.specs.declared.column.Side.TheVariants.{Vertex, Edge}
use Rattle.bl_value.specs.declared.change.Change.{Change}
use Rattle.bl_value.specs.declared.change.Change.TheVariants.{AddLabel, AddEdge}
use Rattle.bl_value.specs.declared.log_code.LogCode.{LogCode}
use Rattle.bl_value.specs.declared.log_code.LogCode.TheVariants.{FromMissing, ToMissing}
use Rattle.bl_value.specs.declared.row.Property.{Property}
use Rattle.bl_value.specs.declared.row.Row.{Row}
use Rattle.bl_value.specs.declared.row.Row.TheVariants.{Vertex as vertex_row, Edge as edge_row, Bad}
use Rattle.bl_value.specs.ValidRows.{AreApart}
use Rattle.bl_graph.specs.declared.verdict.Verdict.{Verdict}
use Rattle.bl_graph.specs.Graph.{Graph, Texts, Ends, has_vertex, labels_of, edge_of, values_at}
use Rattle.bl_graph.specs.Replay.{after_one, after, fit}
use Rattle.bl_graph.specs.Admission.{property_changes, label_changes, edge_changes, edge_refusal, changed, unless_conflict, unless_refused, conflict, admit}
use Rattle.bl_graph.specs.Admitted.{IsProper, AreProper, IsProperRow, DoesFit}
use Rattle.bl_graph.proofs.Maps.{itself}
use Rattle.bl_graph.proofs.Apart.{all_two, apart_filter, failing, still_missing}
use Rattle.bl_graph.proofs.Fitting.{fit_more}
use Rattle.bl_graph.proofs.FittingRows.{none_apart, apart_by_order, by_recursion, fit_properties, all_same, any_on_vertex}

-- ---- labels

module _ (id : List ℕ) where
  abbrev pub labelled : List (List ℕ) → List Change
  labelled labels = each (λ label. AddLabel id label) labels

  pub labels_with : (graph : Graph) (label : List ℕ) → labels_of (after_one graph (AddLabel id label)) id ≡ set.insert (labels_of graph id) label
  labels_with graph label =
      ap (λ (o : Option Texts). unwrap_or o set.empty)
      (map.get-insert nat_list_cmp_total graph.labels id (set.insert (labels_of graph id) label) id ∙ ap (λ b. cond b (Some (set.insert (labels_of graph id) label)) (map.get graph.labels id)) (itself nat_list_cmp_total id))

  vertex_with : (graph : Graph) (label : List ℕ) → has_vertex (after_one graph (AddLabel id label)) id ≡ true
  vertex_with graph label =
      ap is_some (map.get-insert nat_list_cmp_total graph.labels id (set.insert (labels_of graph id) label) id ∙ ap (λ b. cond b (Some (set.insert (labels_of graph id) label)) (map.get graph.labels id)) (itself nat_list_cmp_total id))

  fit_labels : (graph : Graph) (labels : List (List ℕ)) → AllByRecursion (λ l. set.contains (labels_of graph id) l ≡ false) labels → IsDistinct (eq_by_cmp (slice_cmp nat_cmp)) labels → fit graph (labelled labels) ≡ true
  fit_labels graph [] missing apart = refl
  fit_labels graph (l ∷ ls) missing apart =
      let now : Graph = after_one graph (AddLabel id l) in
      λ i. not (missing.0 i) && fit_labels now ls (all_two (λ m differs h. ap (λ s. set.contains s m) (labels_with graph l) ∙ still_missing nat_list_cmp_total (labels_of graph id) l m differs h) ls (IsDistinct-head (eq_by_cmp (slice_cmp nat_cmp)) l ls apart) missing.1) (IsDistinct-tail (eq_by_cmp (slice_cmp nat_cmp)) l ls apart) i

  known_stays : (graph : Graph) (labels : List (List ℕ)) → has_vertex graph id ≡ true → has_vertex (after graph (labelled labels)) id ≡ true
  known_stays graph [] known = known
  known_stays graph (l ∷ ls) known = known_stays (after_one graph (AddLabel id l)) ls (vertex_with graph l)

  values_stay : (graph : Graph) (labels : List (List ℕ)) (properties : List Property) → AllByRecursion (λ p. values_at (after graph (labelled labels)) Vertex id p.key ≡ values_at graph Vertex id p.key) properties
  values_stay graph [] properties = all_same graph Vertex id properties
  values_stay graph (l ∷ ls) properties = values_stay (after_one graph (AddLabel id l)) ls properties

  none_of : (o : Option Texts) → is_some o ≡ false → o ≡ None
  none_of None h = refl
  none_of (Some x) h = absurd (false≢true (sym h))

  -- the labels that aren't there
  abbrev pub missing : Graph → List (List ℕ) → List (List ℕ)
  missing graph labels = filter (λ label. not (set.contains (labels_of graph id) label)) labels

  new_has : (graph : Graph) (l : List ℕ) (ls : List (List ℕ)) → has_vertex graph id ≡ false → has_vertex (after graph (labelled (missing graph (l ∷ ls)))) id ≡ true
  new_has graph l ls new =
      ap (λ b. has_vertex (after graph (labelled (cond (not b) (l ∷ missing graph ls) (missing graph ls)))) id)
      (ap (λ (o : Option Texts). set.contains (unwrap_or o set.empty) l) (none_of (map.get graph.labels id) new) ∙ contains-empty (slice_cmp nat_cmp) l)
      ∙ known_stays (after_one graph (AddLabel id l)) (missing graph ls) (vertex_with graph l)

  pub owner_by : (graph : Graph) (labels : List (List ℕ)) (none known : Bool) → (length labels == 0) ≡ none → has_vertex graph id ≡ known → has_vertex (after graph (labelled (missing graph (if none && not known then codes "vertex" ∷ [] else labels)))) id ≡ true
  owner_by graph labels true true none known = known_stays graph (missing graph labels) known
  owner_by graph labels false true none known = known_stays graph (missing graph labels) known
  owner_by graph labels true false none known = new_has graph (codes "vertex") [] known
  owner_by graph [] false false none known = absurd (false≢true (sym none))
  owner_by graph (l ∷ ls) false false none known = new_has graph l ls known

  given_apart : (labels : List (List ℕ)) (new : Bool) → AreApart labels → IsDistinct (eq_by_cmp (slice_cmp nat_cmp)) (if new then codes "vertex" ∷ [] else labels)
  given_apart labels true apart = IsDistinct-cons (eq_by_cmp (slice_cmp nat_cmp)) (codes "vertex") [] tt (none_apart (eq_by_cmp (slice_cmp nat_cmp)))
  given_apart labels false apart = apart_by_order labels apart

  pub fit_vertex_row : (graph : Graph) (labels : List (List ℕ)) (properties : List Property) → AreApart labels → AreProper properties → fit graph (label_changes graph id labels ++ flat_map (property_changes graph Vertex id) properties) ≡ true
  fit_vertex_row graph labels properties apart proper =
      let given : List (List ℕ) = if length labels == 0 && not (has_vertex graph id) then codes "vertex" ∷ [] else labels in
      fit_more graph (label_changes graph id labels) (flat_map (property_changes graph Vertex id) properties)
      (fit_labels graph (missing graph given) (failing (set.contains (labels_of graph id)) given)
      (apart_filter (eq_by_cmp (slice_cmp nat_cmp)) (λ label. not (set.contains (labels_of graph id) label)) given (given_apart labels (length labels == 0 && not (has_vertex graph id)) apart)))
      (fit_properties graph Vertex id properties (after graph (label_changes graph id labels)) (values_stay graph (missing graph given) properties)
      (owner_by graph labels (length labels == 0) (has_vertex graph id) refl refl) (by_recursion IsProper properties proper.each) (any_on_vertex properties) proper.differ)

-- ---- edges

fit_known_edge : (graph : Graph) (id : List ℕ) (ends : Ends) → edge_of graph id ≡ Some ends → (properties : List Property) → AreProper properties → AllByRecursion (λ p. p.single ≡ true) properties → fit graph (flat_map (property_changes graph Edge id) properties) ≡ true
fit_known_edge graph id ends known properties proper single =
    fit_properties graph Edge id properties graph (all_same graph Edge id properties) (ap is_some known) (by_recursion IsProper properties proper.each) single proper.differ

ends_there : (a b : Bool) → (if not a then Some FromMissing else (if not b then Some ToMissing else None)) ≡ None → (a ≡ true) × (b ≡ true)
ends_there true true h = (refl, refl)
ends_there false b h = absurd (false≢true (ap is_none h))
ends_there true false h = absurd (false≢true (ap is_none h))

fit_new_edge : (graph : Graph) (id label from to : List ℕ) → edge_of graph id ≡ None → edge_refusal graph None label from to ≡ None → (properties : List Property) → AreProper properties → AllByRecursion (λ p. p.single ≡ true) properties →
    fit graph (AddEdge id label from to ∷ flat_map (property_changes graph Edge id) properties) ≡ true
fit_new_edge graph id label from to new allowed properties proper single =
    let now : Graph = after_one graph (AddEdge id label from to) in
    let ends : Ends = record { label = label; from = from; to = to } in
    let both : (has_vertex graph from ≡ true) × (has_vertex graph to ≡ true) = ends_there (has_vertex graph from) (has_vertex graph to) allowed in
    λ i. (ap is_none new i && both.0 i && both.1 i)
    && fit_properties graph Edge id properties now (all_same graph Edge id properties)
    (ap is_some (map.get-insert nat_list_cmp_total graph.edges id ends id ∙ ap (λ b. cond b (Some ends) (map.get graph.edges id)) (itself nat_list_cmp_total id))) (by_recursion IsProper properties proper.each) single proper.differ i

fit_edge_row : (graph : Graph) (id label from to : List ℕ) (known : Option Ends) → edge_of graph id ≡ known → edge_refusal graph known label from to ≡ None → (properties : List Property) → AreProper properties → AllByRecursion (λ p. p.single ≡ true) properties →
    fit graph (edge_changes known id label from to ++ flat_map (property_changes graph Edge id) properties) ≡ true
fit_edge_row graph id label from to (Some ends) is allowed = fit_known_edge graph id ends is
fit_edge_row graph id label from to None is allowed = fit_new_edge graph id label from to is allowed

-- ---- verdicts

fits_changed : (graph : Graph) (changes : List Change) → fit graph changes ≡ true → DoesFit graph (changed changes)
fits_changed graph [] h = tt
fits_changed graph (c ∷ cs) h = h

fits_unless_conflict : (graph : Graph) (found : Option Property) (changes : List Change) → fit graph changes ≡ true → DoesFit graph (unless_conflict found changes)
fits_unless_conflict graph (Some p) changes h = tt
fits_unless_conflict graph None changes h = fits_changed graph changes h

fits_unless_refused : (graph : Graph) (refusal : Option LogCode) (verdict : Verdict) → (refusal ≡ None → DoesFit graph verdict) → DoesFit graph (unless_refused refusal verdict)
fits_unless_refused graph (Some code) verdict h = tt
fits_unless_refused graph None verdict h = h refl

pub admitted_fits : (graph : Graph) (update_single : Bool) (row : Row) → IsProperRow row → DoesFit graph (admit graph update_single row)
admitted_fits graph update_single (vertex_row id labels properties) proper =
    fits_unless_conflict graph (conflict graph update_single Vertex id properties) (label_changes graph id labels ++ flat_map (property_changes graph Vertex id) properties) (fit_vertex_row id graph labels properties proper.0 proper.1)
admitted_fits graph update_single (edge_row id label from to properties) proper =
    fits_unless_refused graph (edge_refusal graph (edge_of graph id) label from to)
    (unless_conflict (conflict graph update_single Edge id properties) (edge_changes (edge_of graph id) id label from to ++ flat_map (property_changes graph Edge id) properties))
    (λ allowed. fits_unless_conflict graph (conflict graph update_single Edge id properties) (edge_changes (edge_of graph id) id label from to ++ flat_map (property_changes graph Edge id) properties)
    (fit_edge_row graph id label from to (edge_of graph id) refl allowed properties proper.0 (by_recursion (λ p. p.single ≡ true) properties proper.1)))
admitted_fits graph update_single (Bad code column) proper = tt
