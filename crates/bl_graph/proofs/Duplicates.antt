-- A duplicate says nothing new.
use Rattle.std.specs.Prelude.{◌≡◌, ◌==◌, ℕ, Bool, true, false, not, ◌&&◌, ◌||◌, cond, if◌then◌else◌, nat_eq, codes, List, [], ◌∷◌, ◌++◌, filter, map as each, length, Some, None, is_none, refl}
use Rattle.std.specs.declared.option.Option.{Option}
use Rattle.std.specs.List.{All, AllByRecursion, list_any, flat_map}
use Rattle.std.proofs.Common.{sym, ap, subst, ◌∙◌, arith}
use Rattle.std.proofs.lemmas.Bool.{false≢true}
use Rattle.std.proofs.lemmas.List.Elements.{All-cons}
use Rattle.std.proofs.lemmas.Map.Lookups.{exact_bytes}
use Rattle.std.specs.Ordering.{eq_by_cmp}
use Rattle.std.specs.Cmp.{Equal-is}
use Rattle.std.specs.Cmp.Lexicographic.{pointwise, texts_ties}
use Rattle.std.specs.FinMap as map
use Rattle.bl_outside.specs.OrderedSet as set
use Rattle.bl_value.specs.Order.{value_cmp}
use Rattle.bl_value.specs.declared.value.Value.{Value}
use Rattle.bl_value.specs.declared.column.Side.{Side}
use Rattle.bl_value.specs.declared.column.Side.TheVariants.{Vertex, Edge}
use Rattle.bl_value.specs.declared.change.Change.{Change}
use Rattle.bl_value.specs.declared.log_code.LogCode.{LogCode}
use Rattle.bl_value.specs.declared.log_code.LogCode.TheVariants.{EdgeConflict}
use Rattle.bl_value.specs.declared.row.Property.{Property}
use Rattle.bl_value.specs.declared.row.Row.{Row}
use Rattle.bl_value.specs.declared.row.Row.TheVariants.{Vertex as vertex_row, Edge as edge_row, Bad}
use Rattle.bl_graph.specs.declared.verdict.Verdict.{Verdict}
use Rattle.bl_graph.specs.Graph.{Graph, Ends, has_vertex, labels_of, edge_of, values_at}
use Rattle.bl_graph.specs.Replay.{after}
use Rattle.bl_graph.specs.Admission.{is_among, replaced, added, property_changes, label_changes, edge_changes, edge_refusal, changed, unless_conflict, unless_refused, conflict, admit}
use Rattle.bl_graph.specs.Admitted.{HasProperty, HasRow, SaysNothingNew}
use Rattle.bl_graph.proofs.ValueOrder.{exact_values}
use Rattle.bl_graph.proofs.Fitting.{removals, additions}
use Rattle.bl_graph.proofs.Admitted.{missing, owner_by}

abbrev begins : {X : Type 0} → List X → Bool
begins [] = false
begins (x ∷ xs) = true

no_first : {X : Type 0} (x : X) (xs : List X) → (x ∷ xs) ≡ [] → ⊥
no_first x xs h = false≢true (sym (ap begins h))

nothing_in : {X Y : Type 0} (f : X → Y) (xs : List X) → each f xs ≡ [] → xs ≡ []
nothing_in f [] h = refl
nothing_in f (x ∷ xs) h = absurd (no_first (f x) (each f xs) h)

first_nothing : {X : Type 0} (xs ys : List X) → xs ++ ys ≡ [] → xs ≡ []
first_nothing [] ys h = refl
first_nothing (x ∷ xs) ys h = absurd (no_first x (xs ++ ys) h)

later_nothing : {X : Type 0} (xs ys : List X) → xs ++ ys ≡ [] → ys ≡ []
later_nothing [] ys h = h
later_nothing (x ∷ xs) ys h = absurd (no_first x (xs ++ ys) h)

to_all : {X : Type 0} (P : X → Type 0) (xs : List X) → AllByRecursion P xs → All P xs
to_all P [] h = λ k d less. absurd (omega arith)
to_all P (x ∷ xs) h = All-cons P x xs h.0 (to_all P xs h.1)

all_pass_at : {X : Type 0} (p : X → Bool) (x : X) (b : Bool) (xs : List X) → p x ≡ b → cond (not b) (x ∷ filter (λ y. not (p y)) xs) (filter (λ y. not (p y)) xs) ≡ [] → (filter (λ y. not (p y)) xs ≡ [] → AllByRecursion (λ y. p y ≡ true) xs) → AllByRecursion (λ y. p y ≡ true) (x ∷ xs)
all_pass_at p x true xs is h later = (is, later h)
all_pass_at p x false xs is h later = absurd (no_first x (filter (λ y. not (p y)) xs) h)

-- where none fails all pass
all_pass : {X : Type 0} (p : X → Bool) (xs : List X) → filter (λ y. not (p y)) xs ≡ [] → AllByRecursion (λ y. p y ≡ true) xs
all_pass p [] h = tt
all_pass p (x ∷ xs) h = all_pass_at p x (p x) xs refl h (all_pass p xs)

passes_at : (p : Value → Bool) (v x : Value) (b : Bool) (xs : List Value) → eq_by_cmp value_cmp v x ≡ b → p x ≡ true → (b || list_any (eq_by_cmp value_cmp v) xs) ≡ true → (list_any (eq_by_cmp value_cmp v) xs ≡ true → p v ≡ true) → p v ≡ true
passes_at p v x true xs tie passes h later = ap p (exact_values v x ((Equal-is (value_cmp v x)).0 tie)) ∙ passes
passes_at p v x false xs tie passes h later = later h

-- one among those that pass passes
passes : (p : Value → Bool) (v : Value) (xs : List Value) → AllByRecursion (λ x. p x ≡ true) xs → list_any (eq_by_cmp value_cmp v) xs ≡ true → p v ≡ true
passes p v [] all h = absurd (false≢true h)
passes p v (x ∷ xs) all h = passes_at p v x (eq_by_cmp value_cmp v x) xs refl all.0 h (passes p v xs all.1)

has_property : (graph : Graph) (side : Side) (id : List ℕ) (property : Property) → property_changes graph side id property ≡ [] → HasProperty graph side id property
has_property graph side id property none =
    let s = values_at graph side id property.key in
    let no_removal : replaced graph side id property ≡ [] = nothing_in _ (replaced graph side id property) (first_nothing (removals side id property.key (replaced graph side id property)) (additions side id property.key (added graph side id property)) none) in
    let no_addition : added graph side id property ≡ [] = nothing_in _ (added graph side id property) (later_nothing (removals side id property.key (replaced graph side id property)) (additions side id property.key (added graph side id property)) none) in
    record {
      has = to_all (λ value. set.contains s value ≡ true) property.values (all_pass (set.contains s) property.values no_addition);
      only = λ single value there. passes (is_among property.values) value (set.items s)
          (all_pass (is_among property.values) (set.items s) (ap (λ b. if b then filter (λ value. not (is_among property.values value)) (set.items s) else []) (sym single) ∙ no_removal))
          (sym (map.contains_key-keys s value) ∙ there);
    }

has_properties : (graph : Graph) (side : Side) (id : List ℕ) (properties : List Property) → flat_map (property_changes graph side id) properties ≡ [] → AllByRecursion (HasProperty graph side id) properties
has_properties graph side id [] none = tt
has_properties graph side id (p ∷ ps) none =
    (has_property graph side id p (first_nothing (property_changes graph side id p) (flat_map (property_changes graph side id) ps) none), has_properties graph side id ps (later_nothing (property_changes graph side id p) (flat_map (property_changes graph side id) ps) none))

known_given : (labels : List (List ℕ)) (none : Bool) → (if none && not true then codes "vertex" ∷ [] else labels) ≡ labels
known_given labels true = refl
known_given labels false = refl

has_vertex_row : (graph : Graph) (id : List ℕ) (labels : List (List ℕ)) (properties : List Property) → label_changes graph id labels ++ flat_map (property_changes graph Vertex id) properties ≡ [] → HasRow graph (vertex_row id labels properties)
has_vertex_row graph id labels properties none =
    let given : List (List ℕ) = if length labels == 0 && not (has_vertex graph id) then codes "vertex" ∷ [] else labels in
    let no_label : label_changes graph id labels ≡ [] = first_nothing (label_changes graph id labels) (flat_map (property_changes graph Vertex id) properties) none in
    let known : has_vertex graph id ≡ true = sym (ap (λ cs. has_vertex (after graph cs) id) no_label) ∙ owner_by id graph labels (length labels == 0) (has_vertex graph id) refl refl in (
      known,
      to_all (λ label. set.contains (labels_of graph id) label ≡ true) labels
          (subst (AllByRecursion (λ label. set.contains (labels_of graph id) label ≡ true)) (ap (λ b. if length labels == 0 && not b then codes "vertex" ∷ [] else labels) known ∙ known_given labels (length labels == 0))
          (all_pass (set.contains (labels_of graph id)) given (nothing_in _ (missing id graph given) no_label))),
      to_all (HasProperty graph Vertex id) properties (has_properties graph Vertex id properties (later_nothing (label_changes graph id labels) (flat_map (property_changes graph Vertex id) properties) none)),
    )

pub same_text : (a b : List ℕ) → pointwise nat_eq a b ≡ true → a ≡ b
same_text a b h = exact_bytes a b ((Equal-is _).0 (sym (texts_ties a b) ∙ h))

three : (a b c : Bool) → (if a && b && c then None else Some EdgeConflict) ≡ None → (a ≡ true) × (b ≡ true) × (c ≡ true)
three true true true h = (refl, refl, refl)
three true true false h = absurd (false≢true (ap is_none h))
three true false c h = absurd (false≢true (ap is_none h))
three false b c h = absurd (false≢true (ap is_none h))

-- an edge that isn't refused is the one that is there
pub same_edge : (graph : Graph) (id label from to : List ℕ) (ends : Ends) → edge_of graph id ≡ Some ends → edge_refusal graph (Some ends) label from to ≡ None → edge_of graph id ≡ Some (record { label = label; from = from; to = to })
same_edge graph id label from to ends is allowed =
    let same : (pointwise nat_eq ends.label label ≡ true) × (pointwise nat_eq ends.from from ≡ true) × (pointwise nat_eq ends.to to ≡ true) = three (pointwise nat_eq ends.label label) (pointwise nat_eq ends.from from) (pointwise nat_eq ends.to to) allowed in
    is ∙ (λ i. Some (record { label = same_text ends.label label same.0 i; from = same_text ends.from from same.1 i; to = same_text ends.to to same.2 i }))

has_edge_row : (graph : Graph) (id label from to : List ℕ) (known : Option Ends) (properties : List Property) → edge_of graph id ≡ known → edge_refusal graph known label from to ≡ None → edge_changes known id label from to ++ flat_map (property_changes graph Edge id) properties ≡ [] → HasRow graph (edge_row id label from to properties)
has_edge_row graph id label from to None properties is allowed none = absurd (no_first _ (flat_map (property_changes graph Edge id) properties) none)
has_edge_row graph id label from to (Some ends) properties is allowed none =
    (same_edge graph id label from to ends is allowed, to_all (HasProperty graph Edge id) properties (has_properties graph Edge id properties none))

-- ---- verdicts

nothing_changed : (graph : Graph) (row : Row) (changes : List Change) → (changes ≡ [] → HasRow graph row) → SaysNothingNew graph row (changed changes)
nothing_changed graph row [] h = h refl
nothing_changed graph row (c ∷ cs) h = tt

unless_conflict_nothing : (graph : Graph) (row : Row) (found : Option Property) (changes : List Change) → (changes ≡ [] → HasRow graph row) → SaysNothingNew graph row (unless_conflict found changes)
unless_conflict_nothing graph row (Some p) changes h = tt
unless_conflict_nothing graph row None changes h = nothing_changed graph row changes h

unless_refused_nothing : (graph : Graph) (row : Row) (refusal : Option LogCode) (verdict : Verdict) → (refusal ≡ None → SaysNothingNew graph row verdict) → SaysNothingNew graph row (unless_refused refusal verdict)
unless_refused_nothing graph row (Some code) verdict h = tt
unless_refused_nothing graph row None verdict h = h refl

pub duplicate_has : (graph : Graph) (update_single : Bool) (row : Row) → SaysNothingNew graph row (admit graph update_single row)
duplicate_has graph update_single (vertex_row id labels properties) =
    unless_conflict_nothing graph (vertex_row id labels properties) (conflict graph update_single Vertex id properties) (label_changes graph id labels ++ flat_map (property_changes graph Vertex id) properties) (has_vertex_row graph id labels properties)
duplicate_has graph update_single (edge_row id label from to properties) =
    unless_refused_nothing graph (edge_row id label from to properties) (edge_refusal graph (edge_of graph id) label from to)
    (unless_conflict (conflict graph update_single Edge id properties) (edge_changes (edge_of graph id) id label from to ++ flat_map (property_changes graph Edge id) properties))
    (λ allowed. unless_conflict_nothing graph (edge_row id label from to properties) (conflict graph update_single Edge id properties) (edge_changes (edge_of graph id) id label from to ++ flat_map (property_changes graph Edge id) properties)
    (has_edge_row graph id label from to (edge_of graph id) properties refl allowed))
duplicate_has graph update_single (Bad code column) = tt
