-- What a row does to a graph: changes, nothing, or a refusal.
use Rattle.std.specs.Prelude.{ℕ, ◌==◌, nat_eq, Bool, not, ◌&&◌, if◌then◌else◌, codes, List, [], ◌∷◌, ◌++◌, map, filter, length, Some, None}
use Rattle.std.specs.declared.option.Option.{Option}
use Rattle.std.specs.List.{flat_map, find, list_any}
use Rattle.std.specs.Ordering.{is_eq}
use Rattle.std.specs.Cmp.Lexicographic.{pointwise}
use Rattle.bl_outside.specs.OrderedSet as set
use Rattle.bl_value.specs.Order.{value_cmp}
use Rattle.bl_value.specs.declared.value.Value.{Value}
use Rattle.bl_value.specs.declared.column.Side.{Side}
use Rattle.bl_value.specs.declared.column.Side.TheVariants.{Vertex, Edge}
use Rattle.bl_value.specs.declared.change.Change.{Change}
use Rattle.bl_value.specs.declared.change.Change.TheVariants.{AddLabel, AddEdge, AddValue, RemoveValue}
use Rattle.bl_value.specs.declared.log_code.LogCode.{LogCode}
use Rattle.bl_value.specs.declared.log_code.LogCode.TheVariants.{FromMissing, ToMissing, EdgeConflict, SingleConflict}
use Rattle.bl_value.specs.declared.row.Property.{Property}
use Rattle.bl_value.specs.declared.row.Row.{Row}
use Rattle.bl_value.specs.declared.row.Row.TheVariants.{Vertex as vertex_row, Edge as edge_row, Bad}
use Rattle.bl_graph.specs.declared.verdict.Verdict.{Verdict}
use Rattle.bl_graph.specs.declared.verdict.Verdict.TheVariants.{Changes, Duplicate, Refused}
use Rattle.bl_graph.specs.Graph.{Graph, Ends, has_vertex, labels_of, edge_of, values_at}

-- The labels of a vertex row: its own, or `vertex` where it has none and the vertex is new.
abbrev pub given_labels : Graph → List ℕ → List (List ℕ) → List (List ℕ)
given_labels graph id labels =
    if length labels == 0 && not (has_vertex graph id) then codes "vertex" ∷ [] else labels

-- the labels that aren't there
abbrev pub label_changes : Graph → List ℕ → List (List ℕ) → List Change
label_changes graph id labels =
    map (λ label. AddLabel id label)
    (filter (λ label. not (set.contains (labels_of graph id) label)) (given_labels graph id labels))

-- the value is one of those
abbrev pub is_among : List Value → Value → Bool
is_among values value = list_any (λ other. is_eq (value_cmp other value)) values

-- the values at the property's key that a single one takes the place of, in order
abbrev pub replaced : Graph → Side → List ℕ → Property → List Value
replaced graph side id property =
    if property.single then filter (λ value. not (is_among property.values value))
    (set.items (values_at graph side id property.key)) else []

-- those of the property's values that aren't there
abbrev pub added : Graph → Side → List ℕ → Property → List Value
added graph side id property =
    filter (λ value. not (set.contains (values_at graph side id property.key) value))
    property.values

abbrev pub property_changes : Graph → Side → List ℕ → Property → List Change
property_changes graph side id property =
    map (λ value. RemoveValue side id property.key value) (replaced graph side id property)
    ++ map (λ value. AddValue side id property.key value) (added graph side id property)

-- a single value is there, and another would take its place
abbrev pub conflicts : Graph → Side → List ℕ → Property → Bool
conflicts graph side id property = not (length (replaced graph side id property) == 0)

-- the first conflict, unless single values are to be updated
abbrev pub conflict : Graph → Bool → Side → List ℕ → List Property → Option Property
conflict graph update_single side id properties =
    if update_single then None else find (conflicts graph side id) properties

-- a row without a change is a duplicate
abbrev pub changed : List Change → Verdict
changed [] = Duplicate
changed (change ∷ changes) = Changes (change ∷ changes)

abbrev pub unless_conflict : Option Property → List Change → Verdict
unless_conflict (Some property) changes = Refused SingleConflict property.column
unless_conflict None changes = changed changes

-- the edge has this label and these ends
abbrev pub is_edge : Ends → List ℕ → List ℕ → List ℕ → Bool
is_edge ends label from to = pointwise nat_eq ends.label label && pointwise nat_eq ends.from from &&
    pointwise nat_eq ends.to to

-- What stands against an edge row: another edge of this id, or a missing end of a new one.
abbrev pub edge_refusal : Graph → Option Ends → List ℕ → List ℕ → List ℕ → Option LogCode
edge_refusal graph (Some ends) label from to =
    if is_edge ends label from to then None else Some EdgeConflict
edge_refusal graph None label from to =
    if not (has_vertex graph from) then Some FromMissing
    else (if not (has_vertex graph to) then Some ToMissing else None)

abbrev pub edge_changes : Option Ends → List ℕ → List ℕ → List ℕ → List ℕ → List Change
edge_changes (Some ends) id label from to = []
edge_changes None id label from to = AddEdge id label from to ∷ []

abbrev pub unless_refused : Option LogCode → Verdict → Verdict
unless_refused (Some code) verdict = Refused code 0
unless_refused None verdict = verdict

abbrev pub admit : Graph → Bool → Row → Verdict
admit graph update_single (vertex_row id labels properties) =
    unless_conflict (conflict graph update_single Vertex id properties)
    (label_changes graph id labels ++ flat_map (property_changes graph Vertex id) properties)
admit graph update_single (edge_row id label from to properties) =
    unless_refused (edge_refusal graph (edge_of graph id) label from to)
    (unless_conflict (conflict graph update_single Edge id properties)
    (edge_changes (edge_of graph id) id label from to
    ++ flat_map (property_changes graph Edge id) properties))
admit graph update_single (Bad code column) = Refused code column
