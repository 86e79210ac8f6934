-- What is promised of the changes of a row.
use Rattle.std.specs.Prelude.{◌≡◌, ℕ, Bool, true, List, map, length, Some}
use Rattle.std.specs.List.{All, IsDistinct}
use Rattle.std.specs.Ordering.{eq_by_cmp}
use Rattle.bl_outside.specs.OrderedSet as set
use Rattle.bl_value.specs.Order.{value_cmp}
use Rattle.bl_value.specs.declared.value.Value.{Value}
use Rattle.bl_value.specs.declared.column.Side.{Side}
use Rattle.bl_value.specs.declared.column.Side.TheVariants.{Vertex, Edge}
use Rattle.bl_value.specs.declared.row.Property.{Property}
use Rattle.bl_value.specs.declared.row.Row.{Row}
use Rattle.bl_value.specs.declared.row.Row.TheVariants.{Vertex as vertex_row, Edge as edge_row, Bad}
use Rattle.bl_value.specs.ValidRows.{AreApart, IsRow}
use Rattle.bl_graph.specs.declared.verdict.Verdict.{Verdict}
use Rattle.bl_graph.specs.declared.verdict.Verdict.TheVariants.{Changes, Duplicate, Refused}
use Rattle.bl_graph.specs.Graph.{Graph, has_vertex, labels_of, edge_of, values_at}
use Rattle.bl_graph.specs.Admission.{is_among, admit}
use Rattle.bl_graph.specs.Replay.{after, fit}
use Rattle.bl_graph.specs.ValidGraph.{IsValidGraph}

-- no value stands there twice, and a single property has just one
pub record IsProper (property : Property) : Type 0 where
  pub differ : IsDistinct (eq_by_cmp value_cmp) property.values
  pub one : property.single ≡ true → length property.values ≡ 1

-- no two have one key
pub record AreProper (properties : List Property) : Type 0 where
  pub each : All IsProper properties
  pub differ : AreApart (map (λ property. property.key) properties)

-- No label and no key stands there twice, and the properties of an edge are single.
abbrev pub IsProperRow : Row → Type 0
IsProperRow (vertex_row id labels properties) = AreApart labels × AreProper properties
IsProperRow (edge_row id label from to properties) =
    AreProper properties × All (λ property. property.single ≡ true) properties
IsProperRow (Bad code column) = Unit {0}

-- Valid rows are proper.
abbrev pub ValidIsProper : Type 0
ValidIsProper = (row : Row) → IsRow row → IsProperRow row

-- the changes may be applied, each in turn
abbrev pub DoesFit : Graph → Verdict → Type 0
DoesFit graph (Changes changes) = fit graph changes ≡ true
DoesFit graph Duplicate = Unit {0}
DoesFit graph (Refused code column) = Unit {0}

-- the graph after the changes of a row, if there are any
abbrev pub after_verdict : Graph → Verdict → Graph
after_verdict graph (Changes changes) = after graph changes
after_verdict graph Duplicate = graph
after_verdict graph (Refused code column) = graph

-- A proper row makes a valid graph of a valid one.
abbrev pub AdmissionKeepsValidity : Type 0
AdmissionKeepsValidity = (graph : Graph) (update_single : Bool) (row : Row) → IsProperRow row →
    IsValidGraph graph → IsValidGraph (after_verdict graph (admit graph update_single row))

-- The values of a property are there, and where it is single no others.
pub record HasProperty (graph : Graph) (side : Side) (id : List ℕ) (property : Property) : Type 0
  where
    pub has : All (λ value. set.contains (values_at graph side id property.key) value ≡ true)
        property.values
    pub only : property.single ≡ true → (value : Value) →
        set.contains (values_at graph side id property.key) value ≡ true →
        is_among property.values value ≡ true

-- The graph has all that the row says.
abbrev pub HasRow : Graph → Row → Type 0
HasRow graph (vertex_row id labels properties) =
    (has_vertex graph id ≡ true) × All (λ label. set.contains (labels_of graph id) label ≡ true)
    labels × All (HasProperty graph Vertex id) properties
HasRow graph (edge_row id label from to properties) =
    (edge_of graph id ≡ Some (record { label = label; from = from; to = to }))
    × All (HasProperty graph Edge id) properties
HasRow graph (Bad code column) = ⊥

-- a duplicate says nothing new
abbrev pub SaysNothingNew : Graph → Row → Verdict → Type 0
SaysNothingNew graph row Duplicate = HasRow graph row
SaysNothingNew graph row (Changes changes) = Unit {0}
SaysNothingNew graph row (Refused code column) = Unit {0}
