-- The graph that has taken a row, place by place.
use Rattle.std.specs.Prelude.{◌≡◌, ℕ, nat_eq, Bool, true, ◌||◌, if◌then◌else◌, List, Some, None}
use Rattle.std.specs.declared.option.Option.{Option}
use Rattle.std.specs.FinMap as map
use Rattle.std.specs.List.{find, list_any}
use Rattle.std.specs.Cmp.Lexicographic.{pointwise}
use Rattle.bl_outside.specs.OrderedSet as set
use Rattle.bl_value.specs.declared.value.Value.{Value}
use Rattle.bl_value.specs.declared.column.Side.{Side}
use Rattle.bl_value.specs.declared.column.Side.TheVariants.{Vertex, Edge}
use Rattle.bl_value.specs.declared.row.Property.{Property}
use Rattle.bl_value.specs.declared.row.Row.{Row}
use Rattle.bl_value.specs.declared.row.Row.TheVariants.{Vertex as vertex_row, Edge as edge_row, Bad}
use Rattle.bl_graph.specs.declared.verdict.Verdict.{Verdict}
use Rattle.bl_graph.specs.declared.verdict.Verdict.TheVariants.{Changes, Duplicate, Refused}
use Rattle.bl_graph.specs.Graph.{Graph, Values, has_vertex, labels_of, edge_of, values_at}
use Rattle.bl_graph.specs.Replay.{after}
use Rattle.bl_graph.specs.ValidGraph.{IsValidGraph}
use Rattle.bl_graph.specs.Admission.{given_labels, is_among}

-- the text is one of those
abbrev pub is_one_of : List (List ℕ) → List ℕ → Bool
is_one_of texts text = list_any (λ other. pointwise nat_eq other text) texts

-- the property of a key
abbrev pub property_at : List Property → List ℕ → Option Property
property_at properties key = find (λ property. pointwise nat_eq property.key key) properties

-- Whether a value stands at a key afterwards. A single property leaves just its own value, another
-- one the old values and its own, and where no property has the key the old values stay.
abbrev pub stands_after : Option Property → Values → Value → Bool
stands_after (Some property) old value =
    if property.single then is_among property.values value
    else set.contains old value || is_among property.values value
stands_after None old value = set.contains old value

-- What has become of the values: those of one vertex or edge take its properties, all others stay.
pub record TakesProperties (graph : Graph) (side : Side) (id : List ℕ) (properties : List Property)
    (next : Graph) : Type 0 where
  pub own : (key : List ℕ) (value : Value) →
      set.contains (values_at next side id key) value
      ≡ stands_after (property_at properties key) (values_at graph side id key) value
  pub others : (other_side : Side) (other key : List ℕ) → (other_side ≡ side → other ≡ id → ⊥) →
      values_at next other_side other key ≡ values_at graph other_side other key

-- The vertex is there, with its old labels and those that it was given. All else stays.
pub record TakesVertex (graph : Graph) (id : List ℕ) (labels : List (List ℕ))
    (properties : List Property) (next : Graph) : Type 0 where
  pub there : has_vertex next id ≡ true
  pub labelled : (label : List ℕ) →
      set.contains (labels_of next id) label
      ≡ (set.contains (labels_of graph id) label || is_one_of (given_labels graph id labels) label)
  pub values : TakesProperties graph Vertex id properties next
  pub others : (other : List ℕ) → (other ≡ id → ⊥) →
      map.get next.labels other ≡ map.get graph.labels other
  pub edges : next.edges ≡ graph.edges

-- The edge is there, with its label and its ends. All else stays.
pub record TakesEdge (graph : Graph) (id label from to : List ℕ) (properties : List Property)
    (next : Graph) : Type 0 where
  pub there : edge_of next id ≡ Some (record { label = label; from = from; to = to })
  pub values : TakesProperties graph Edge id properties next
  pub others : (other : List ℕ) → (other ≡ id → ⊥) → edge_of next other ≡ edge_of graph other
  pub vertices : next.labels ≡ graph.labels

-- What a graph is once it has taken a row. No graph takes a bad one.
abbrev pub TakesRow : Graph → Row → Graph → Type 0
TakesRow graph (vertex_row id labels properties) next = TakesVertex graph id labels properties next
TakesRow graph (edge_row id label from to properties) next =
    TakesEdge graph id label from to properties next
TakesRow graph (Bad code column) next = ⊥

-- The graph after the changes has taken the row; one to which the row is a duplicate has all of it
-- as it stands.
abbrev pub IsTaken : Graph → Row → Verdict → Type 0
IsTaken graph row (Changes changes) = TakesRow graph row (after graph changes)
IsTaken graph row Duplicate = TakesRow graph row graph
IsTaken graph row (Refused code column) = Unit {0}

-- At most one valid graph has taken the row from a graph: the definition leaves nothing open.
abbrev pub TakesInOneWay : Type 0
TakesInOneWay = (graph : Graph) (row : Row) (one other : Graph) → IsValidGraph one →
    IsValidGraph other → TakesRow graph row one → TakesRow graph row other → one ≡ other
