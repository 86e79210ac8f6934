-- A property graph, as finite maps.
use Rattle.std.specs.Prelude.{ℕ, Bool, List}
use Rattle.std.specs.declared.option.Option.{Option}
use Rattle.std.specs.Option.{unwrap_or}
use Rattle.std.specs.Ordering.{nat_cmp}
use Rattle.std.specs.Cmp.Lexicographic.{slice_cmp}
use Rattle.std.specs.FinMap as map
use Rattle.bl_outside.specs.OrderedSet as set
use Rattle.bl_value.specs.Order.{value_cmp}
use Rattle.bl_value.specs.declared.column.Side.{Side}
use Rattle.bl_value.specs.declared.column.Side.TheVariants.{Vertex, Edge}

-- a set of texts
abbrev pub Texts : Type 0
Texts = set.OrderedSet (slice_cmp nat_cmp)

-- a set of values
abbrev pub Values : Type 0
Values = set.OrderedSet value_cmp

-- a map from texts
abbrev pub ByText : Type 0 → Type 0
ByText X = map.FinMap (slice_cmp nat_cmp) X

-- the map of some entries
abbrev pub by_text : {X : Type 0} → List (List ℕ × X) → ByText X
by_text entries = map.from_entries entries

abbrev pub without : {X : Type 0} → ByText X → List ℕ → ByText X
without all key = map.remove all key

-- an edge's label and its two ends
pub record Ends : Type 0 where
  pub label : List ℕ
  pub from : List ℕ
  pub to : List ℕ

-- the values of vertices, or of edges, by id and by key
abbrev pub Properties : Type 0
Properties = ByText (ByText Values)

pub record Graph : Type 0 where
  -- the vertices by id, each with its labels
  pub labels : ByText Texts
  -- the edges by id
  pub edges : ByText Ends
  pub vertex_values : Properties
  pub edge_values : Properties

abbrev pub empty : Graph
empty = record {
  labels = map.empty;
  edges = map.empty;
  vertex_values = map.empty;
  edge_values = map.empty;
}

abbrev pub has_vertex : Graph → List ℕ → Bool
has_vertex graph id = map.contains_key graph.labels id

-- the texts at one key
abbrev pub texts_at : ByText Texts → List ℕ → Texts
texts_at all key = unwrap_or (map.get all key) set.empty

-- the labels of a vertex, none where it isn't there
abbrev pub labels_of : Graph → List ℕ → Texts
labels_of graph id = texts_at graph.labels id

abbrev pub edge_of : Graph → List ℕ → Option Ends
edge_of graph id = map.get graph.edges id

abbrev pub has_owner : Graph → Side → List ℕ → Bool
has_owner graph Vertex id = has_vertex graph id
has_owner graph Edge id = map.contains_key graph.edges id

abbrev pub properties : Graph → Side → Properties
properties graph Vertex = graph.vertex_values
properties graph Edge = graph.edge_values

abbrev pub with_properties : Graph → Side → Properties → Graph
with_properties graph Vertex values = record graph { vertex_values = values }
with_properties graph Edge values = record graph { edge_values = values }

-- the values by key of one vertex or edge
abbrev pub keys_in : Properties → List ℕ → ByText Values
keys_in values id = unwrap_or (map.get values id) map.empty

-- the values at one key
abbrev pub at_key : ByText Values → List ℕ → Values
at_key keys key = unwrap_or (map.get keys key) set.empty

abbrev pub values_at : Graph → Side → List ℕ → List ℕ → Values
values_at graph side id key = at_key (keys_in (properties graph side) id) key
