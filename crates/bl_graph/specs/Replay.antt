-- Single changes, and lists of them, applied to a graph.
use Rattle.std.specs.Prelude.{◌≡◌, ◌++◌, ℕ, ◌==◌, Bool, true, not, ◌&&◌, if◌then◌else◌, List, [], ◌∷◌, take, is_none}
use Rattle.std.specs.FinMap as map
use Rattle.bl_outside.specs.OrderedSet as set
use Rattle.bl_value.specs.declared.column.Side.{Side}
use Rattle.bl_value.specs.declared.column.Side.TheVariants.{Vertex, Edge}
use Rattle.bl_value.specs.declared.change.Change.{Change}
use Rattle.bl_value.specs.declared.change.Change.TheVariants.{AddLabel, AddEdge, AddValue, RemoveValue}
use Rattle.bl_graph.specs.Graph.{Graph, Values, ByText, Properties, has_vertex, labels_of, edge_of, has_owner, properties, with_properties, keys_in, values_at}

-- No key stays with no value, and no owner with no key.
abbrev pub with_values : ByText Values → List ℕ → Values → ByText Values
with_values keys key values = if set.len values == 0 then map.remove keys key
    else map.insert keys key values

abbrev pub with_keys : Properties → List ℕ → ByText Values → Properties
with_keys all id keys = if map.len keys == 0 then map.remove all id else map.insert all id keys

-- other values at one key of one vertex or edge
abbrev pub with_values_in : Properties → List ℕ → List ℕ → Values → Properties
with_values_in all id key values = with_keys all id (with_values (keys_in all id) key values)

-- the graph with other values at one key
abbrev pub with_values_at : Graph → Side → List ℕ → List ℕ → Values → Graph
with_values_at graph side id key values =
    with_properties graph side (with_values_in (properties graph side) id key values)

-- the graph after one change
abbrev pub after_one : Graph → Change → Graph
after_one graph (AddLabel id label) =
    record graph { labels = map.insert graph.labels id (set.insert (labels_of graph id) label) }
after_one graph (AddEdge id label from to) =
    record graph {
      edges = map.insert graph.edges id
          (record { label = label; from = from; to = to });
    }
after_one graph (AddValue side id key value) =
    with_values_at graph side id key (set.insert (values_at graph side id key) value)
after_one graph (RemoveValue side id key value) =
    with_values_at graph side id key (set.remove (values_at graph side id key) value)

-- the graph after changes, from left to right
abbrev pub after : Graph → List Change → Graph
after graph [] = graph
after graph (change ∷ changes) = after (after_one graph change) changes

-- a front of the changes is applied, and the others not
pub record IsAfterFront (graph : Graph) (changes : List Change) (next : Graph) : Type 0 where
  pub count : ℕ
  pub is : next ≡ after graph (take count changes)

-- An edge key has one value at most.
abbrev pub may_take : Side → Values → Bool
may_take Vertex values = true
may_take Edge values = set.len values == 0

-- the change may be applied
abbrev pub fits : Graph → Change → Bool
fits graph (AddLabel id label) = not (set.contains (labels_of graph id) label)
fits graph (AddEdge id label from to) =
    is_none (edge_of graph id) && has_vertex graph from && has_vertex graph to
fits graph (AddValue side id key value) =
    has_owner graph side id && not (set.contains (values_at graph side id key) value) && may_take
    side (values_at graph side id key)
fits graph (RemoveValue side id key value) = set.contains (values_at graph side id key) value

-- each change fits in turn
abbrev pub fit : Graph → List Change → Bool
fit graph [] = true
fit graph (change ∷ changes) = fits graph change && fit (after_one graph change) changes

-- The changes of two lists, one list after the other, are those of one.
abbrev pub IsOneFold : Type 0
IsOneFold = (graph : Graph) (changes more : List Change) →
    after graph (changes ++ more) ≡ after (after graph changes) more
