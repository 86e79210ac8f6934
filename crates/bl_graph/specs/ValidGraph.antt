-- What a valid graph is.
use Rattle.std.specs.Prelude.{◌≡◌, ◌≢◌, ℕ, ◌≤◌, true, List, IfSome}
use Rattle.std.specs.FinMap as map
use Rattle.bl_outside.specs.OrderedSet as set
use Rattle.bl_value.specs.declared.value.Value.{Value}
use Rattle.bl_value.specs.declared.column.Side.{Side}
use Rattle.bl_value.specs.declared.column.Side.TheVariants.{Edge}
use Rattle.bl_value.specs.declared.change.Change.{Change}
use Rattle.bl_graph.specs.Graph.{Graph, Values, ByText, has_vertex, edge_of, has_owner, properties, values_at}
use Rattle.bl_graph.specs.Replay.{after, fit}

-- a key, and each set of values, has something
pub record IsFull (keys : ByText Values) : Type 0 where
  pub some : map.len keys ≢ 0
  pub each : (key : List ℕ) → IfSome (map.get keys key) (λ values. set.len values ≢ 0)

pub record IsValidGraph (graph : Graph) : Type 0 where
  -- the ends of an edge are vertices
  pub ends : (id : List ℕ) → IfSome (edge_of graph id)
      (λ ends. (has_vertex graph ends.from ≡ true) × (has_vertex graph ends.to ≡ true))
  -- what has a value is there
  pub owners : (side : Side) (id key : List ℕ) (value : Value) →
      set.contains (values_at graph side id key) value ≡ true → has_owner graph side id ≡ true
  -- a key of an edge has one value at most
  pub one : (id key : List ℕ) → set.len (values_at graph Edge id key) ≤ 1
  -- no vertex is without a label, no key without a value, and no owner of values without a key
  pub labelled : (id : List ℕ) → IfSome (map.get graph.labels id) (λ labels. set.len labels ≢ 0)
  pub full : (side : Side) (id : List ℕ) → IfSome (map.get (properties graph side) id) IsFull

-- Changes that fit, each in turn, make a valid graph of a valid one.
abbrev pub KeepsValidity : Type 0
KeepsValidity = (graph : Graph) (changes : List Change) → IsValidGraph graph →
    fit graph changes ≡ true → IsValidGraph (after graph changes)
