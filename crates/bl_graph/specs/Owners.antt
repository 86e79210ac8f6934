-- Vertices, or edges, by their ids, as the list of all ids.
use Rattle.std.specs.Prelude.{◌≡◌, ℕ, ◌<◌, cond, List, [], ◌∷◌, length, nat_eq, slice_get, Some, None}
use Rattle.std.specs.declared.option.Option.{Option}
use Rattle.std.specs.Option.{unwrap_or}
use Rattle.std.specs.Map.{keys_of, lookup}
use Rattle.std.specs.Cmp.Lexicographic.{pointwise}
use Rattle.std.specs.FinMap as map
use Rattle.bl_outside.specs.OrderedSet as set
use Rattle.bl_value.specs.declared.value.Value.{Value}
use Rattle.bl_graph.specs.declared.owner.Owner.{Owner}
use Rattle.bl_graph.specs.declared.owner.Ends.{Ends as EndNumbers}
use Rattle.bl_graph.specs.Graph.{Graph, ByText, Ends, Texts, Values}
use Rattle.bl_graph.specs.Numbered.{ByNumber, written, filled, named, at_number, IsFront, IsBelow}

-- an id of which no value is known
abbrev pub bare : {X : Type 0} → X → Owner X
bare own = record { own = own; values = map.empty }

-- what stands at an id
abbrev pub found : {X : Type 0} → List (List ℕ × X) → List ℕ → Option X
found owners id = lookup (pointwise nat_eq id) owners

-- the same, or this where nothing stands there
abbrev pub owner_at : {X : Type 0} → X → List (List ℕ × X) → List ℕ → X
owner_at none owners id = unwrap_or (found owners id) none

-- the same at each id; ids may have come behind the others
pub record AreSame {X : Type 0} (none : X) (old new : List (List ℕ × X)) : Type 0 where
  pub at : (id : List ℕ) → owner_at none new id ≡ owner_at none old id
  pub front : IsFront (keys_of old) (keys_of new)

-- the id has this place, with something there
pub record IsPlace {X : Type 0} (owners : List (List ℕ × X)) (id : List ℕ) (place : ℕ) : Type 0
  where
    pub owner : X
    pub at : slice_get owners place ≡ Some (id, owner)
    pub is : found owners id ≡ Some owner

-- another owner at an id that is there
pub record IsSet {X : Type 0} (old new : List (List ℕ × X)) (id : List ℕ) (owner : X) : Type 0 where
  pub at : (other : List ℕ) → found new other
      ≡ cond (pointwise nat_eq id other) (Some owner) (found old other)
  pub keys : keys_of new ≡ keys_of old

module _ {X : Type 0} (owner : Owner X) (key : ℕ) (value : Value) where
  abbrev pub with_value : Owner X
  with_value = record owner {
    values = map.insert owner.values key (set.insert (at_number owner.values key) value);
  }

  abbrev pub without_value : Owner X
  without_value = record owner {
    values = written owner.values key (filled (set.remove (at_number owner.values key) value));
  }

-- a vertex, by the numbers of its labels, and an edge
abbrev pub Vertex : Type 0
Vertex = Owner (ByNumber (Unit {0}))

abbrev pub Edge : Type 0
Edge = Owner (Option EndNumbers)

abbrev pub with_label : Vertex → ℕ → Vertex
with_label owner label = record owner { own = set.insert owner.own label }

abbrev pub with_ends : Edge → EndNumbers → Edge
with_ends owner ends = record owner { own = Some ends }

-- ---- the graph

-- what is said of the ids
abbrev pub kept : {Y X : Type 0} → (Y → Option X) → List (List ℕ × Y) → ByText X
kept says [] = map.empty
kept says (owner ∷ owners) = written (kept says owners) owner.0 (says owner.1)

abbrev pub ends_at : Option (List ℕ) → Option (List ℕ) → Option (List ℕ) → Option Ends
ends_at (Some label) (Some from) (Some to) = Some (record { label = label; from = from; to = to })
ends_at label from to = None

abbrev pub ends_of : List (List ℕ) → List (List ℕ) → Option EndNumbers → Option Ends
ends_of names ids (Some ends) =
    ends_at (slice_get names ends.label) (slice_get ids ends.from) (slice_get ids ends.to)
ends_of names ids None = None

abbrev pub labels_said : List (List ℕ) → Vertex → Option Texts
labels_said names owner = filled (named names owner.own)

abbrev pub values_said : {X : Type 0} → List (List ℕ) → Owner X → Option (ByText Values)
values_said names owner = filled (named names owner.values)

abbrev pub ends_said : List (List ℕ) → List (List ℕ) → Edge → Option Ends
ends_said names ids owner = ends_of names ids owner.own

abbrev pub graph_of : List (List ℕ) → List (List ℕ × Vertex) → List (List ℕ × Edge) → Graph
graph_of names vertices edges = record {
  labels = kept (labels_said names) vertices;
  edges = kept (ends_said names (keys_of vertices)) edges;
  vertex_values = kept (values_said names) vertices;
  edge_values = kept (values_said names) edges;
}

-- each number of an edge has a text
abbrev pub AreWithin : ℕ → ℕ → Option EndNumbers → Type 0
AreWithin names ids (Some ends) = (ends.label < names) × (ends.from < ids) × (ends.to < ids)
AreWithin names ids None = Unit {0}

-- a vertex, and an edge, of which nothing is said
abbrev pub no_vertex : Vertex
no_vertex = bare set.empty

abbrev pub no_edge : Edge
no_edge = bare None

-- All numbers are those of texts.
pub record IsSound (names : List (List ℕ)) (vertices : List (List ℕ × Vertex))
    (edges : List (List ℕ × Edge)) : Type 0 where
  pub labels : (id : List ℕ) → IsBelow (length names) (owner_at no_vertex vertices id).own
  pub vertex_values : (id : List ℕ) → IsBelow (length names) (owner_at no_vertex vertices id).values
  pub ends : (id : List ℕ) → AreWithin (length names) (length vertices)
      (owner_at no_edge edges id).own
  pub edge_values : (id : List ℕ) → IsBelow (length names) (owner_at no_edge edges id).values
