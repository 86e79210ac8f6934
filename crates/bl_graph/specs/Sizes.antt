-- How many values a graph has.
use Rattle.std.specs.Prelude.{ℕ, ◌+◌, List, [], ◌∷◌}
use Rattle.std.specs.FinMap as map
use Rattle.bl_outside.specs.OrderedSet as set
use Rattle.bl_graph.specs.Graph.{Graph, Values, ByText, Properties}

abbrev pub total : {X : Type 0} → (X → ℕ) → List X → ℕ
total size [] = 0
total size (x ∷ xs) = size x + total size xs

-- the values of one vertex or edge
abbrev pub count_in : ByText Values → ℕ
count_in keys = total set.len (map.values keys)

-- the values of all vertices, or of all edges
abbrev pub count_all : Properties → ℕ
count_all all = total count_in (map.values all)

abbrev pub values_count : Graph → ℕ
values_count graph = count_all graph.vertex_values + count_all graph.edge_values
