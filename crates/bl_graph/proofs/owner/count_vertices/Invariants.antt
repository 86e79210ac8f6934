use Rattle.std.proofs.Common.{◌≡◌, ◌==◌, ◌+◌, ◌^◌, ◌<◌, length, not, cond}
use Rattle.std.specs.Map.{values_of}
use Rattle.bl_outside.specs.OrderedSet as set
use Rattle.bl_graph.specs.Sizes.{total}
use Rattle.bl_graph.proofs.owner.count_vertices.Given as goal

-- with those that are left it is the whole count
abbrev pub invariant-loop-vertex : goal.invariant-loop-vertex
invariant-loop-vertex l = (l.count + total (λ owner. cond (not (set.len owner.own == 0)) 1 0) l.vertex-iterator ≡ total (λ owner. cond (not (set.len owner.own == 0)) 1 0) (values_of l.vertices.entries)) × (l.count + length l.vertex-iterator < 2 ^ 63)
