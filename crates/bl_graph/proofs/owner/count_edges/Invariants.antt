use Rattle.std.proofs.Common.{◌≡◌, ◌+◌, ◌^◌, ◌<◌, length, is_some, cond}
use Rattle.std.specs.Map.{values_of}
use Rattle.bl_graph.specs.Sizes.{total}
use Rattle.bl_graph.proofs.owner.count_edges.Given as goal

-- with those that are left it is the whole count
abbrev pub invariant-loop-edge : goal.invariant-loop-edge
invariant-loop-edge l = (l.count + total (λ owner. cond (is_some owner.own) 1 0) l.edge-iterator ≡ total (λ owner. cond (is_some owner.own) 1 0) (values_of l.edges.entries)) × (l.count + length l.edge-iterator < 2 ^ 63)
