use Rattle.std.proofs.Common.{◌≡◌, take}
use Rattle.bl_graph.proofs.numbered_values.copy_pairs.Given as goal

-- the pairs so far are there
abbrev pub invariant-loop-pair : goal.invariant-loop-pair
invariant-loop-pair l = l.copy.items ≡ take l.pair-index l.pairs
