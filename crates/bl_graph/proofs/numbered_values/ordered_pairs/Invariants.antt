use Rattle.std.proofs.Common.{◌≡◌, take}
use Rattle.bl_graph.specs.Numbered.{at_number, nested}
use Rattle.bl_graph.proofs.numbered_values.ordered_pairs.Given as goal

-- the pairs so far are there
abbrev pub invariant-loop-pair : goal.invariant-loop-pair
invariant-loop-pair l = l.values ≡ at_number (nested (take l.pair-index l.pairs)) l.key
