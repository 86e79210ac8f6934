use Rattle.std.proofs.Common.{◌≡◌, take}
use Rattle.bl_graph.specs.Numbered.{nested}
use Rattle.bl_graph.proofs.numbered_values.keyed_pairs.Given as goal

-- the pairs so far are there
abbrev pub invariant-loop-pair : goal.invariant-loop-pair
invariant-loop-pair l = l.keyed ≡ nested (take l.pair-index l.pairs)
