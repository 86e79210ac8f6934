use Rattle.std.proofs.Common.{◌≡◌, take}
use Rattle.bl_graph.specs.Replay.{after}
use Rattle.bl_graph.proofs.graph.Graph.apply_all.Given as goal

abbrev pub invariant-loop-change : goal.invariant-loop-change
invariant-loop-change l = l.self ≡ after l.initial.self (take l.change-index l.change-items)
