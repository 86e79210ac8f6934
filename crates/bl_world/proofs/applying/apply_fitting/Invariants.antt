use Rattle.std.proofs.Common.{◌≡◌, drop}
use Rattle.bl_graph.specs.Replay.{after, fit}
use Rattle.bl_graph.specs.ValidChanges.{HasValidValues}
use Rattle.bl_graph.specs.ValidGraph.{IsValidGraph}
use Rattle.bl_world.proofs.applying.apply_fitting.Given as goal

abbrev pub invariant-loop-change : goal.invariant-loop-change
invariant-loop-change l = record {
  fits : fit l.fn.graph l.change-items ≡ fit l.graph (drop l.change-index l.change-items);
  goes : after l.fn.graph l.change-items ≡ after l.graph (drop l.change-index l.change-items);
  valid : IsValidGraph l.fn.graph → IsValidGraph l.graph;
  values : HasValidValues l.fn.graph → HasValidValues l.graph;
}
