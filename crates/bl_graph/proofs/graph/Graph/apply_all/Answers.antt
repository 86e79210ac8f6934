use Rattle.std.proofs.Common.{◌∙◌, ap}
use Rattle.bl_graph.specs.Replay.{after_one}
use Rattle.bl_graph.proofs.Replayed.{after-more}
use Rattle.bl_graph.proofs.graph.Graph.apply_all.Goals as goal

pub loop-change-preserved : goal.loop-change-preserved
loop-change-preserved c =
    c.in_ok-make.ensures.ok ∙ ap (λ graph. after_one graph c.change-item.result) c.loop-change.invariant
    ∙ after-more c.args.self.now c.as_slice-change-items.result.now c.loop-change.change-index c.change-item.result c.loop-change-test.true c.change-item.is
