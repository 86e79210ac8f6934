use Rattle.std.proofs.Common.{ap, ◌∙◌}
use Rattle.bl_graph.proofs.Nested.{give, nested_step}
use Rattle.bl_graph.proofs.numbered_values.keyed_pairs.Goals as goal

pub loop-pair-preserved : goal.loop-pair-preserved
loop-pair-preserved c =
    c.in_ok-insert.ensures.ok ∙ ap (λ m. give m c.pair-item.result.0 c.pair-item.result.1) c.loop-pair.invariant
    ∙ nested_step c.args.pairs.now c.loop-pair.pair-index c.pair-item.result c.loop-pair-test.true c.pair-item.is
