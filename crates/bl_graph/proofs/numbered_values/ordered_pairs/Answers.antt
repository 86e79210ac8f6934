use Rattle.std.proofs.Common.{ap, ◌∙◌, cond, nat_eq, refl}
use Rattle.bl_outside.specs.OrderedSet as set
use Rattle.bl_graph.proofs.Nested.{at_step, none_at}
use Rattle.bl_graph.proofs.numbered_values.ordered_pairs.Goals as goal

pub loop-pair-init : goal.loop-pair-init
loop-pair-init c = c.new-values.ensures ∙ none_at c.args.key

pub loop-pair-preserved : goal.loop-pair-preserved
loop-pair-preserved c =
    c.in_ok-insert_of.ensures ∙ ap (λ s. cond (nat_eq c.pair-item.result.0 c.args.key) (set.insert s c.pair-item.result.1) s) c.loop-pair.invariant
    ∙ at_step c.args.pairs.now c.loop-pair.pair-index c.pair-item.result c.args.key (nat_eq c.pair-item.result.0 c.args.key) c.loop-pair-test.true c.pair-item.is refl
