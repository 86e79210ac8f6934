use Rattle.std.proofs.Common.{ap, ◌∙◌}
use Rattle.bl_outside.specs.OrderedSet as set
use Rattle.bl_outside.proofs.Finite.{add_all, add_all_is}
use Rattle.bl_graph.proofs.ValueOrder.{value_cmp_total, exact_values}
use Rattle.bl_graph.proofs.value_set.ValueSetCopied.copied.Goals as goal

pub loop-value-init : goal.loop-value-init
loop-value-init c =
    ap (add_all value_cmp_total c.into_iter-value-iterator.result) c.new-copy.ensures
    ∙ ap (λ l. add_all value_cmp_total l set.empty) (c.into_iter-value-iterator.ensures.into_iter_gives ∙ c.iter-value-items.ensures.rest)
    ∙ add_all_is value_cmp_total exact_values c.self.inside.values.keys ∙ c.self.view_is
