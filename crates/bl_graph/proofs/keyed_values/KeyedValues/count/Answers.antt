use Rattle.std.proofs.Common.{ap, ◌∙◌, ◌-◌, ◌^◌, min, zero-add, lit<}
use Rattle.std.specs.Cmp.{nat_cmp_total}
use Rattle.bl_outside.specs.OrderedSet as set
use Rattle.bl_outside.proofs.Finite.{values_stay}
use Rattle.bl_graph.specs.Numbered.{values_count}
use Rattle.bl_graph.specs.Sizes.{total}
use Rattle.bl_graph.proofs.keyed_values.KeyedValues.count.Goals as goal

pub loop-values-init : goal.loop-values-init
loop-values-init c = (
  ap (λ n. min n (2 ^ 64 - 1))
      (zero-add (total set.len c.into_iter-values-iterator.result)
      ∙ ap (total set.len) (c.into_iter-values-iterator.ensures.into_iter_gives ∙ c.values-values-items.ensures.rest ∙ values_stay nat_cmp_total c.self.inside.keys.entries c.values-values-items.ensures.ordered)
      ∙ ap values_count c.self.view_is),
  lit< tt,
)
