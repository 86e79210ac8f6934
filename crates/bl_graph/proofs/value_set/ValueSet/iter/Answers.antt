use Rattle.std.proofs.Common.{ap, sym, ◌∙◌}
use Rattle.bl_outside.specs.OrderedSet as set
use Rattle.bl_graph.proofs.ValueOrder.{values_in_order}
use Rattle.bl_graph.proofs.value_set.ValueSet.iter.Goals as goal

pub returns : goal.returns
returns c = c.iter.ensures.rest ∙ sym (values_in_order c.self.inside.values.keys c.iter.ensures.ordered) ∙ ap set.items c.self.view_is
