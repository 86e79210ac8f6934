use Rattle.std.proofs.Common.{ap, sym, ◌∙◌}
use Rattle.bl_outside.specs.OrderedSet as set
use Rattle.bl_graph.proofs.ValueOrder.{values_counted}
use Rattle.bl_graph.proofs.value_set.ValueSet.len.Goals as goal

pub returns : goal.returns
returns c = c.len.ensures.len ∙ sym (values_counted c.self.inside.values.keys c.len.ensures.ordered) ∙ ap set.len c.self.view_is
