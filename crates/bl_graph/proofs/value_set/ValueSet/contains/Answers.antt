use Rattle.std.proofs.Common.{ap, ◌∙◌}
use Rattle.bl_outside.specs.OrderedSet as set
use Rattle.bl_graph.proofs.ValueOrder.{has_value}
use Rattle.bl_graph.proofs.value_set.ValueSet.contains.Goals as goal

pub returns : goal.returns
returns c = c.contains.ensures ∙ has_value c.self.inside.values.keys c.args.value.now ∙ ap (λ s. set.contains s c.args.value.now) c.self.view_is
