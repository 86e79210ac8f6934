use Rattle.std.proofs.Common.{ap, ◌∙◌}
use Rattle.bl_outside.specs.OrderedSet as set
use Rattle.bl_graph.proofs.ValueOrder.{taken_value}
use Rattle.bl_graph.proofs.value_set.ValueSet.remove.Goals as goal

pub returns : goal.returns
returns c = taken_value c.self.inside.values.keys c.remove.new.self.keys c.args.value.now c.remove.ensures.updates.0 ∙ ap (λ s. set.remove s c.args.value.now) c.self.view_is
