use Rattle.std.proofs.Common.{ap, ◌∙◌}
use Rattle.bl_outside.specs.OrderedSet as set
use Rattle.bl_graph.proofs.ValueOrder.{given_value}
use Rattle.bl_graph.proofs.value_set.ValueSet.insert.Goals as goal

pub returns-clause-ok : goal.returns-clause-ok
returns-clause-ok c = given_value c.self.inside.values.keys c.insert.new.self.keys c.args.value c.in_ok-insert.ensures.updates.0 ∙ ap (λ s. set.insert s c.args.value) c.self.view_is
