use Rattle.std.proofs.Common.{ap, sym, ◌∙◌}
use Rattle.std.specs.Option.{unwrap_or}
use Rattle.bl_outside.specs.OrderedSet as set
use Rattle.bl_graph.proofs.ByNumber.{stands}
use Rattle.bl_graph.proofs.keyed_values.KeyedValues.get.Goals as goal

pub returns : goal.returns
returns c = ap (λ o. unwrap_or o set.empty) (c.get.ensures.value ∙ sym (stands c.self.inside.keys.entries c.args.self.now c.self.view_is c.args.key))
