use Rattle.std.proofs.Common.{ap, ◌∙◌}
use Rattle.bl_outside.specs.OrderedSet as set
use Rattle.bl_graph.proofs.ByNumber.{without}
use Rattle.bl_graph.specs.Numbered.{at_number, by_number, filled, written}
use Rattle.bl_graph.proofs.Maps.{dropped}
use Rattle.bl_graph.proofs.keyed_values.KeyedValues.remove.Goals as goal

pub returns : goal.returns
returns c =
    without c.remove_at.new.keys.entries c.remove.new.self.entries c.args.key c.remove.ensures.updates.0
    ∙ c.if-not-remove_at.ensures.others
    ∙ dropped (by_number c.self.inside.keys.entries) c.args.key (set.remove (at_number (by_number c.self.inside.keys.entries) c.args.key) c.args.value.now) c.if-not-remove_at.ensures.empty
    ∙ ap (λ m. written m c.args.key (filled (set.remove (at_number m c.args.key) c.args.value.now))) c.self.view_is
