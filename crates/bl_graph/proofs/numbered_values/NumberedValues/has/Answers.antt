use Rattle.std.proofs.Common.{sym, ap, ◌∙◌}
use Rattle.std.specs.List.{list_any}
use Rattle.bl_outside.specs.OrderedSet as set
use Rattle.bl_outside.proofs.Finite.{contains-empty}
use Rattle.bl_value.specs.Order.{value_cmp}
use Rattle.bl_graph.specs.Held.{values_of}
use Rattle.bl_graph.specs.Numbered.{at_number}
use Rattle.bl_graph.proofs.Nested.{has_nested, is_pair}
use Rattle.bl_graph.proofs.numbered_values.NumberedValues.has.Goals as goal

pub returns-in-Few : goal.returns-in-Few
returns-in-Few c =
    c.has_pair.ensures ∙ ap (list_any (is_pair c.args.key c.args.value.now)) c.as_slice.ensures.value ∙ sym (has_nested c.in-Few.few.items c.args.key c.args.value.now)
    ∙ ap (λ held. set.contains (at_number (values_of held) c.args.key) c.args.value.now) (sym c.in-Few.is) ∙ ap (λ m. set.contains (at_number m c.args.key) c.args.value.now) c.self.view_is

pub returns-in-None : goal.returns-in-None
returns-in-None c =
    sym (contains-empty value_cmp c.args.value.now) ∙ ap (λ s. set.contains s c.args.value.now) c.in-None.ensures
    ∙ ap (λ held. set.contains (at_number (values_of held) c.args.key) c.args.value.now) (sym c.in-Many.is) ∙ ap (λ m. set.contains (at_number m c.args.key) c.args.value.now) c.self.view_is
