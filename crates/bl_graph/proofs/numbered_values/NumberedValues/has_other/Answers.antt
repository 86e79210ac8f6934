use Rattle.std.proofs.Common.{sym, ap, ◌∙◌, nat_eq, not, ◌&&◌, ◌==◌, length, filter}
use Rattle.std.specs.List.{list_any}
use Rattle.bl_outside.specs.OrderedSet as set
use Rattle.bl_outside.proofs.Finite.{no_items}
use Rattle.bl_value.specs.Order.{value_cmp}
use Rattle.bl_graph.specs.Admission.{is_among}
use Rattle.bl_graph.specs.Held.{values_of}
use Rattle.bl_graph.specs.Numbered.{at_number}
use Rattle.bl_graph.proofs.Nested.{other_nested}
use Rattle.bl_graph.proofs.numbered_values.NumberedValues.has_other.Goals as goal

pub returns-in-Few : goal.returns-in-Few
returns-in-Few c =
    c.has_other_pair.ensures ∙ ap (list_any (λ pair. nat_eq pair.0 c.args.key && not (is_among c.args.given.now pair.1))) c.as_slice.ensures.value ∙ other_nested c.args.given.now c.in-Few.few.items c.args.key
    ∙ ap (λ held. not (length (filter (λ value. not (is_among c.args.given.now value)) (set.items (at_number (values_of held) c.args.key))) == 0)) (sym c.in-Few.is) ∙ ap (λ m. not (length (filter (λ value. not (is_among c.args.given.now value)) (set.items (at_number m c.args.key))) == 0)) c.self.view_is

pub returns-in-None : goal.returns-in-None
returns-in-None c =
    sym (ap (λ vs. not (length (filter (λ value. not (is_among c.args.given.now value)) vs) == 0)) (no_items value_cmp))
    ∙ ap (λ s. not (length (filter (λ value. not (is_among c.args.given.now value)) (set.items s)) == 0)) c.in-None.ensures
    ∙ ap (λ held. not (length (filter (λ value. not (is_among c.args.given.now value)) (set.items (at_number (values_of held) c.args.key))) == 0)) (sym c.in-Many.is) ∙ ap (λ m. not (length (filter (λ value. not (is_among c.args.given.now value)) (set.items (at_number m c.args.key))) == 0)) c.self.view_is
