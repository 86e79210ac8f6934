use Rattle.std.proofs.Common.{sym, ap, ◌∙◌, nat_eq, not, ◌==◌}
use Rattle.std.specs.List.{list_any}
use Rattle.bl_outside.specs.OrderedSet as set
use Rattle.bl_value.specs.Order.{value_cmp}
use Rattle.bl_graph.specs.Held.{values_of}
use Rattle.bl_graph.specs.Numbered.{at_number}
use Rattle.std.specs.FinMap as map
use Rattle.bl_graph.proofs.Nested.{none_nested}
use Rattle.bl_graph.proofs.numbered_values.NumberedValues.is_empty_at.Goals as goal

pub returns-in-Few : goal.returns-in-Few
returns-in-Few c =
    ap not (c.has_key.ensures ∙ ap (list_any (λ pair. nat_eq pair.0 c.args.key)) c.as_slice.ensures.value) ∙ none_nested c.in-Few.few.items c.args.key
    ∙ ap (λ held. set.len (at_number (values_of held) c.args.key) == 0) (sym c.in-Few.is) ∙ ap (λ m. set.len (at_number m c.args.key) == 0) c.self.view_is

pub returns-in-None : goal.returns-in-None
returns-in-None c =
    sym (ap (λ n. n == 0) (map.len-empty value_cmp (Unit {0}))) ∙ ap (λ s. set.len s == 0) c.in-None.ensures
    ∙ ap (λ held. set.len (at_number (values_of held) c.args.key) == 0) (sym c.in-Many.is) ∙ ap (λ m. set.len (at_number m c.args.key) == 0) c.self.view_is
