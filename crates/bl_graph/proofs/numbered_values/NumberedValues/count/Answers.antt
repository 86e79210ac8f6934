use Rattle.std.proofs.Common.{sym, ap, subst, ◌∙◌, ◌-◌, ◌^◌, length, min}
use Rattle.bl_graph.specs.Held.{AreHeldOnce, values_of}
use Rattle.bl_graph.specs.Numbered.{values_count}
use Rattle.bl_graph.proofs.Nested.{count_nested, small_min}
use Rattle.bl_graph.proofs.numbered_values.NumberedValues.count.Goals as goal

pub returns-in-Few : goal.returns-in-Few
returns-in-Few c =
    small_min c.count_pairs.result c.count_pairs.type_inv
    ∙ ap (λ n. min n (2 ^ 64 - 1))
    (c.count_pairs.ensures ∙ ap length c.as_slice.ensures.value ∙ sym (count_nested c.in-Few.few.items (subst AreHeldOnce c.in-Few.is c.self.invariant))
    ∙ ap (λ held. values_count (values_of held)) (sym c.in-Few.is) ∙ ap values_count c.self.view_is)
