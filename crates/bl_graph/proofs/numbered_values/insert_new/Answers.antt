use Rattle.std.proofs.Common.{sym, ap, subst, ◌∙◌}
use Rattle.std.specs.List.{list_any}
use Rattle.bl_outside.specs.OrderedSet as set
use Rattle.bl_graph.specs.Held.{AreHeldOnce, values_of}
use Rattle.bl_graph.specs.Numbered.{AreOnce, at_number, nested}
use Rattle.bl_graph.proofs.Nested.{give, has_nested, is_pair, nested_more, once_more}
use Rattle.bl_graph.proofs.numbered_values.insert_new.Goals as goal

pub returns-in_ok-push_exact-in-Few-clause-ok : goal.returns-in_ok-push_exact-in-Few-clause-ok
returns-in_ok-push_exact-in-Few-clause-ok c =
    ap nested c.in_ok-push_exact-in-Few.ensures.ok ∙ nested_more c.in-Few.few.items c.args.key c.in_ok-copy-in-Few.field-0
    ∙ ap (give (nested c.in-Few.few.items) c.args.key) c.in_ok-copy-in-Few.ensures
    ∙ ap (λ held. give (values_of held) c.args.key c.args.value.now) (sym c.in-Few.is)

pub returns-in_ok-push_exact-in-Few-clause-once : goal.returns-in_ok-push_exact-in-Few-clause-once
returns-in_ok-push_exact-in-Few-clause-once c = λ once out.
    subst AreOnce (sym c.in_ok-push_exact-in-Few.ensures.ok)
    (once_more c.in-Few.few.items c.args.key c.in_ok-copy-in-Few.field-0 (subst AreHeldOnce c.in-Few.is once)
    (ap (λ v. list_any (is_pair c.args.key v) c.in-Few.few.items) c.in_ok-copy-in-Few.ensures ∙ sym (has_nested c.in-Few.few.items c.args.key c.args.value.now)
    ∙ ap (λ held. set.contains (at_number (values_of held) c.args.key) c.args.value.now) (sym c.in-Few.is) ∙ out))
