use Rattle.std.proofs.Common.{rules, sym, ap, subst, ◌∙◌, not}
use Rattle.std.proofs.lemmas.Fn.{filter_same}
use Rattle.bl_graph.specs.Held.{AreHeldOnce, values_of}
use Rattle.bl_graph.specs.Numbered.{AreOnce, nested}
use Rattle.bl_graph.proofs.Nested.{is_pair, nested_less, once_left, take_out}
use Rattle.bl_graph.proofs.numbered_values.remove_from.Goals as goal

pub returns-in-Few-clause-left : goal.returns-in-Few-clause-left
returns-in-Few-clause-left c =
    ap nested (filter_same _ (λ e. not (is_pair c.args.key c.args.value.now e)) _ (λ x b f called. search rules) c.in-Few.few.items c.retain.new.self.items c.retain.ensures.filtered)
    ∙ nested_less c.in-Few.few.items c.args.key c.args.value.now
    ∙ ap (λ held. take_out (values_of held) c.args.key c.args.value.now) (sym c.in-Few.is)

pub returns-in-Few-clause-once : goal.returns-in-Few-clause-once
returns-in-Few-clause-once c = λ once.
    subst AreOnce (sym (filter_same _ (λ e. not (is_pair c.args.key c.args.value.now e)) _ (λ x b f called. search rules) c.in-Few.few.items c.retain.new.self.items c.retain.ensures.filtered))
    (once_left (λ e. not (is_pair c.args.key c.args.value.now e)) c.in-Few.few.items (subst AreHeldOnce c.in-Few.is once))
