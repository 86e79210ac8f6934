use Rattle.std.proofs.Common.{sym, ap, ◌∙◌, not, ◌==◌, length, filter}
use Rattle.std.specs.FinMap as map
use Rattle.std.specs.Option.{option_copied, unwrap_or}
use Rattle.bl_outside.specs.OrderedSet as set
use Rattle.bl_outside.proofs.Finite.{no_items}
use Rattle.bl_value.specs.Order.{value_cmp}
use Rattle.bl_graph.specs.Admission.{is_among}
use Rattle.bl_graph.specs.Numbered.{at_number}
use Rattle.bl_graph.proofs.Nested.{none_at}
use Rattle.bl_graph.proofs.found.FoundKey.has_other.Goals as goal

pub returns-in-None : goal.returns-in-None
returns-in-None c =
    sym (ap (λ vs. not (length (filter (λ value. not (is_among c.args.given.now value)) vs) == 0)) (no_items value_cmp)) ∙ ap (λ s. not (length (filter (λ value. not (is_among c.args.given.now value)) (set.items s)) == 0)) (none_at c.self.inside.number)
    ∙ ap (λ o. not (length (filter (λ value. not (is_among c.args.given.now value)) (set.items (at_number (unwrap_or (option_copied o) map.empty) c.self.inside.number))) == 0)) (sym c.in-None.is) ∙ ap (λ s. not (length (filter (λ value. not (is_among c.args.given.now value)) (set.items s)) == 0)) c.self.view_is
