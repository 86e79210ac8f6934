use Rattle.std.proofs.Common.{sym, ap, ◌∙◌}
use Rattle.std.specs.FinMap as map
use Rattle.std.specs.Option.{option_copied, unwrap_or}
use Rattle.bl_outside.specs.OrderedSet as set
use Rattle.bl_outside.proofs.Finite.{contains-empty}
use Rattle.bl_value.specs.Order.{value_cmp}
use Rattle.bl_graph.specs.Numbered.{at_number}
use Rattle.bl_graph.proofs.Nested.{none_at}
use Rattle.bl_graph.proofs.found.FoundKey.contains.Goals as goal

pub returns-in-None : goal.returns-in-None
returns-in-None c =
    sym (contains-empty value_cmp c.args.value.now) ∙ ap (λ s. set.contains s c.args.value.now) (none_at c.self.inside.number)
    ∙ ap (λ o. set.contains (at_number (unwrap_or (option_copied o) map.empty) c.self.inside.number) c.args.value.now) (sym c.in-None.is) ∙ ap (λ s. set.contains s c.args.value.now) c.self.view_is
