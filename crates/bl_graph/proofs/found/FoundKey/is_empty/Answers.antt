use Rattle.std.proofs.Common.{sym, ap, ◌∙◌, ◌==◌}
use Rattle.std.specs.FinMap as map
use Rattle.std.specs.Option.{option_copied, unwrap_or}
use Rattle.bl_outside.specs.OrderedSet as set
use Rattle.bl_value.specs.Order.{value_cmp}
use Rattle.bl_graph.specs.Numbered.{at_number}
use Rattle.bl_graph.proofs.Nested.{none_at}
use Rattle.bl_graph.proofs.found.FoundKey.is_empty.Goals as goal

pub returns-in-None : goal.returns-in-None
returns-in-None c =
    sym (ap (λ n. n == 0) (map.len-empty value_cmp (Unit {0}))) ∙ ap (λ s. set.len s == 0) (none_at c.self.inside.number)
    ∙ ap (λ o. set.len (at_number (unwrap_or (option_copied o) map.empty) c.self.inside.number) == 0) (sym c.in-None.is) ∙ ap (λ s. set.len s == 0) c.self.view_is
