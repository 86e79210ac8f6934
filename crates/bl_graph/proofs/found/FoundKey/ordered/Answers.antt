use Rattle.std.proofs.Common.{sym, ap, ◌∙◌}
use Rattle.std.specs.FinMap as map
use Rattle.std.specs.Option.{option_copied, unwrap_or}
use Rattle.bl_graph.specs.Numbered.{at_number}
use Rattle.bl_graph.proofs.Nested.{none_at}
use Rattle.bl_graph.proofs.found.FoundKey.ordered.Goals as goal

pub returns-in-None : goal.returns-in-None
returns-in-None c =
    c.new.ensures ∙ none_at c.self.inside.number
    ∙ ap (λ o. at_number (unwrap_or (option_copied o) map.empty) c.self.inside.number) (sym c.in-None.is) ∙ c.self.view_is
