use Rattle.std.proofs.Common.{sym, ap, ◌∙◌, None}
use Rattle.std.specs.FinMap as map
use Rattle.std.specs.Option.{option_copied, unwrap_or}
use Rattle.bl_outside.specs.OrderedSet as set
use Rattle.bl_graph.specs.Graph.{at_key}
use Rattle.bl_graph.specs.Numbered.{named}
use Rattle.bl_graph.proofs.Named.{named_at, named_missing, none_named}
use Rattle.bl_graph.proofs.found.FoundValues.at.Goals as goal

pub returns-in_default : goal.returns-in_default
returns-in_default c =
    c.nothing.ensures ∙ ap (λ o. unwrap_or o set.empty) (sym (none_named c.self.inside.names.now c.args.key.now))
    ∙ ap (λ o. at_key (named c.self.inside.names.now (unwrap_or (option_copied o) map.empty)) c.args.key.now) (sym c.in_default.is) ∙ ap (λ m. at_key m c.args.key.now) c.self.view_is

pub returns-in-Some-number_of : goal.returns-in-Some-number_of
returns-in-Some-number_of c =
    ap (λ o. unwrap_or o set.empty) (sym (named_at c.self.inside.names.now c.in-Some.values.now c.args.key.now c.in-Some-number_of.number None (sym c.in-Some-number_of.ensures)))
    ∙ ap (λ o. at_key (named c.self.inside.names.now (unwrap_or (option_copied o) map.empty)) c.args.key.now) (sym c.in-Some.is) ∙ ap (λ m. at_key m c.args.key.now) c.self.view_is

pub returns-in-None : goal.returns-in-None
returns-in-None c =
    c.nothing-in-None.ensures
    ∙ ap (λ o. unwrap_or o set.empty) (sym (named_missing c.self.inside.names.now (unwrap_or (option_copied c.self.inside.values) map.empty) c.args.key.now (sym c.in-None.ensures)))
    ∙ ap (λ m. at_key m c.args.key.now) c.self.view_is
