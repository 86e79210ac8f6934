use Rattle.std.proofs.Common.{sym, ap, ◌∙◌, is_some, None}
use Rattle.std.specs.FinMap as map
use Rattle.std.specs.Option.{option_copied, unwrap_or}
use Rattle.bl_graph.specs.Numbered.{named}
use Rattle.bl_outside.specs.OrderedSet as set
use Rattle.bl_graph.proofs.Named.{named_at, named_missing, none_named}
use Rattle.bl_graph.proofs.found.FoundLabels.contains.Goals as goal

pub returns-in_default : goal.returns-in_default
returns-in_default c =
    ap is_some (sym (none_named c.self.inside.names.now c.args.label.now))
    ∙ ap (λ o. set.contains (named c.self.inside.names.now (unwrap_or (option_copied o) map.empty)) c.args.label.now) (sym c.in_default.is) ∙ ap (λ s. set.contains s c.args.label.now) c.self.view_is

pub returns-in-Some-number_of : goal.returns-in-Some-number_of
returns-in-Some-number_of c =
    c.contains.ensures ∙ ap is_some (sym (named_at c.self.inside.names.now c.in-Some.numbers.now c.args.label.now c.in-Some-number_of.number None (sym c.in-Some-number_of.ensures)))
    ∙ ap (λ o. set.contains (named c.self.inside.names.now (unwrap_or (option_copied o) map.empty)) c.args.label.now) (sym c.in-Some.is) ∙ ap (λ s. set.contains s c.args.label.now) c.self.view_is

pub returns-in-None : goal.returns-in-None
returns-in-None c = sym (ap is_some (named_missing c.self.inside.names.now (unwrap_or (option_copied c.self.inside.numbers) map.empty) c.args.label.now (sym c.in-None.ensures))) ∙ ap (λ s. set.contains s c.args.label.now) c.self.view_is
