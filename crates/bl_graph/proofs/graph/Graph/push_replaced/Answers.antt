use Rattle.std.proofs.Common.{sym, ap, ◌∙◌, ◌++◌, map, filter, not}
use Rattle.std.proofs.lemmas.List.{append-nil}
use Rattle.std.proofs.lemmas.Result.{on_ok_weaker}
use Rattle.bl_outside.specs.OrderedSet as set
use Rattle.bl_value.specs.declared.change.Change.TheVariants.{RemoveValue}
use Rattle.bl_graph.specs.Admission.{is_among}
use Rattle.bl_graph.proofs.Conflicts.{none_replaced, others_replaced}
use Rattle.bl_graph.proofs.graph.Graph.push_replaced.Goals as goal

pub returns-then-not-conflicts : goal.returns-then-not-conflicts
returns-then-not-conflicts c =
    sym (append-nil c.args.changes.now)
    ∙ ap (λ values. c.args.changes.now ++ map (λ value. RemoveValue c.args.side c.args.id.now c.args.property.now.key value) values) (sym (none_replaced c.args.self.now c.args.side c.args.id.now c.args.property.now (sym c.if-not-conflicts.ensures)))

pub returns : goal.returns
returns c =
    on_ok_weaker c.push_others.result (λ e. e
    ∙ ap (λ s. c.args.changes.now ++ map (λ value. RemoveValue c.args.side c.args.id.now c.args.property.now.key value) (filter (λ value. not (is_among c.args.property.now.values value)) (set.items s))) (c.in_ok-ordered.ensures ∙ c.requires)
    ∙ ap (λ values. c.args.changes.now ++ map (λ value. RemoveValue c.args.side c.args.id.now c.args.property.now.key value) values) (others_replaced c.args.self.now c.args.side c.args.id.now c.args.property.now (sym c.if-not-conflicts.ensures))) c.push_others.ensures
