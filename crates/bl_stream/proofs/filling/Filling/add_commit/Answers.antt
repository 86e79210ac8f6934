use Rattle.std.proofs.Common.{◌≡◌, List, OnOk, subst, arith}
use Rattle.bl_change.specs.declared.event.Event.{Event}
use Rattle.bl_stream.specs.Slices.{with_events}
use Rattle.bl_stream.proofs.FilledPages.{left_events, none_left}
use Rattle.bl_stream.proofs.filling.Filling.add_commit.Goals as goal

pub returns-then-before-operations-clause-filled : goal.returns-then-before-operations-clause-filled
returns-then-before-operations-clause-filled c =
    none_left c.args.self.now c.args.number c.args.before c.args.commit (omega (arith, c.len-operations.ensures, c.if-before-operations.true))

pub returns-clause-filled : goal.returns-clause-filled
returns-clause-filled c =
    subst (λ (events : List Event). OnOk c.add_changes.result (c.add_changes.new.self ≡ with_events c.args.self.now events))
    (left_events c.args.number c.args.before c.len-operations.result c.args.commit _ c.drop_front.ensures c.len-operations.ensures c.if-before-operations.false)
    c.add_changes.ensures
