use Rattle.std.proofs.Common.{◌∙◌, ap, subst}
use Rattle.std.proofs.lemmas.Result.{err_from_is_err_and}
use Rattle.bl_world.specs.Makings.{CancelEntry}
use Rattle.bl_engine.specs.Findings.{CancelFinds}
use Rattle.bl_engine.specs.Attempts.{Attempts}
use Rattle.bl_engine.specs.Engines.{View}
use Rattle.bl_engine.specs.Outcomes.{cancel_outcome}
use Rattle.bl_engine.proofs.Composed.{attempts_after, finds_after, shut_at}
use Rattle.bl_engine.proofs.engine.Engine.cancel.Goals as goal

pub returns-in_err-ready-clause-finds : goal.returns-in_err-ready-clause-finds
returns-in_err-ready-clause-finds g c =
    let p = err_from_is_err_and c.from_residual.result c.from_residual.ensures.1 in
    (shut_at g.D.Disk cancel_outcome (λ r. CancelFinds c.args.id r) (λ r. CancelEntry c.args.id (g.K.Clock.last c.now-now.new.self)) c.args.self.now c.ready.new.self c.from_residual.result _ (ap cancel_outcome p.1 ∙ p.2) c.in_err-ready.ensures.looks c.in_err-ready.ensures.closed).0

pub returns-in_err-ready-clause-attempts : goal.returns-in_err-ready-clause-attempts
returns-in_err-ready-clause-attempts g c =
    let p = err_from_is_err_and c.from_residual.result c.from_residual.ensures.1 in
    (shut_at g.D.Disk cancel_outcome (λ r. CancelFinds c.args.id r) (λ r. CancelEntry c.args.id (g.K.Clock.last c.now-now.new.self)) c.args.self.now c.ready.new.self c.from_residual.result _ (ap cancel_outcome p.1 ∙ p.2) c.in_err-ready.ensures.looks c.in_err-ready.ensures.closed).1

pub returns-clause-finds : goal.returns-clause-finds
returns-clause-finds g c =
    finds_after g.D.Disk (CancelEntry c.args.id c.now-now.result) c.args.self.now c.ready.new.self c.cancel_at.new.self c.in_ok-ready.ensures.looks c.in_ok-ready.ensures.ready (cancel_outcome c.cancel_at.result) (CancelFinds c.args.id c.cancel_at.result)
    c.cancel_at.ensures.finds (λ is. ap (λ (v : View g.row.D.Denot). v.world) (c.cancel_at.ensures.refused is))

pub returns-clause-attempts : goal.returns-clause-attempts
returns-clause-attempts g c =
    subst (λ n. Attempts g.D.Disk (CancelEntry c.args.id n) c.args.self.now c.cancel_at.new.self (cancel_outcome c.cancel_at.result)) c.now-now.ensures.value
    (attempts_after g.D.Disk (CancelEntry c.args.id c.now-now.result) c.args.self.now c.ready.new.self c.cancel_at.new.self c.in_ok-ready.ensures.looks c.in_ok-ready.ensures.ready (cancel_outcome c.cancel_at.result) c.cancel_at.ensures.attempts)
