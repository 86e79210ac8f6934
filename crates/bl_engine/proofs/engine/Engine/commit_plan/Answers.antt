use Rattle.std.proofs.Common.{◌∙◌, ap, subst}
use Rattle.std.proofs.lemmas.Result.{err_from_is_err_and}
use Rattle.bl_engine.specs.Findings.{PlannedEntry, Tells, TurnFinds}
use Rattle.bl_engine.specs.Attempts.{Attempts}
use Rattle.bl_engine.specs.Engines.{View}
use Rattle.bl_engine.specs.Outcomes.{turn_outcome}
use Rattle.bl_engine.proofs.Composed.{attempts_after, finds_after, shut_at}
use Rattle.bl_engine.proofs.engine.Engine.commit_plan.Goals as goal

pub returns-in_err-ready-clause-attempts : goal.returns-in_err-ready-clause-attempts
returns-in_err-ready-clause-attempts g c =
    let p = err_from_is_err_and c.from_residual.result c.from_residual.ensures.1 in
    (shut_at g.D.Disk turn_outcome (λ r. TurnFinds c.args.work r) (λ r. Tells (PlannedEntry c.args.work c.args.plan (g.K.Clock.last c.now-now.new.self)) r) c.args.self.now c.ready.new.self c.from_residual.result _ (ap turn_outcome p.1 ∙ p.2) c.in_err-ready.ensures.looks c.in_err-ready.ensures.closed).1

pub returns-clause-finds : goal.returns-clause-finds
returns-clause-finds g c =
    finds_after g.D.Disk (Tells (PlannedEntry c.args.work c.args.plan c.now-now.result) c.plan_at.result) c.args.self.now c.ready.new.self c.plan_at.new.self c.in_ok-ready.ensures.looks c.in_ok-ready.ensures.ready (turn_outcome c.plan_at.result) (TurnFinds c.args.work c.plan_at.result)
    c.plan_at.ensures.finds (λ is. ap (λ (v : View g.row.D.Denot). v.world) (c.plan_at.ensures.refused is))

pub returns-clause-attempts : goal.returns-clause-attempts
returns-clause-attempts g c =
    subst (λ n. Attempts g.D.Disk (Tells (PlannedEntry c.args.work c.args.plan n) c.plan_at.result) c.args.self.now c.plan_at.new.self (turn_outcome c.plan_at.result)) c.now-now.ensures.value
    (attempts_after g.D.Disk (Tells (PlannedEntry c.args.work c.args.plan c.now-now.result) c.plan_at.result) c.args.self.now c.ready.new.self c.plan_at.new.self c.in_ok-ready.ensures.looks c.in_ok-ready.ensures.ready (turn_outcome c.plan_at.result) c.plan_at.ensures.attempts)
