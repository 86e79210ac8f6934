use Rattle.std.proofs.Common.{◌∙◌, ap, subst}
use Rattle.std.proofs.lemmas.Result.{err_from_is_err_and}
use Rattle.bl_engine.specs.Findings.{TakenEntry, Tells, TurnFinds}
use Rattle.bl_engine.specs.Attempts.{Attempts}
use Rattle.bl_engine.specs.Engines.{View}
use Rattle.bl_engine.specs.Outcomes.{turn_outcome}
use Rattle.bl_engine.proofs.Composed.{attempts_after, finds_after, shut_at}
use Rattle.bl_engine.proofs.engine.Engine.commit_rows.Goals as goal

pub returns-in_err-ready-clause-finds : goal.returns-in_err-ready-clause-finds
returns-in_err-ready-clause-finds g c =
    let p = err_from_is_err_and c.from_residual.result c.from_residual.ensures.1 in
    (shut_at g.D.Disk turn_outcome (λ r. TurnFinds c.args.work r) (λ r. Tells (TakenEntry c.args.work c.args.rows (g.K.Clock.last c.now-now.new.self)) r) c.args.self.now c.ready.new.self c.from_residual.result _ (ap turn_outcome p.1 ∙ p.2) c.in_err-ready.ensures.looks c.in_err-ready.ensures.closed).0

pub returns-in_err-ready-clause-attempts : goal.returns-in_err-ready-clause-attempts
returns-in_err-ready-clause-attempts g c =
    let p = err_from_is_err_and c.from_residual.result c.from_residual.ensures.1 in
    (shut_at g.D.Disk turn_outcome (λ r. TurnFinds c.args.work r) (λ r. Tells (TakenEntry c.args.work c.args.rows (g.K.Clock.last c.now-now.new.self)) r) c.args.self.now c.ready.new.self c.from_residual.result _ (ap turn_outcome p.1 ∙ p.2) c.in_err-ready.ensures.looks c.in_err-ready.ensures.closed).1

pub returns-clause-finds : goal.returns-clause-finds
returns-clause-finds g c =
    finds_after g.D.Disk (Tells (TakenEntry c.args.work c.args.rows c.now-now.result) c.rows_at.result) c.args.self.now c.ready.new.self c.rows_at.new.self c.in_ok-ready.ensures.looks c.in_ok-ready.ensures.ready (turn_outcome c.rows_at.result) (TurnFinds c.args.work c.rows_at.result)
    c.rows_at.ensures.finds (λ is. ap (λ (v : View g.row.D.Denot). v.world) (c.rows_at.ensures.refused is))

pub returns-clause-attempts : goal.returns-clause-attempts
returns-clause-attempts g c =
    subst (λ n. Attempts g.D.Disk (Tells (TakenEntry c.args.work c.args.rows n) c.rows_at.result) c.args.self.now c.rows_at.new.self (turn_outcome c.rows_at.result)) c.now-now.ensures.value
    (attempts_after g.D.Disk (Tells (TakenEntry c.args.work c.args.rows c.now-now.result) c.rows_at.result) c.args.self.now c.ready.new.self c.rows_at.new.self c.in_ok-ready.ensures.looks c.in_ok-ready.ensures.ready (turn_outcome c.rows_at.result) c.rows_at.ensures.attempts)
