use Rattle.std.proofs.Common.{◌∙◌, ap, subst}
use Rattle.std.proofs.lemmas.Result.{err_from_is_err_and}
use Rattle.bl_world.specs.Makings.{SubmitEntry}
use Rattle.bl_engine.specs.Findings.{SubmitFinds}
use Rattle.bl_engine.specs.Attempts.{Attempts}
use Rattle.bl_engine.specs.Engines.{View}
use Rattle.bl_engine.specs.Outcomes.{submit_outcome}
use Rattle.bl_engine.proofs.Composed.{attempts_after, finds_after, shut_at}
use Rattle.bl_engine.proofs.engine.Engine.submit.Goals as goal

pub returns-in_err-ready-clause-attempts : goal.returns-in_err-ready-clause-attempts
returns-in_err-ready-clause-attempts g c =
    let p = err_from_is_err_and c.from_residual.result c.from_residual.ensures.1 in
    (shut_at g.D.Disk submit_outcome (λ r. SubmitFinds c.args.salt c.args.request r) (λ r. SubmitEntry c.args.salt c.args.request (g.K.Clock.last c.now-now.new.self)) c.args.self.now c.ready.new.self c.from_residual.result _ (ap submit_outcome p.1 ∙ p.2) c.in_err-ready.ensures.looks c.in_err-ready.ensures.closed).1

pub returns-clause-finds : goal.returns-clause-finds
returns-clause-finds g c =
    finds_after g.D.Disk (SubmitEntry c.args.salt c.args.request c.now-now.result) c.args.self.now c.ready.new.self c.submit_at.new.self c.in_ok-ready.ensures.looks c.in_ok-ready.ensures.ready (submit_outcome c.submit_at.result) (SubmitFinds c.args.salt c.args.request c.submit_at.result)
    c.submit_at.ensures.finds (λ is. ap (λ (v : View g.row.D.Denot). v.world) (c.submit_at.ensures.refused is))

pub returns-clause-attempts : goal.returns-clause-attempts
returns-clause-attempts g c =
    subst (λ n. Attempts g.D.Disk (SubmitEntry c.args.salt c.args.request n) c.args.self.now c.submit_at.new.self (submit_outcome c.submit_at.result)) c.now-now.ensures.value
    (attempts_after g.D.Disk (SubmitEntry c.args.salt c.args.request c.now-now.result) c.args.self.now c.ready.new.self c.submit_at.new.self c.in_ok-ready.ensures.looks c.in_ok-ready.ensures.ready (submit_outcome c.submit_at.result) c.submit_at.ensures.attempts)
