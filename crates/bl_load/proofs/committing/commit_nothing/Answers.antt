use Rattle.std.proofs.Common.{◌≡◌, ◌∙◌, Err, Ok, ap, refl, sym}
use Rattle.std.proofs.lemmas.Result.{err_from_is_err_and}
use Rattle.bl_world.specs.declared.work.Work.TheVariants as work
use Rattle.bl_engine.specs.Findings.{TurnFinds}
use Rattle.bl_engine.specs.Outcomes.{Done, Refused, turn_outcome}
use Rattle.bl_engine.specs.declared.refusals.TurnRefusal.TheVariants.{Stale}
use Rattle.bl_engine.specs.declared.turned.Turned.TheVariants as told
use Rattle.bl_engine.proofs.Composed.{finds_after, shut_at}
use Rattle.bl_load.proofs.committing.commit_nothing.Goals as goal

pub returns-in_err-ready-clause-finds : goal.returns-in_err-ready-clause-finds
returns-in_err-ready-clause-finds g c =
    let p = err_from_is_err_and c.from_residual.result c.from_residual.ensures.1 in
    (shut_at g.D.Disk turn_outcome (λ r. TurnFinds work.Idle r) (λ r world entry. ⊥) c.args.engine.now c.ready.new.self c.from_residual.result _ (ap turn_outcome p.1 ∙ p.2) c.in_err-ready.ensures.looks c.in_err-ready.ensures.closed).0

pub returns-in-Idle-clause-finds : goal.returns-in-Idle-clause-finds
returns-in-Idle-clause-finds g c =
    finds_after g.D.Disk (λ world entry. ⊥) c.args.engine.now c.ready.new.self c.ready.new.self c.in_ok-ready.ensures.looks c.in_ok-ready.ensures.ready Done (TurnFinds work.Idle (Ok told.Idle)) (sym c.in-Idle.ensures) (λ is. refl)

pub returns-in_default-clause-finds : goal.returns-in_default-clause-finds
returns-in_default-clause-finds g c =
    finds_after g.D.Disk (λ world entry. ⊥) c.args.engine.now c.ready.new.self c.ready.new.self c.in_ok-ready.ensures.looks c.in_ok-ready.ensures.ready Refused (TurnFinds work.Idle (Err (Stale c.next_work.result)))
    (sym c.next_work.ensures, λ is. c.in_default.not-Idle is) (λ is. refl)
