use Rattle.std.proofs.Common.{◌≡◌, Ok, Err, ◌∙◌, ap, subst, sym}
use Rattle.std.specs.Prelude.{Result}
use Rattle.std.proofs.lemmas.Result.{err_from_is_err_and}
use Rattle.bl_world.specs.declared.work.Work.{Work}
use Rattle.bl_engine.specs.declared.refusals.TurnRefusal.{TurnRefusal}
use Rattle.bl_engine.specs.declared.refusals.TurnRefusal.TheVariants.{Stale}
use Rattle.bl_engine.specs.declared.turned.Turned.{Turned}
use Rattle.bl_engine.specs.Attempts.{Attempts}
use Rattle.bl_engine.specs.Findings.{TakenEntry, Tells}
use Rattle.bl_engine.specs.Outcomes.{Done, turn_outcome}
use Rattle.bl_engine.proofs.Composed.{attempts_refused}
use Rattle.bl_engine.proofs.Looking.{looks_ready}
use Rattle.bl_engine.proofs.Told.{turn_done, turn_failed}
use Rattle.bl_engine.proofs.engine.Engine.rows_at.Goals as goal

abbrev failed : TurnRefusal → Result Turned TurnRefusal
failed refusal = Err refusal

pub returns-in_err-check_work-clause-attempts : goal.returns-in_err-check_work-clause-attempts
returns-in_err-check_work-clause-attempts g c =
    let p = err_from_is_err_and c.from_residual.result c.from_residual.ensures.1 in
    let stale = c.in_err-check_work.ensures in
    subst (λ (r : Result Turned TurnRefusal). Attempts g.D.Disk (Tells (TakenEntry c.args.work c.args.rows.now c.args.now) r) c.args.self.now c.args.self.now (turn_outcome r)) (sym (p.1 ∙ ap (λ e. Err e) (p.2 ∙ stale.1)))
    (attempts_refused g.D.Disk (Tells (TakenEntry c.args.work c.args.rows.now c.args.now) (failed (Stale stale.0))) c.args.self.now c.args.self.now (looks_ready g.D.Disk g.met.D.Disk.counts_now g.met.D.Disk.only_now c.args.self.now c.requires.ready) c.requires.ready)

pub returns-in_err-take_rows-in-Continue-clause-attempts : goal.returns-in_err-take_rows-in-Continue-clause-attempts
returns-in_err-take_rows-in-Continue-clause-attempts g c =
    let p = err_from_is_err_and c.from_residual-in_err-take_rows-in-Continue.result c.from_residual-in_err-take_rows-in-Continue.ensures.1 in
    turn_failed g.D.Disk (λ w. TakenEntry w c.args.rows.now c.args.now) c.args.work _ c.in-Continue.is c.args.self.now c.take_rows.new.self _ c.from_residual-in_err-take_rows-in-Continue.result (p.1 ∙ ap (λ e. Err e) p.2) c.in_err-take_rows-in-Continue.ensures

pub returns-clause-attempts : goal.returns-clause-attempts
returns-clause-attempts g c =
    turn_done g.D.Disk (λ w. TakenEntry w c.args.rows.now c.args.now) c.args.work _ c.in-Continue.is c.args.self.now c.take_rows.new.self c.in_ok-take_rows-in-Continue.field-0 c.in_ok-take_rows-in-Continue.ensures
