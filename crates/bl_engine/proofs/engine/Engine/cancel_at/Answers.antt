use Rattle.std.proofs.Common.{◌≡◌, Err, ◌∙◌, ap, subst, sym}
use Rattle.std.proofs.lemmas.Result.{err_from_is_err_and}
use Rattle.bl_world.specs.Makings.{CancelEntry}
use Rattle.bl_engine.specs.Attempts.{Attempts}
use Rattle.bl_engine.specs.Engines.{View}
use Rattle.bl_engine.specs.Outcomes.{Done, cancel_outcome}
use Rattle.bl_engine.specs.Appending.{refused_outcome}
use Rattle.bl_engine.proofs.Composed.{attempts_just, attempts_refused, attempts_starved}
use Rattle.bl_engine.proofs.Looking.{looks_ready}
use Rattle.bl_engine.proofs.Told.{cancel_append}
use Rattle.bl_engine.proofs.engine.Engine.cancel_at.Goals as goal

pub returns-in-None-clause-attempts : goal.returns-in-None-clause-attempts
returns-in-None-clause-attempts g c =
    attempts_refused g.D.Disk (CancelEntry c.args.id c.args.now) c.args.self.now c.args.self.now (looks_ready g.D.Disk g.met.D.Disk.counts_now g.met.D.Disk.only_now c.args.self.now c.requires) c.requires

pub returns-then-not-is_unended-clause-attempts : goal.returns-then-not-is_unended-clause-attempts
returns-then-not-is_unended-clause-attempts g c =
    attempts_refused g.D.Disk (CancelEntry c.args.id c.args.now) c.args.self.now c.args.self.now (looks_ready g.D.Disk g.met.D.Disk.counts_now g.met.D.Disk.only_now c.args.self.now c.requires) c.requires

pub returns-in_err-append-clause-attempts : goal.returns-in_err-append-clause-attempts
returns-in_err-append-clause-attempts g c =
    let p = err_from_is_err_and c.from_residual.result c.from_residual.ensures.1 in
    let made = subst (λ (v : View g.row.D.Denot). CancelEntry c.args.id c.args.now v.world c.cancel_entry-entry.result) c.self.view_is c.cancel_entry-entry.ensures.entry in
    subst (λ o. Attempts g.D.Disk (CancelEntry c.args.id c.args.now) c.args.self.now c.append.new.self o) (sym (ap cancel_outcome (p.1 ∙ ap (λ e. Err e) p.2) ∙ cancel_append _))
    (attempts_just g.D.Disk (CancelEntry c.args.id c.args.now) c.args.self.now.world c.cancel_entry-entry.result c.args.self.now c.append.new.self _ made c.in_err-append.ensures)

pub returns-clause-attempts : goal.returns-clause-attempts
returns-clause-attempts g c =
    let made = subst (λ (v : View g.row.D.Denot). CancelEntry c.args.id c.args.now v.world c.cancel_entry-entry.result) c.self.view_is c.cancel_entry-entry.ensures.entry in
    attempts_just g.D.Disk (CancelEntry c.args.id c.args.now) c.args.self.now.world c.cancel_entry-entry.result c.args.self.now c.append.new.self Done made c.in_ok-append.ensures
