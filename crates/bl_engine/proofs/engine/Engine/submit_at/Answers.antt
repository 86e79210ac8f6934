use Rattle.std.proofs.Common.{◌≡◌, Err, ◌∙◌, ap, subst, sym, rules}
use Rattle.std.proofs.lemmas.Result.{err_from_is_err_and}
use Rattle.bl_world.specs.Makings.{SubmitEntry}
use Rattle.bl_engine.specs.Attempts.{Attempts}
use Rattle.bl_engine.specs.Engines.{View}
use Rattle.bl_engine.specs.Findings.{SubmitFinds}
use Rattle.bl_engine.specs.Outcomes.{Done, submit_outcome}
use Rattle.bl_engine.proofs.Composed.{attempts_just, attempts_refused, attempts_starved}
use Rattle.bl_engine.proofs.Looking.{looks_ready}
use Rattle.bl_engine.proofs.Told.{check_is_refused, submit_append, submit_append_finds}
use Rattle.bl_engine.proofs.engine.Engine.submit_at.Goals as goal

pub returns-in_err-check-clause-attempts : goal.returns-in_err-check-clause-attempts
returns-in_err-check-clause-attempts g c =
    let p = err_from_is_err_and c.from_residual.result c.from_residual.ensures.1 in
    subst (λ o. Attempts g.D.Disk (SubmitEntry c.args.salt c.args.request c.args.now) c.args.self.now c.args.self.now o) (sym (ap submit_outcome (p.1 ∙ ap (λ e. Err e) p.2) ∙ check_is_refused _))
    (attempts_refused g.D.Disk (SubmitEntry c.args.salt c.args.request c.args.now) c.args.self.now c.args.self.now (looks_ready g.D.Disk g.met.D.Disk.counts_now g.met.D.Disk.only_now c.args.self.now c.requires.ready) c.requires.ready)

pub returns-in_err-append-clause-finds : goal.returns-in_err-append-clause-finds
returns-in_err-append-clause-finds g c =
    let p = err_from_is_err_and c.from_residual-in_err-append.result c.from_residual-in_err-append.ensures.1 in
    subst (λ r. SubmitFinds c.args.salt c.args.request r c.args.self.now.world) (sym (p.1 ∙ ap (λ e. Err e) p.2))
    (submit_append_finds c.args.salt c.args.request c.args.self.now.world _ (search rules))

pub returns-in_err-append-clause-attempts : goal.returns-in_err-append-clause-attempts
returns-in_err-append-clause-attempts g c =
    let p = err_from_is_err_and c.from_residual-in_err-append.result c.from_residual-in_err-append.ensures.1 in
    let made = subst (λ (v : View g.row.D.Denot). SubmitEntry c.args.salt c.args.request c.args.now v.world c.submit_entry-entry.result) c.self.view_is c.submit_entry-entry.ensures.entry in
    subst (λ o. Attempts g.D.Disk (SubmitEntry c.args.salt c.args.request c.args.now) c.args.self.now c.append.new.self o) (sym (ap submit_outcome (p.1 ∙ ap (λ e. Err e) p.2) ∙ submit_append _))
    (attempts_just g.D.Disk (SubmitEntry c.args.salt c.args.request c.args.now) c.args.self.now.world c.submit_entry-entry.result c.args.self.now c.append.new.self _ made c.in_err-append.ensures)

pub returns-clause-attempts : goal.returns-clause-attempts
returns-clause-attempts g c =
    let made = subst (λ (v : View g.row.D.Denot). SubmitEntry c.args.salt c.args.request c.args.now v.world c.submit_entry-entry.result) c.self.view_is c.submit_entry-entry.ensures.entry in
    attempts_just g.D.Disk (SubmitEntry c.args.salt c.args.request c.args.now) c.args.self.now.world c.submit_entry-entry.result c.args.self.now c.append.new.self Done made c.in_ok-append.ensures
