use Rattle.std.proofs.Common.{◌≡◌, Ok, Err, ◌∙◌, ap, subst, sym}
use Rattle.std.specs.Prelude.{Result}
use Rattle.std.proofs.lemmas.Result.{err_from_is_err_and}
use Rattle.bl_journal.specs.declared.refusal.AppendRefusal.{AppendRefusal}
use Rattle.bl_journal.specs.declared.refusal.AppendRefusal.TheVariants.{NoMemory}
use Rattle.bl_world.specs.Makings.{EndEntry}
use Rattle.bl_engine.specs.declared.turned.Turned.{Turned}
use Rattle.bl_engine.specs.Attempts.{Attempts}
use Rattle.bl_engine.specs.Engines.{View}
use Rattle.bl_engine.specs.Findings.{Tells}
use Rattle.bl_engine.specs.Outcomes.{Done}
use Rattle.bl_engine.specs.Appending.{append_outcome}
use Rattle.bl_engine.proofs.Composed.{attempts_just, attempts_starved}
use Rattle.bl_engine.proofs.Looking.{looks_ready}
use Rattle.bl_engine.proofs.engine.Engine.end_feed.Goals as goal

abbrev failed : AppendRefusal → Result Turned AppendRefusal
failed refusal = Err refusal

abbrev told : Turned → Result Turned AppendRefusal
told turned = Ok turned

pub returns-in_err-append : goal.returns-in_err-append
returns-in_err-append g c =
    let p = err_from_is_err_and c.from_residual.result c.from_residual.ensures.1 in
    let made = subst (λ (v : View g.row.D.Denot). EndEntry c.args.job c.args.feed c.args.end c.args.now v.world c.end_entry-entry.result) c.self.view_is c.end_entry-entry.ensures.entry in
    subst (λ (r : Result Turned AppendRefusal). Attempts g.D.Disk (Tells (EndEntry c.args.job c.args.feed c.args.end c.args.now) r) c.args.self.now c.append.new.self (append_outcome r)) (sym (p.1 ∙ ap (λ e. Err e) p.2))
    (attempts_just g.D.Disk (Tells (EndEntry c.args.job c.args.feed c.args.end c.args.now) (failed NoMemory)) c.args.self.now.world c.end_entry-entry.result c.args.self.now c.append.new.self _ made c.in_err-append.ensures)

pub returns : goal.returns
returns g c =
    let made = subst (λ (v : View g.row.D.Denot). EndEntry c.args.job c.args.feed c.args.end c.args.now v.world c.end_entry-entry.result) c.self.view_is c.end_entry-entry.ensures.entry in
    attempts_just g.D.Disk (Tells (EndEntry c.args.job c.args.feed c.args.end c.args.now) (told c.turned_by-told.result)) c.args.self.now.world c.end_entry-entry.result c.args.self.now c.append.new.self Done (made, c.turned_by-told.ensures) c.in_ok-append.ensures
