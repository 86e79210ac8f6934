use Rattle.std.proofs.Common.{Ok, Err, sym, ap, subst, ◌∙◌}
use Rattle.std.proofs.lemmas.Result.{err_from_is_err_and}
use Rattle.bl_world.proofs.SureWorlds.{have_jobs}
use Rattle.bl_cli.specs.Loads.{DrainsAll, Makes}
use Rattle.bl_cli.proofs.MadeAll.{makes_found, makes_undrained, makes_unended, makes_unsubmitted, tag_last}
use Rattle.bl_cli.proofs.loads.make_load.Goals as goal

pub returns-in_err-drain_all-clause-makes : goal.returns-in_err-drain_all-clause-makes
returns-in_err-drain_all-clause-makes g c =
    let p = err_from_is_err_and c.from_residual.result c.from_residual.ensures.1 in
    subst (λ r. Makes g.D.Disk (g.F.Folder.files c.args.folder.now) c.args.salt c.args.request c.args.engine.now c.drain_all.new.engine r) (sym (p.1 ∙ ap (λ e. Err e) p.2))
    (makes_undrained g.D.Disk (g.F.Folder.files c.args.folder.now) c.args.salt c.args.request c.args.engine.now c.drain_all.new.engine _ c.in_err-drain_all.ensures.drains)

pub returns-in_err-id-clause-makes : goal.returns-in_err-id-clause-makes
returns-in_err-id-clause-makes g c =
    let p = err_from_is_err_and c.from_residual-in_err-id.result c.from_residual-in_err-id.ensures.1 in
    subst (λ r. Makes g.D.Disk (g.F.Folder.files c.args.folder.now) c.args.salt c.args.request c.args.engine.now c.submit_load.new.engine r) (sym (p.1 ∙ ap (λ e. Err e) p.2))
    (makes_unsubmitted g.D.Disk (g.F.Folder.files c.args.folder.now) c.args.salt c.args.request c.args.engine.now c.drain_all.new.engine c.in_ok-drain_all.ensures.drains c.submit_load.new.engine _ c.in_err-id.ensures)

pub returns-in_err-drain_all-2-clause-makes : goal.returns-in_err-drain_all-2-clause-makes
returns-in_err-drain_all-2-clause-makes g c =
    let p = err_from_is_err_and c.from_residual-in_err-drain_all-2.result c.from_residual-in_err-drain_all-2.ensures.1 in
    subst (λ r. Makes g.D.Disk (g.F.Folder.files c.args.folder.now) c.args.salt c.args.request c.args.engine.now c.drain_all-2.new.engine r) (sym (p.1 ∙ ap (λ e. Err e) p.2))
    (makes_unended g.D.Disk (g.F.Folder.files c.args.folder.now) c.args.salt c.args.request c.args.engine.now c.drain_all.new.engine c.in_ok-drain_all.ensures.drains c.submit_load.new.engine c.in_ok-id.id c.in_ok-id.ensures c.drain_all-2.new.engine _
    (subst (λ f. DrainsAll g.D.Disk f c.submit_load.new.engine c.drain_all-2.new.engine (Err c.in_err-drain_all-2.field-0.0)) c.in_ok-drain_all.ensures.files c.in_err-drain_all-2.ensures.drains))

pub find_load-requires-clause-kept : goal.find_load-requires-clause-kept
find_load-requires-clause-kept g c =
    tag_last g.D.Disk (g.F.Folder.files c.args.folder.now) c.args.salt c.args.request c.args.engine.now c.drain_all.new.engine c.in_ok-drain_all.ensures.drains c.submit_load.new.engine c.in_ok-id.id c.in_ok-id.ensures c.drain_all-2.new.engine
    (subst (λ f. DrainsAll g.D.Disk f c.submit_load.new.engine c.drain_all-2.new.engine (Ok tt)) c.in_ok-drain_all.ensures.files c.in_ok-drain_all-2.ensures.drains)

pub returns-clause-makes : goal.returns-clause-makes
returns-clause-makes g c =
    let second = subst (λ f. DrainsAll g.D.Disk f c.submit_load.new.engine c.drain_all-2.new.engine (Ok tt)) c.in_ok-drain_all.ensures.files c.in_ok-drain_all-2.ensures.drains in
    let leads = c.is_ready.ensures.leads (c.is_ready.ensures.ready ∙ second.idle.0.0) in
    makes_found g.D.Disk (g.F.Folder.files c.args.folder.now) c.args.salt c.args.request c.args.engine.now c.drain_all.new.engine c.in_ok-drain_all.ensures.drains c.submit_load.new.engine c.in_ok-id.id c.in_ok-id.ensures c.drain_all-2.new.engine
    second c.find_load.new.engine c.find_load.result (have_jobs leads.0 c.drain_all-2.new.engine.world leads.1) c.find_load.ensures
