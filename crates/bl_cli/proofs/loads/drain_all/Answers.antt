use Rattle.std.proofs.Common.{Err, sym, ap, subst, ◌∙◌}
use Rattle.std.proofs.lemmas.Result.{err_from_is_err_and}
use Rattle.bl_cli.specs.Loads.{DrainsAll}
use Rattle.bl_cli.proofs.MadeLoads.{drains_err}
use Rattle.bl_cli.proofs.loads.drain_all.Goals as goal

pub returns-in_err-drain-clause-drains : goal.returns-in_err-drain-clause-drains
returns-in_err-drain-clause-drains g c =
    let p = err_from_is_err_and c.from_residual.result c.from_residual.ensures.1 in
    subst (λ r. DrainsAll g.D.Disk (g.F.Folder.files c.args.folder.now) c.args.engine.now c.drain.new.engine r) (sym (p.1 ∙ ap (λ e. Err e) p.2))
    (drains_err g.D.Disk (g.F.Folder.files c.args.folder.now) c.none-held.result c.none-held.ensures c.args.engine.now c.drain.new.engine c.in_err-drain.ensures.made _ c.in_err-drain.ensures.handles c.in_err-drain.ensures.full)
