use Rattle.std.proofs.Common.{ap, ◌∙◌}
use Rattle.bl_cli.proofs.FoundJobs.{finds_ok, never_unknown, view_err}
use Rattle.bl_cli.proofs.loads.find_load.Goals as goal

pub unreachable-requires : goal.unreachable-requires
unreachable-requires g c =
    never_unknown g.D.Disk c.args.id c.args.engine.now c.status.new.self c.requires.kept (c.status.ensures.looks.same c.requires.ready)
    (c.status.ensures.unknown (c.in-Err-Unknown.is ∙ ap view_err c.in-Err-Unknown.field-0-is)).1

pub returns-in-Ok : goal.returns-in-Ok
returns-in-Ok g c = finds_ok g.D.Disk c.args.id c.args.engine.now c.status.new.self c.in-Ok.job c.requires.ready c.in-Ok.ensures.job c.in-Ok.ensures.looks
