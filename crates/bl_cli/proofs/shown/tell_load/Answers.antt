use Rattle.std.proofs.Common.{ap}
use Rattle.bl_cli.specs.declared.command.Look.TheVariants as look
use Rattle.bl_cli.specs.Shown.{job_body}
use Rattle.bl_cli.proofs.FoundJobs.{view_err}
use Rattle.bl_cli.proofs.ToldTexts.{load_is_told, no_load, tells_made}
use Rattle.bl_cli.proofs.shown.tell_load.Goals as goal

pub returns-in-Ok : goal.returns-in-Ok
returns-in-Ok g c =
    tells_made g.D.Disk (look.Load c.args.id) c.args.engine.now c.status.new.self c.requires (job_body c.in-Ok.job) (load_is_told c.args.id c.status.new.self.world c.in-Ok.job c.in-Ok.ensures.job) c.in-Ok.ensures.looks
    c.job_body.result c.made.result c.job_body.ensures c.made.ensures

pub returns-in-Err : goal.returns-in-Err
returns-in-Err g c =
    no_load g.D.Disk c.args.engine.now c.status.new.self c.requires c.args.id c.in-Err.refusal (λ is. (c.in-Err.ensures.unknown (ap view_err is)).1) c.in-Err.ensures.looks c.view_status.result c.view_status.ensures
