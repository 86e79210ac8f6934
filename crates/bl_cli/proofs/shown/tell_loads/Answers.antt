use Rattle.std.proofs.Common.{ap, ◌∙◌}
use Rattle.bl_cli.specs.declared.command.Look.TheVariants as look
use Rattle.bl_cli.specs.LoadFaults.{status_of}
use Rattle.bl_cli.specs.Shown.{list_body}
use Rattle.bl_cli.proofs.ToldTexts.{loads_are_told, no_loads, tells_made}
use Rattle.bl_cli.proofs.shown.tell_loads.Goals as goal

pub returns-in-Ok : goal.returns-in-Ok
returns-in-Ok g c =
    tells_made g.D.Disk look.Loads c.args.engine.now c.list.new.self c.requires (list_body c.in-Ok.ids) (loads_are_told c.list.new.self.world c.in-Ok.ids c.in-Ok.ensures.ids) c.in-Ok.ensures.looks
    c.list_body.result c.made.result c.list_body.ensures c.made.ensures

pub returns-in-Err : goal.returns-in-Err
returns-in-Err g c = no_loads g.D.Disk c.args.engine.now c.list.new.self c.requires c.in-Err.trouble c.in-Err.ensures.looks c.status.result (c.status.ensures ∙ ap status_of c.from.ensures)
