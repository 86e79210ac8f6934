use Rattle.std.proofs.Common.{ap}
use Rattle.bl_cli.specs.declared.command.Look.TheVariants as look
use Rattle.bl_cli.specs.Shown.{page_body}
use Rattle.bl_cli.proofs.ToldTexts.{no_page, page_err, page_is_told, tells_made}
use Rattle.bl_cli.proofs.shown.tell_page.Goals as goal

pub returns-in-Ok : goal.returns-in-Ok
returns-in-Ok g c =
    tells_made g.D.Disk (look.Page c.args.ask) c.args.engine.now c.page.new.self c.requires.ready (page_body c.in-Ok.page.events) (page_is_told c.args.ask c.page.new.self.world c.in-Ok.page.events c.in-Ok.ensures.slice c.in-Ok.ensures.page.some)
    c.in-Ok.ensures.looks c.page_body.result c.made.result c.page_body.ensures c.made.ensures

pub returns-in-Err : goal.returns-in-Err
returns-in-Err g c =
    no_page g.D.Disk c.args.engine.now c.page.new.self c.requires.ready c.args.ask c.in-Err.refusal (λ is. (c.in-Err.ensures.none (ap page_err is)).1) c.in-Err.ensures.looks c.page_status.result c.page_status.ensures
