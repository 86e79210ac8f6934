use Rattle.std.proofs.Common.{subst}
use Rattle.bl_cli.specs.Shows.{PrintsText}
use Rattle.bl_cli.proofs.ShownStores.{over_told, over_untold}
use Rattle.bl_cli.proofs.top.show_over.Goals as goal

pub returns-in-Ok : goal.returns-in-Ok
returns-in-Ok g c =
    over_told g.D.Disk c.args.look c.args.engine.now c.tell.new.engine (g.O.Sink.written c.args.out.now) (g.O.Sink.faults c.args.out.now) c.in-Ok.text c.in-Ok.ensures
    (g.O.Sink.written c.print.new.out) (g.O.Sink.faults c.print.new.out) c.print.result
    (subst (λ text. PrintsText (g.O.Sink.written c.args.out.now) (g.O.Sink.written c.print.new.out) (g.O.Sink.faults c.args.out.now) (g.O.Sink.faults c.print.new.out) text c.print.result) c.as_slice.ensures c.print.ensures)

pub returns-in-Err : goal.returns-in-Err
returns-in-Err g c = over_untold g.D.Disk c.args.look c.args.engine.now c.tell.new.engine (g.O.Sink.written c.args.out.now) (g.O.Sink.faults c.args.out.now) c.in-Err.status c.in-Err.ensures
