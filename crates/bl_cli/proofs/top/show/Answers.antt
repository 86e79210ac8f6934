use Rattle.std.proofs.Common.{sym, ap, subst, ◌∙◌}
use Rattle.bl_cli.specs.LoadFaults.{status_of}
use Rattle.bl_cli.specs.Shows.{ShowRuns}
use Rattle.bl_cli.proofs.ShownStores.{opened_shows, refused_shows}
use Rattle.bl_cli.proofs.top.show.Goals as goal

pub returns-in-Err : goal.returns-in-Err
returns-in-Err g c =
    subst (λ s. ShowRuns g.D.Disk c.args.look c.args.disks c.in-Err.disks (g.O.Sink.written c.args.out.now) (g.O.Sink.written c.args.out.now) (g.O.Sink.faults c.args.out.now) (g.O.Sink.faults c.args.out.now) s)
    (sym (c.status.ensures ∙ ap status_of c.from.ensures))
    (refused_shows g.D.Disk g.met.D.Disk.counts_now c.args.look c.args.disks c.in-Err.disks (g.O.Sink.written c.args.out.now) (g.O.Sink.faults c.args.out.now) 0 c.in-Err.trouble c.in-Err.ensures.opens c.in-Err.ensures.back)

pub returns-in-Ok : goal.returns-in-Ok
returns-in-Ok g c =
    opened_shows g.D.Disk g.met.D.Disk.counts_now c.args.look c.args.disks c.into_disks.result (g.O.Sink.written c.args.out.now) c.in-Ok.engine c.show_over-status.new.engine c.in-Ok.ensures.opens c.in-Ok.ensures.ready c.in-Ok.ensures.slots
    (λ ready. c.is_ready.ensures.leads (c.is_ready.ensures.ready ∙ ready)) (λ ready. c.is_ready.ensures.at (c.is_ready.ensures.ready ∙ ready)) c.into_disks.ensures.journal c.into_disks.ensures.left c.into_disks.ensures.right
    (g.O.Sink.written c.show_over-status.new.out) (g.O.Sink.faults c.args.out.now) (g.O.Sink.faults c.show_over-status.new.out) c.show_over-status.result c.show_over-status.ensures
