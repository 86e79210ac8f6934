use Rattle.std.proofs.Common.{sym, ap, subst, ◌∙◌}
use Rattle.bl_cli.specs.LoadFaults.{status_of}
use Rattle.bl_cli.specs.LoadRuns.{LoadRuns}
use Rattle.bl_cli.proofs.OpenedStores.{opened_runs, refused_runs}
use Rattle.bl_cli.proofs.top.load.Goals as goal

pub returns-in-Err-clause-runs : goal.returns-in-Err-clause-runs
returns-in-Err-clause-runs g c =
    subst (λ s. LoadRuns g.D.Disk (g.F.Folder.files c.args.folder.now) c.args.salt c.args.load c.args.disks c.in-Err.disks (g.O.Sink.written c.args.out.now) (g.O.Sink.written c.args.out.now) (g.O.Sink.faults c.args.out.now) (g.O.Sink.faults c.args.out.now) s)
    (sym (c.status.ensures ∙ ap status_of c.from.ensures))
    (refused_runs g.D.Disk g.met.D.Disk.counts_now (g.F.Folder.files c.args.folder.now) c.args.salt c.args.load c.args.disks c.in-Err.disks (g.O.Sink.written c.args.out.now) (g.O.Sink.faults c.args.out.now) 0 c.in-Err.trouble c.in-Err.ensures.opens c.in-Err.ensures.back)

pub returns-in-Ok-clause-runs : goal.returns-in-Ok-clause-runs
returns-in-Ok-clause-runs g c =
    opened_runs g.D.Disk (g.F.Folder.files c.args.folder.now) c.args.salt c.args.load c.args.disks c.into_disks.result c.in-Ok.engine c.load_over-status.new.engine c.in-Ok.ensures.opens c.in-Ok.ensures.ready c.in-Ok.ensures.slots
    (λ ready. c.is_ready.ensures.leads (c.is_ready.ensures.ready ∙ ready)) (λ ready. c.is_ready.ensures.at (c.is_ready.ensures.ready ∙ ready)) c.into_disks.ensures.journal c.into_disks.ensures.left c.into_disks.ensures.right
    (g.O.Sink.written c.args.out.now) (g.O.Sink.written c.load_over-status.new.out) (g.O.Sink.faults c.args.out.now) (g.O.Sink.faults c.load_over-status.new.out) c.load_over-status.result c.load_over-status.ensures.loads
