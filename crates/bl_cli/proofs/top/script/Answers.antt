use Rattle.std.proofs.Common.{sym, ap, subst, ◌∙◌}
use Rattle.bl_cli.specs.LoadFaults.{status_of}
use Rattle.bl_cli.specs.ScriptRuns.{ScriptRuns, input_of}
use Rattle.bl_cli.proofs.ScriptedStores.{opened_script, refused_script}
use Rattle.bl_cli.proofs.top.script.Goals as goal

pub returns-in-Err-clause-runs : goal.returns-in-Err-clause-runs
returns-in-Err-clause-runs g c =
    let input = input_of (g.S.Source.left c.args.input.now) (g.S.Source.faults c.args.input.now) (g.S.Source.faults c.args.input.now) (g.F.Folder.faults c.args.folder.now) in
    subst (λ s. ScriptRuns g.D.Disk (g.F.Folder.files c.args.folder.now) c.args.salt c.args.turns input c.args.disks c.in-Err.disks (g.O.Sink.written c.args.out.now) (g.O.Sink.written c.args.out.now) (g.O.Sink.faults c.args.out.now) (g.O.Sink.faults c.args.out.now) s)
    (sym (c.status.ensures ∙ ap status_of c.from.ensures))
    (refused_script g.D.Disk (g.F.Folder.files c.args.folder.now) c.args.salt c.args.turns input c.args.disks c.in-Err.disks g.met.D.Disk.counts_now (g.O.Sink.written c.args.out.now) (g.O.Sink.faults c.args.out.now) _ c.in-Err.trouble c.in-Err.ensures.opens c.in-Err.ensures.back)

pub returns-in-Ok-clause-runs : goal.returns-in-Ok-clause-runs
returns-in-Ok-clause-runs g c =
    let input = input_of (g.S.Source.left c.args.input.now) (g.S.Source.faults c.args.input.now) (g.S.Source.faults c.script_over-status.new.input) (g.F.Folder.faults c.args.folder.now) in
    opened_script g.D.Disk (g.F.Folder.files c.args.folder.now) c.args.salt c.args.turns input c.args.disks c.into_disks.result c.in-Ok.engine c.script_over-status.result.1 c.in-Ok.ensures.opens c.in-Ok.ensures.ready c.in-Ok.ensures.slots
    (λ ready. c.is_ready.ensures.at (c.is_ready.ensures.ready ∙ ready)) c.into_disks.ensures.journal c.into_disks.ensures.left c.into_disks.ensures.right
    (g.O.Sink.written c.args.out.now) (g.O.Sink.written c.script_over-status.new.out) (g.O.Sink.faults c.args.out.now) (g.O.Sink.faults c.script_over-status.new.out) c.script_over-status.result.0
    c.script_over-status.ensures.scripts c.script_over-status.ensures.leaves c.script_over-status.ensures.ends
