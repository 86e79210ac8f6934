use Rattle.std.proofs.Common.{sym, ap, subst, ◌∙◌}
use Rattle.bl_cli.specs.LoadFaults.{status_of}
use Rattle.bl_cli.specs.Outputs.{load_output}
use Rattle.bl_cli.specs.Printing.{Adds, AddsFront, Written}
use Rattle.bl_cli.specs.LoadRuns.{LoadsOver}
use Rattle.bl_cli.proofs.LoadedEngines.{over_printed, over_unprinted}
use Rattle.bl_cli.proofs.top.load_over.Goals as goal

pub returns-in-Ok-print_load-clause-loads : goal.returns-in-Ok-print_load-clause-loads
returns-in-Ok-print_load-clause-loads g c =
    over_printed g.D.Disk (g.F.Folder.files c.args.folder.now) c.args.salt c.args.load c.args.engine.now c.make_load.new.engine (g.O.Sink.written c.args.out.now) (g.O.Sink.faults c.args.out.now)
    c.in-Ok.job c.in-Ok.ensures.makes (g.O.Sink.written c.print_load.new.out) (g.O.Sink.faults c.print_load.new.out) c.done_status.result c.done_status.ensures
    (subst (λ l. Written (g.O.Sink.written c.args.out.now) (g.O.Sink.written c.print_load.new.out) (Adds (load_output c.args.load.changes c.in-Ok.job l))) (c.as_slice.ensures ∙ c.commits.ensures.are) c.in-Ok-print_load.ensures.ok)
    c.in-Ok-print_load.ensures.cause.later

pub returns-clause-loads : goal.returns-clause-loads
returns-clause-loads g c =
    subst (λ s. LoadsOver g.D.Disk (g.F.Folder.files c.args.folder.now) c.args.salt c.args.load c.args.engine.now c.make_load.new.engine (g.O.Sink.written c.args.out.now) (g.O.Sink.written c.print_load.new.out) (g.O.Sink.faults c.args.out.now) (g.O.Sink.faults c.print_load.new.out) s)
    (sym (c.status-in-Err-print_load.ensures ∙ ap status_of c.from.ensures))
    (over_unprinted g.D.Disk (g.F.Folder.files c.args.folder.now) c.args.salt c.args.load c.args.engine.now c.make_load.new.engine (g.O.Sink.written c.args.out.now) (g.O.Sink.faults c.args.out.now)
    c.in-Ok.job c.in-Ok.ensures.makes (g.O.Sink.written c.print_load.new.out) (g.O.Sink.faults c.print_load.new.out) c.in-Err-print_load.outside
    (subst (λ l. Written (g.O.Sink.written c.args.out.now) (g.O.Sink.written c.print_load.new.out) (AddsFront (load_output c.args.load.changes c.in-Ok.job l))) (c.as_slice.ensures ∙ c.commits.ensures.are) c.in-Err-print_load.ensures.front)
    c.in-Err-print_load.ensures.cause)
