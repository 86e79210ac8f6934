use Rattle.std.proofs.Common.{◌++◌, subst}
use Rattle.bl_cli.specs.Outputs.{job_line, lines_if}
use Rattle.bl_cli.specs.Printing.{Adds, AddsFront, Prints, PrintsFront, Written}
use Rattle.bl_cli.proofs.Prints.{adds_both, front_both, front_first, on_err, on_err_map, on_ok_map}
use Rattle.bl_cli.proofs.printing.print_load.Goals as goal

pub returns-in_err-print_changes-clause-front : goal.returns-in_err-print_changes-clause-front
returns-in_err-print_changes-clause-front g c =
    on_err _ _ (front_first (lines_if c.args.changes c.args.job.now.number c.args.commits.now) (job_line c.args.job.now) (g.O.Sink.written c.args.out.now) (g.O.Sink.written c.print_changes.new.out)
    (subst (λ waited. PrintsFront (lines_if c.args.changes c.args.job.now.number c.args.commits.now) (g.O.Sink.written c.args.out.now) waited (g.O.Sink.written c.print_changes.new.out)) c.new-waiting.ensures
    c.in_err-print_changes.ensures.front))

pub returns-clause-ok : goal.returns-clause-ok
returns-clause-ok g c =
    on_ok_map c.print_end.result (Written (g.O.Sink.written c.print_changes.new.out) (g.O.Sink.written c.print_end.new.out) (Adds (c.print_changes.new.waiting ++ job_line c.args.job.now)))
    (Written (g.O.Sink.written c.args.out.now) (g.O.Sink.written c.print_end.new.out) (Adds (lines_if c.args.changes c.args.job.now.number c.args.commits.now ++ job_line c.args.job.now)))
    (adds_both (lines_if c.args.changes c.args.job.now.number c.args.commits.now) (job_line c.args.job.now) (g.O.Sink.written c.args.out.now) (g.O.Sink.written c.print_changes.new.out) c.print_changes.new.waiting (g.O.Sink.written c.print_end.new.out)
    (subst (λ waited. Prints (lines_if c.args.changes c.args.job.now.number c.args.commits.now) (g.O.Sink.written c.args.out.now) waited (g.O.Sink.written c.print_changes.new.out) c.print_changes.new.waiting) c.new-waiting.ensures
    c.in_ok-print_changes.ensures.ok))
    c.print_end.ensures.ok

pub returns-clause-front : goal.returns-clause-front
returns-clause-front g c =
    on_err_map c.print_end.result (PrintsFront (job_line c.args.job.now) (g.O.Sink.written c.print_changes.new.out) c.print_changes.new.waiting (g.O.Sink.written c.print_end.new.out))
    (Written (g.O.Sink.written c.args.out.now) (g.O.Sink.written c.print_end.new.out) (AddsFront (lines_if c.args.changes c.args.job.now.number c.args.commits.now ++ job_line c.args.job.now)))
    (front_both (lines_if c.args.changes c.args.job.now.number c.args.commits.now) (job_line c.args.job.now) (g.O.Sink.written c.args.out.now) (g.O.Sink.written c.print_changes.new.out) c.print_changes.new.waiting (g.O.Sink.written c.print_end.new.out)
    (subst (λ waited. Prints (lines_if c.args.changes c.args.job.now.number c.args.commits.now) (g.O.Sink.written c.args.out.now) waited (g.O.Sink.written c.print_changes.new.out) c.print_changes.new.waiting) c.new-waiting.ensures
    c.in_ok-print_changes.ensures.ok))
    c.print_end.ensures.front
