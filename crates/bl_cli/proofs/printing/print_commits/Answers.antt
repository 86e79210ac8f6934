use Rattle.std.proofs.Common.{◌+◌, drop, subst}
use Rattle.std.specs.List.{flat_map}
use Rattle.bl_cli.specs.Outputs.{change_lines, commit_lines, job_commits, own_lines}
use Rattle.bl_cli.specs.Printing.{Leaves}
use Rattle.bl_cli.proofs.Prints.{commits_more, front_left, on_err}
use Rattle.bl_cli.proofs.printing.print_commits.Goals as goal

pub returns-in_err-print_own-clause-front : goal.returns-in_err-print_own-clause-front
returns-in_err-print_own-clause-front g c =
    on_err _ _ (front_left (own_lines c.args.job (c.loop-i.i + 1, c.index-commits-i.result)) (flat_map commit_lines (job_commits c.args.job (c.loop-i.i + 1 + 1) (drop (c.loop-i.i + 1) c.args.commits.now))) (change_lines c.args.job c.args.commits.now)
    (g.O.Sink.written c.args.out.now) c.args.waiting.now (g.O.Sink.written c.loop-i.out) c.loop-i.waiting (g.O.Sink.written c.print_own.new.out)
    (subst (λ rest. Leaves rest (change_lines c.args.job c.args.commits.now) (g.O.Sink.written c.args.out.now) c.args.waiting.now (g.O.Sink.written c.loop-i.out) c.loop-i.waiting)
    (commits_more c.args.job c.loop-i.i c.args.commits.now c.index-commits-i.result c.loop-i-test.true c.index-commits-i.is)
    c.loop-i.invariant.so)
    c.in_err-print_own.ensures.front)
