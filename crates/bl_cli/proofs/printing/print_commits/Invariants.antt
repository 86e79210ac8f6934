use Rattle.std.proofs.Common.{◌+◌, ◌≤◌, drop}
use Rattle.std.specs.List.{flat_map}
use Rattle.bl_cli.specs.Outputs.{change_lines, commit_lines, job_commits}
use Rattle.bl_cli.specs.Printing.{Leaves}
use Rattle.bl_cli.proofs.printing.print_commits.Given as goal

-- the lines of the commits so far were printed
abbrev pub invariant-loop-i : goal.invariant-loop-i
invariant-loop-i g l = record {
  so : Leaves (flat_map commit_lines (job_commits l.job (l.i + 1) (drop l.i l.commits))) (change_lines l.job l.commits) (g.O.Sink.written l.initial.out) l.initial.waiting (g.O.Sink.written l.out) l.waiting;
  later : g.O.Sink.faults l.initial.out ≤ g.O.Sink.faults l.out;
}
