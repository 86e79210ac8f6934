use Rattle.std.proofs.Common.{◌+◌, ◌≤◌, drop}
use Rattle.std.specs.List.{flat_map}
use Rattle.bl_cli.specs.Outputs.{commit_lines, event_line, events_from}
use Rattle.bl_cli.specs.Printing.{Leaves}
use Rattle.bl_cli.proofs.printing.print_commit.Given as goal

-- the lines of the changes so far were printed
abbrev pub invariant-loop-i : goal.invariant-loop-i
invariant-loop-i g l = record {
  so : Leaves (flat_map event_line (events_from l.number (l.i + 1) l.moment (drop l.i l.changes))) (commit_lines (l.number, l.commit)) (g.O.Sink.written l.initial.out) l.initial.waiting (g.O.Sink.written l.out) l.waiting;
  later : g.O.Sink.faults l.initial.out ≤ g.O.Sink.faults l.out;
}
