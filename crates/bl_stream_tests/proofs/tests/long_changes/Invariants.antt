use Rattle.std.proofs.Common.{◌≤◌, length}
use Rattle.std.specs.List.{All}
use Rattle.bl_value.specs.Valid.{IsChange}
use Rattle.bl_stream_tests.proofs.tests.long_changes.Given as goal

abbrev pub invariant-labels : goal.invariant-labels
invariant-labels l = record {
  all : All IsChange l.changes;
  some : 1 ≤ length l.changes;
}

abbrev pub invariant-values : goal.invariant-values
invariant-values l = record {
  all : All IsChange l.changes;
  some : 1 ≤ length l.changes;
}
