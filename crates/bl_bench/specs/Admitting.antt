-- What a row does to a graph that is filled row by row, and what is counted of it.
use Rattle.std.specs.Prelude.{◌+◌, false, length}
use Rattle.bl_value.specs.declared.row.Row.{Row}
use Rattle.bl_graph.specs.Admission.{admit}
use Rattle.bl_graph.specs.Replay.{after}
use Rattle.bl_graph.specs.declared.verdict.Verdict.{Verdict}
use Rattle.bl_graph.specs.declared.verdict.Verdict.TheVariants.{Changes, Duplicate, Refused}
use Rattle.bl_bench.specs.declared.admitting.Admitting.{Admitting}

abbrev pub with_verdict : Admitting → Verdict → Admitting
with_verdict old (Changes changes) =
    record old {
      graph = after old.graph changes;
      rows = old.rows + 1;
      changes = old.changes + length changes;
    }
with_verdict old Duplicate = record old { rows = old.rows + 1; duplicates = old.duplicates + 1 }
with_verdict old (Refused code column) =
    record old { rows = old.rows + 1; refused = old.refused + 1 }

-- one row more, admitted into the graph so far; single values are not updated
abbrev pub with_row : Admitting → Row → Admitting
with_row old row = with_verdict old (admit old.graph false row)
