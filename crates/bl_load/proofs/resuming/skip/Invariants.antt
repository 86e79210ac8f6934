use Rattle.std.proofs.Common.{◌≤◌, List, drop, length}
use Rattle.bl_rows.specs.Contents.{Fields}
use Rattle.bl_rows.specs.RowReaders.{Stands}
use Rattle.bl_load.proofs.resuming.skip.Given as goal

-- as many records as turns were taken
abbrev pub invariant-loop-record : goal.invariant-loop-record
invariant-loop-record l = (all : List Fields) (left : List Fields) → Stands l.initial.reader all 0 left → (l._record ≤ length left) × Stands l.reader all l._record (drop l._record left)
