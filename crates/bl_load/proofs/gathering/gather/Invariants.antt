use Rattle.std.proofs.Common.{◌≡◌, ◌≤◌, ◌+◌, ℕ, List, length, sum}
use Rattle.bl_rows.specs.Contents.{Fields}
use Rattle.bl_rows.specs.RowReaders.{Stands}
use Rattle.bl_load.specs.Gathering.{Gathers}
use Rattle.bl_load.proofs.gathering.gather.Given as goal

-- as many records as turns were gathered, and their bytes were counted
abbrev pub invariant-loop-row : goal.invariant-loop-row
invariant-loop-row l = record {
  count : length l.got.records + l.fn.rows ≡ l._row;
  bytes : l.bytes ≤ l.fn.bytes + sum l.got.sizes;
  gathers : (all : List Fields) (before : ℕ) (left : List Fields) → Stands l.initial.reader all before left → Gathers all before left l.reader l.got;
}
