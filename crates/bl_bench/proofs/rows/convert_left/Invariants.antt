use Rattle.std.proofs.Common.{◌≡◌, ◌+◌, List, ℕ, length, sum_by}
use Rattle.bl_rows.specs.Contents.{Fields}
use Rattle.bl_rows.specs.RowReaders.{Stands}
use Rattle.bl_bench.proofs.rows.convert_left.Given as goal

-- what was counted, and what is left
abbrev pub invariant-loop-items : goal.invariant-loop-items
invariant-loop-items l =
    (all : List Fields) (taken : ℕ) (left : List Fields) → Stands l.initial.reader all taken left
    → (now : ℕ) × (rest : List Fields) × Stands l.reader all now rest × (length left ≡ l.items + length rest) × (sum_by (sum_by length) left ≡ l.bytes + sum_by (sum_by length) rest)
