-- The frames that a layer makes, and what it counts of them.
use Rattle.std.specs.Prelude.{◌≡◌, ℕ, List, length, sum_by, replicate}
use Rattle.bl_rows.specs.Contents.{Fields}
use Rattle.bl_bench.specs.declared.counts.Counts.{Counts}

-- the body of a frame: a hundred bytes
abbrev pub body : List ℕ
body = replicate 100 7

-- this many frames, all alike
abbrev pub alike : ℕ → List (List ℕ)
alike frames = replicate frames body

-- how many bodies these are, and their bytes
pub record Counted (bodies : List (List ℕ)) (counts : Counts) : Type 0 where
  pub items : counts.items ≡ length bodies
  pub bytes : counts.bytes ≡ sum_by length bodies

-- how many records these are, and the bytes of their fields
pub record CountsRows (records : List Fields) (counts : Counts) : Type 0 where
  pub items : counts.items ≡ length records
  pub bytes : counts.bytes ≡ sum_by (sum_by length) records
