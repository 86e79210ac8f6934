use Rattle.std.proofs.Common.{◌≡◌, ◌+◌, length}
use Rattle.bl_job.specs.Batched.{AreValidRows}
use Rattle.bl_bench.proofs.loading.batch.Given as goal

-- those so far
abbrev pub invariant-loop-number : goal.invariant-loop-number
invariant-loop-number l = AreValidRows l.batch × (l.from + length l.batch ≡ l.number)
