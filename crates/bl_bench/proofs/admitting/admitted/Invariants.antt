use Rattle.std.proofs.Common.{◌≡◌}
use Rattle.bl_bench.proofs.admitting.admitted.Given as goal

abbrev pub invariant-loop-number : goal.invariant-loop-number
invariant-loop-number l = l.admitting.rows ≡ l.number
