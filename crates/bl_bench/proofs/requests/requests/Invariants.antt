use Rattle.std.proofs.Common.{◌≡◌}
use Rattle.bl_bench.proofs.requests.requests.Given as goal

-- so many were read
abbrev pub invariant-loop : goal.invariant-loop
invariant-loop l = l.counts.items ≡ l.counter
