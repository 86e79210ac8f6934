use Rattle.std.proofs.Common.{◌≡◌, ◌*◌, length}
use Rattle.bl_bench.proofs.entries.times.Given as goal

abbrev pub invariant-loop : goal.invariant-loop
invariant-loop g l = l.written ≡ l.counter * length l.bytes
