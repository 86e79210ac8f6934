use Rattle.std.proofs.Common.{◌≤◌, take, sum}
use Rattle.bl_load.proofs.open_file.bytes_of.Given as goal

abbrev pub invariant-loop-size : goal.invariant-loop-size
invariant-loop-size l = l.bytes ≤ sum (take l.size-index l.sizes)
