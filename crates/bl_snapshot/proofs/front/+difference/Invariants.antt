use Rattle.std.proofs.Common.{length}
use Rattle.bl_snapshot.proofs.front.+difference.Given as goal

abbrev pub decreases-difference : goal.decreases-difference
decreases-difference l = length l.expected.now
