use Rattle.std.proofs.Common.{length}
use Rattle.bl_journal.proofs.head.+difference.Given as goal

abbrev pub decreases-difference : goal.decreases-difference
decreases-difference l = length l.expected.now
