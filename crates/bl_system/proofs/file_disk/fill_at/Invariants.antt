use Rattle.std.proofs.Common.{◌≤◌, length}
use Rattle.bl_system.proofs.file_disk.fill_at.Given as goal

abbrev pub invariant-loop : goal.invariant-loop
invariant-loop g l = l.filled ≤ length l.room
