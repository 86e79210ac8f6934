use Rattle.std.proofs.Common.{arith}
use Rattle.bl_snapshot.proofs.Readings.{never_other}
use Rattle.bl_snapshot.proofs.slot_file.snapshot_behind.Goals as goal

pub returns-then-len-numbers-clause-snapshot : goal.returns-then-len-numbers-clause-snapshot
returns-then-len-numbers-clause-snapshot g c content told is =
    absurd (omega (arith, never_other (g.D.Disk.seen c.args.disk.now) content c.in_ok-body.body c.args.numbers.rest c.in_ok-body.ensures.bytes told is.1))
