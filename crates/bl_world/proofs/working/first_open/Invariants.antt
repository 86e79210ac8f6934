use Rattle.std.proofs.Common.{◌≡◌, ◌+◌, drop}
use Rattle.bl_world.specs.Works.{first_open}
use Rattle.bl_world.proofs.working.first_open.Given as goal

abbrev pub invariant-loop-i : goal.invariant-loop-i
invariant-loop-i l = first_open 1 l.feeds ≡ first_open (1 + l.i) (drop l.i l.feeds)
