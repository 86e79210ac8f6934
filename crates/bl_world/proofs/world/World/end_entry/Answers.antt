use Rattle.std.proofs.Common.{arith, refl}
use Rattle.bl_world.proofs.MadeEntries.{end_fits}
use Rattle.bl_world.proofs.world.World.end_entry.Goals as goal

pub returns-clause-begun : goal.returns-clause-begun
returns-clause-begun c =
    (record { later = omega (arith, c.next_moment.ensures); fits = end_fits c.args.self.now.kept c.args.job c.args.feed c.args.end c.requires.next c.requires.end }, refl)
