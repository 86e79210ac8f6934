use Rattle.std.proofs.Common.{subst}
use Rattle.bl_world.proofs.BegunWorlds.{Asks, begun_asks}
use Rattle.bl_world.proofs.world.World.take.Goals as goal

pub take_start-requires-clause-names : goal.take_start-requires-clause-names
take_start-requires-clause-names c = (subst (Asks c.args.self.now.kept) c.in-Start.is (begun_asks c.requires.begun.0 c.args.self.now c.args.entry c.requires.begun.1)).names

pub take_batch-requires-clause-may : goal.take_batch-requires-clause-may
take_batch-requires-clause-may c = subst (Asks c.args.self.now.kept) c.in-Batch.is (begun_asks c.requires.begun.0 c.args.self.now c.args.entry c.requires.begun.1)

pub take_end-requires-clause-may : goal.take_end-requires-clause-may
take_end-requires-clause-may c = subst (Asks c.args.self.now.kept) c.in-FeedEnd.is (begun_asks c.requires.begun.0 c.args.self.now c.args.entry c.requires.begun.1)
