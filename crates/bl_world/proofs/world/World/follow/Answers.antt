use Rattle.std.proofs.Common.{ap, Ok, ◌∙◌}
use Rattle.bl_world.proofs.world.World.follow.Goals as goal

pub take-requires-clause-begun : goal.take-requires-clause-begun
take-requires-clause-begun c = (c.args.self.now, c.begin.ensures.begun (c.in_ok-begin.was ∙ ap Ok c.if-not-branch.false))
