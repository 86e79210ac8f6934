use Rattle.bl_world.proofs.FewFiles.{cancel_few}
use Rattle.bl_world.proofs.world.World.take_cancel.Goals as goal

pub invariant_of-self : goal.invariant_of-self
invariant_of-self c = record { graph = c.self.invariant.graph; values = c.self.invariant.values; files = cancel_few c.args.moment c.args.job c.self.inside.jobs c.cancel.new.self c.cancel.ensures c.self.invariant.files; commits = c.self.invariant.commits }
