use Rattle.std.proofs.Common.{◌-◌}
use Rattle.bl_world.proofs.FewFiles.{end_few}
use Rattle.bl_world.proofs.world.World.take_end.Goals as goal

pub invariant_of-self : goal.invariant_of-self
invariant_of-self c = record { graph = c.self.invariant.graph; values = c.self.invariant.values; files = end_few c.args.moment c.args.job (c.args.feed - 1) c.args.end c.self.inside.jobs c.end_feed.new.self c.end_feed.ensures c.self.invariant.files; commits = c.self.invariant.commits }
