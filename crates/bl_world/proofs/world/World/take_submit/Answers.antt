use Rattle.bl_world.proofs.FewFiles.{submit_few}
use Rattle.bl_world.proofs.world.World.take_submit.Goals as goal

pub invariant_of-self-2 : goal.invariant_of-self-2
invariant_of-self-2 c = record { graph = c.self.invariant.graph; values = c.self.invariant.values; files = submit_few c.args.moment c.args.id c.args.request c.self.inside.jobs c.submit.new.self c.in_ok-submit.ensures.ok c.self.invariant.files; commits = c.self.invariant.commits }
