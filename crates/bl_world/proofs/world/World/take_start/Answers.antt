use Rattle.std.proofs.Common.{subst, sym}
use Rattle.bl_queue.specs.Runs.{HasRoom}
use Rattle.bl_world.specs.Worlds.{World}
use Rattle.bl_world.proofs.FewFiles.{start_few}
use Rattle.bl_world.proofs.world.World.take_start.Goals as goal

pub invariant_of-self-2 : goal.invariant_of-self-2
invariant_of-self-2 c =
    let room : HasRoom c.self.inside.jobs.jobs c.args.job c.args.plan.now = subst (λ (w : World). HasRoom w.kept.jobs c.args.job c.args.plan.now) (sym c.self.view_is) c.requires.files in
    record { graph = c.self.invariant.graph; values = c.self.invariant.values; files = start_few c.args.moment c.args.job c.args.plan.now c.self.inside.jobs c.start.new.self room c.in_ok-start.ensures.ok c.self.invariant.files; commits = c.self.invariant.commits }
