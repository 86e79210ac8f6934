use Rattle.std.proofs.Common.{◌-◌, subst, sym}
use Rattle.bl_queue.specs.Jobs.{Kept}
use Rattle.bl_queue.specs.Rows.{fed_job}
use Rattle.bl_world.specs.Worlds.{HaveFewFiles}
use Rattle.bl_world.proofs.FewFiles.{fed_few, with_job_few}
use Rattle.bl_world.proofs.world.World.take_batch.Goals as goal

pub invariant_of-self-in-Ok : goal.invariant_of-self-in-Ok
invariant_of-self-in-Ok c = record {
  graph = c.self.invariant.graph;
  values = c.self.invariant.values;
  files = subst (λ (k : Kept). HaveFewFiles k.jobs) (sym c.in-Ok.ensures.ok)
      (with_job_few c.args.job (fed_job c.args.moment (c.args.feed - 1) c.args.rows c.args.digest c.args.duplicates c.args.logs.now)
      (fed_few c.args.moment (c.args.feed - 1) c.args.rows c.args.digest c.args.duplicates c.args.logs.now) c.self.inside.jobs.jobs c.self.invariant.files);
  commits = c.in_ok-push_commit.ensures.valid c.self.invariant.commits;
}
