use Rattle.std.specs.declared.option.Option.{Option}
use Rattle.std.proofs.Common.{sym, subst}
use Rattle.bl_files.specs.Carried.{AreFeeds}
use Rattle.bl_queue.specs.declared.job.Job.{Job}
use Rattle.bl_queue.specs.Runs.{feeds_of, goes_on_from}
use Rattle.bl_queue.proofs.Starts.{feeds_fit, older}
use Rattle.bl_world.proofs.recording.recorded.Goals as goal

pub number_after-requires-clause-previous : goal.number_after-requires-clause-previous
number_after-requires-clause-previous c =
    subst (λ (o : Option Job). AreFeeds (feeds_of o)) (sym c.goes_on_from.ensures) (feeds_fit c.args.job (goes_on_from c.args.jobs.now.jobs c.args.job) (older c.args.jobs.now c.kept-kept.ensures.are c.args.job)).0
