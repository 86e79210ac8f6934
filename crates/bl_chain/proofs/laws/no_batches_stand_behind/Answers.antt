use Rattle.bl_chain.proofs.StartedJobs.{none_behind}
use Rattle.bl_chain.proofs.laws.no_batches_stand_behind.Goals as goal

pub returns : goal.returns
returns c = none_behind
