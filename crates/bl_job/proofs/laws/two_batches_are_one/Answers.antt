use Rattle.bl_job.proofs.TwoBatches.{two_batches}
use Rattle.bl_job.proofs.laws.two_batches_are_one.Goals as goal

pub returns : goal.returns
returns c = two_batches
