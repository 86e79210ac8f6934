use Rattle.bl_world.proofs.JobCauses.{jobs_end_for_one_cause}
use Rattle.bl_world.proofs.laws.jobs_end_for_one_cause.Goals as goal

pub returns : goal.returns
returns c = jobs_end_for_one_cause
