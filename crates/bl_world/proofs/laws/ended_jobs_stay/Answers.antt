use Rattle.bl_world.proofs.EndedJobs.{ended_jobs_stay}
use Rattle.bl_world.proofs.laws.ended_jobs_stay.Goals as goal

pub returns : goal.returns
returns c = ended_jobs_stay
