use Rattle.bl_chain.proofs.StartedJobs.{satisfied}
use Rattle.bl_chain.proofs.laws.started_jobs_are_satisfied.Goals as goal

pub returns : goal.returns
returns c = satisfied
