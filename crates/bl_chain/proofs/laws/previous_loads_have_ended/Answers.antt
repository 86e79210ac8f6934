use Rattle.bl_chain.proofs.StartedJobs.{previous_ended}
use Rattle.bl_chain.proofs.laws.previous_loads_have_ended.Goals as goal

pub returns : goal.returns
returns c = previous_ended
