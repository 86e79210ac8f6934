use Rattle.bl_queue.proofs.SettledLaws.{settled_stays}
use Rattle.bl_queue.proofs.laws.settled_jobs_stay.Goals as goal

pub returns : goal.returns
returns c = λ moment kept after are settled. settled_stays kept are moment after settled
