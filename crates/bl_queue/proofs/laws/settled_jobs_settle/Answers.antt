use Rattle.bl_queue.proofs.SettledLaws.{changed_so, settled_itself}
use Rattle.bl_queue.proofs.laws.settled_jobs_settle.Goals as goal

pub returns-clause-settle : goal.returns-clause-settle
returns-clause-settle c = λ moment kept are. settled_itself kept are moment

pub returns-clause-change : goal.returns-clause-change
returns-clause-change c = λ moment number change old new are is. changed_so moment number change old new are is
