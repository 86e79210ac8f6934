use Rattle.bl_queue.proofs.SettledLaws.{one_settled}
use Rattle.bl_queue.proofs.laws.settled_jobs_are_one_list.Goals as goal

pub returns : goal.returns
returns c = λ moment before a b one two. one_settled moment before a b one two
