use Rattle.bl_queue.proofs.LastLogs.{last_are_kept}
use Rattle.bl_queue.proofs.laws.the_last_logs_stay.Goals as goal

pub returns : goal.returns
returns c = λ feeds. last_are_kept feeds
