use Rattle.bl_change.proofs.EventsOnce.{only_answer}
use Rattle.bl_change.proofs.laws.each_event_is_read_back.Goals as goal

pub returns : goal.returns
returns c = only_answer
