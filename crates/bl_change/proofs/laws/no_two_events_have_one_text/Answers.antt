use Rattle.bl_change.proofs.EventsOnce.{one_event}
use Rattle.bl_change.proofs.laws.no_two_events_have_one_text.Goals as goal

pub returns : goal.returns
returns c = one_event
