use Rattle.bl_change.proofs.EventsPrinted.{event_read}
use Rattle.bl_change.proofs.laws.event_texts_are_json.Goals as goal

pub returns : goal.returns
returns c = event_read
