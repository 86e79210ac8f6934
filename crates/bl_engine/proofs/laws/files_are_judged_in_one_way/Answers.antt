use Rattle.bl_engine.proofs.Judged.{one_judgement}
use Rattle.bl_engine.proofs.laws.files_are_judged_in_one_way.Goals as goal

pub returns : goal.returns
returns c = one_judgement c.no_encoding_begins_another.ensures c.entries_lead_to_one_world.ensures
