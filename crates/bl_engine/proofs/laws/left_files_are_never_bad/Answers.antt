use Rattle.bl_engine.proofs.Judged.{never_bad}
use Rattle.bl_engine.proofs.laws.left_files_are_never_bad.Goals as goal

pub returns : goal.returns
returns c = never_bad c.no_encoding_begins_another.ensures c.entries_lead_to_one_world.ensures
