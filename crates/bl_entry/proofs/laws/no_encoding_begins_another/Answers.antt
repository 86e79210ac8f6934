use Rattle.bl_entry.proofs.Entries.{none_begins}
use Rattle.bl_entry.proofs.laws.no_encoding_begins_another.Goals as goal

pub returns : goal.returns
returns c = none_begins
