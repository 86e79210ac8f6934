use Rattle.bl_header.proofs.EscapedNames.{names_are_read_back}
use Rattle.bl_header.proofs.laws.names_are_read_back.Goals as goal

pub returns : goal.returns
returns c = names_are_read_back
