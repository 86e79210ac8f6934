use Rattle.bl_header.proofs.Spellings.{read_as_spelled}
use Rattle.bl_header.proofs.laws.type_texts_are_read_as_spelled.Goals as goal

pub returns : goal.returns
returns c = read_as_spelled
