use Rattle.bl_value.proofs.DateTexts.{read_back}
use Rattle.bl_value.proofs.laws.date_texts_are_read_back.Goals as goal

pub returns : goal.returns
returns c = read_back
