use Rattle.bl_chain.proofs.OneTurn.{one_turn}
use Rattle.bl_chain.proofs.laws.turns_have_one_entry.Goals as goal

pub returns : goal.returns
returns c = one_turn
