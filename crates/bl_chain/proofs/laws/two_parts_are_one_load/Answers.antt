use Rattle.bl_chain.proofs.Batches.{two_parts}
use Rattle.bl_chain.proofs.laws.two_parts_are_one_load.Goals as goal

pub returns : goal.returns
returns c = two_parts
