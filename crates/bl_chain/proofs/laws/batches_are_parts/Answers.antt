use Rattle.bl_chain.proofs.Batches.{batch_part}
use Rattle.bl_chain.proofs.laws.batches_are_parts.Goals as goal

pub returns : goal.returns
returns c = batch_part
