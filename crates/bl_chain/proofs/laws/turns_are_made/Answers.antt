use Rattle.bl_chain.proofs.OverFiles.{turns_over_files}
use Rattle.bl_chain.proofs.laws.turns_are_made.Goals as goal

pub returns : goal.returns
returns c = turns_over_files
