use Rattle.bl_chain.proofs.OverFiles.{keeps}
use Rattle.bl_chain.proofs.laws.entries_keep_unchanged.Goals as goal

pub returns : goal.returns
returns c = keeps
