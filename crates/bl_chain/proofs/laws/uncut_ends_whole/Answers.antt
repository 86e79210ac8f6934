use Rattle.bl_chain.proofs.ClosedLoads.{uncut}
use Rattle.bl_chain.proofs.laws.uncut_ends_whole.Goals as goal

pub returns : goal.returns
returns c = uncut
