use Rattle.bl_chain.proofs.Chained.{unchanged}
use Rattle.bl_chain.proofs.laws.unchanged_stands.Goals as goal

pub returns : goal.returns
returns c = unchanged
