use Rattle.bl_chain.proofs.Grown.{stores_grow}
use Rattle.bl_chain.proofs.laws.stores_grow.Goals as goal

pub returns : goal.returns
returns c = stores_grow
