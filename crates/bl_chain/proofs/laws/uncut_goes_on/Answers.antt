use Rattle.bl_chain.proofs.UncutEntries.{uncut_goes_on}
use Rattle.bl_chain.proofs.laws.uncut_goes_on.Goals as goal

pub returns : goal.returns
returns c = uncut_goes_on
