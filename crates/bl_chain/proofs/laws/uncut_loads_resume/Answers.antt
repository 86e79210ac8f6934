use Rattle.bl_chain.proofs.UncutEntries.{uncut_loads_resume}
use Rattle.bl_chain.proofs.laws.uncut_loads_resume.Goals as goal

pub returns : goal.returns
returns c = uncut_loads_resume
