use Rattle.bl_chain.proofs.OverFiles.{loads_resume}
use Rattle.bl_chain.proofs.laws.loads_resume.Goals as goal

pub returns : goal.returns
returns c = loads_resume
