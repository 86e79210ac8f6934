use Rattle.bl_chain.proofs.OneFolder.{folders}
use Rattle.bl_chain.proofs.laws.files_are_folders.Goals as goal

pub returns : goal.returns
returns c = folders
