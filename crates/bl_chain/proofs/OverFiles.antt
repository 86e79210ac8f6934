-- Loads over told files.
use Rattle.bl_chain.specs.Folders.{AreTablesOf}
use Rattle.bl_chain.specs.MadeEntries.{TurnsAreMade}
use Rattle.bl_chain.specs.Resumption.{LoadsResume, OneEntryMore}
use Rattle.bl_chain.proofs.OneFolder.{folders}
use Rattle.bl_chain.proofs.OneEntryMore.{one_more, resumes}
use Rattle.bl_chain.proofs.TurnEntries.{turn_made}

pub keeps : OneEntryMore
keeps files = one_more (AreTablesOf files) (folders files)

pub loads_resume : LoadsResume
loads_resume files = resumes (AreTablesOf files) (folders files)

pub turns_over_files : TurnsAreMade
turns_over_files files before now entry is = turn_made (AreTablesOf files) (folders files) before now entry is
