use Rattle.bl_chain.proofs.ListedTables.{listings}
use Rattle.bl_chain.proofs.laws.listings_are_tables.Goals as goal

pub returns : goal.returns
returns c = listings
