use Rattle.bl_graph.proofs.Places.{place_found}
use Rattle.bl_graph.proofs.owner.find_place.Goals as goal

pub returns-clause-there : goal.returns-clause-there
returns-clause-there g c = place_found c.args.owners.now.entries c.args.id.now c.get_index_of.result c.get_index_of.ensures.index c.get_index_of.ensures.value
