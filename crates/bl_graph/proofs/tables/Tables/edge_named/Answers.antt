use Rattle.bl_graph.specs.Owners.{no_vertex, no_edge}
use Rattle.bl_graph.proofs.Places.{same_all}
use Rattle.bl_graph.proofs.tables.Tables.edge_named.Goals as goal

pub returns-in_err-number-clause-grown : goal.returns-in_err-number-clause-grown
returns-in_err-number-clause-grown c = record { names = c.add.ensures.front; vertices = same_all no_vertex c.args.self.now.vertices.entries; edges = same_all no_edge c.args.self.now.edges.entries }

pub returns-in_err-place-clause-grown : goal.returns-in_err-place-clause-grown
returns-in_err-place-clause-grown c = record { names = c.add.ensures.front; vertices = same_all no_vertex c.args.self.now.vertices.entries; edges = c.place_of.ensures.same }

pub returns-clause-grown : goal.returns-clause-grown
returns-clause-grown c = record { names = c.add.ensures.front; vertices = same_all no_vertex c.args.self.now.vertices.entries; edges = c.place_of.ensures.same }
