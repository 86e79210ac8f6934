use Rattle.std.proofs.Common.{subst, sym}
use Rattle.bl_graph.specs.ValidChanges.{HasValidValues}
use Rattle.bl_graph.specs.ValidGraph.{IsValidGraph}
use Rattle.bl_graph.proofs.ValidChanges.{values_of_empty}
use Rattle.bl_graph.proofs.Validity.{valid_empty}
use Rattle.bl_graph.proofs.graph.Graph.empty.Goals as goal

pub returns-clause-valid : goal.returns-clause-valid
returns-clause-valid c = subst IsValidGraph (sym c.nothing.ensures) valid_empty

pub returns-clause-values : goal.returns-clause-values
returns-clause-values c = subst HasValidValues (sym c.nothing.ensures) values_of_empty
