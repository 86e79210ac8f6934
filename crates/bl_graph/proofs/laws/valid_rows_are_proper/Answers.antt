use Rattle.bl_graph.proofs.ProperRows.{valid_is_proper}
use Rattle.bl_graph.proofs.laws.valid_rows_are_proper.Goals as goal

pub returns : goal.returns
returns c = valid_is_proper
