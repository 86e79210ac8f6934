use Rattle.bl_graph.proofs.ValidChanges.{rows_give_valid_changes}
use Rattle.bl_graph.proofs.laws.valid_rows_give_valid_changes.Goals as goal

pub returns : goal.returns
returns c = rows_give_valid_changes
