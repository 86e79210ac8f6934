use Rattle.bl_graph.proofs.ValidChanges.{values_after}
use Rattle.bl_graph.proofs.laws.valid_changes_keep_values_valid.Goals as goal

pub returns : goal.returns
returns c = values_after
