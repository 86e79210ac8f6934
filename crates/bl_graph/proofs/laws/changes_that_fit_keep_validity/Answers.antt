use Rattle.bl_graph.proofs.Validity.{valid_after_all}
use Rattle.bl_graph.proofs.laws.changes_that_fit_keep_validity.Goals as goal

pub returns : goal.returns
returns c = valid_after_all
