use Rattle.bl_graph.specs.Admission.{admit}
use Rattle.bl_graph.proofs.Admitted.{admitted_fits}
use Rattle.bl_graph.proofs.Validity.{valid_after_verdict}
use Rattle.bl_graph.proofs.laws.proper_rows_keep_validity.Goals as goal

pub returns : goal.returns
returns c = λ graph update_single row proper valid. valid_after_verdict graph (admit graph update_single row) valid (admitted_fits graph update_single row proper)
