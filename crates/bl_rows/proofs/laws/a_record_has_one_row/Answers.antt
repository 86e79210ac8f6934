use Rattle.bl_rows.proofs.OneRow.{one_row}
use Rattle.bl_rows.proofs.laws.a_record_has_one_row.Goals as goal

pub returns : goal.returns
returns c = one_row
