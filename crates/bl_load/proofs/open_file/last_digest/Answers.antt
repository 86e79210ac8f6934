use Rattle.bl_load.proofs.RowLists.{last_digest}
use Rattle.bl_load.proofs.open_file.last_digest.Goals as goal

pub returns-in-Some : goal.returns-in-Some
returns-in-Some c = last_digest c.args.before c.args.rows.now c.in-Some.row.now c.in-Some.ensures.value
