use Rattle.std.proofs.Common.{arith}
use Rattle.bl_load.proofs.Batches.{has_room}
use Rattle.bl_load.proofs.Bounds.{row_bound}
use Rattle.bl_load.proofs.batch_rows.with_row.Goals as goal

pub row_values-requires : goal.row_values-requires
row_values-requires c = omega (arith, row_bound c.args.row.now c.requires.valid)

pub overflow_add-result-2 : goal.overflow_add-result-2
overflow_add-result-2 c = let has = has_room c.args.size.now c.requires.room in omega (arith, row_bound c.args.row.now c.requires.valid, has.values, c.row_values.ensures)
