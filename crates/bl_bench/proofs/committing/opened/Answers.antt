use Rattle.bl_bench.proofs.KeptEntries.{opened_again, opened_empty}
use Rattle.bl_bench.proofs.committing.opened.Goals as goal

pub returns-clause-empty : goal.returns-clause-empty
returns-clause-empty g c empty = opened_empty c.args.disks.journal c.in-Ok.engine.journal c.in-Ok.engine.world empty c.in-Ok.ensures.opens

pub returns-clause-kept : goal.returns-clause-kept
returns-clause-kept g c entries keeps = opened_again c.args.disks.journal entries c.in-Ok.engine.journal c.in-Ok.engine.world keeps c.in-Ok.ensures.opens
