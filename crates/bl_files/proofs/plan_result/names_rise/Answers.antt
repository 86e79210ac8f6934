use Rattle.std.proofs.Common.{arith}
use Rattle.bl_files.proofs.RisingNames.{rising}
use Rattle.bl_files.proofs.plan_result.names_rise.Goals as goal

pub returns-clause-differ : goal.returns-clause-differ
returns-clause-differ c = λ h. rising c.args.found.now (λ k d within. c.loop-i.invariant k d (omega arith))
