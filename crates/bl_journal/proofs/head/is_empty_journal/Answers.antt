use Rattle.std.proofs.Common.{arith}
use Rattle.bl_journal.proofs.Emptiness.{empty_is}
use Rattle.bl_journal.proofs.head.is_empty_journal.Goals as goal

pub returns-then-is_head : goal.returns-then-is_head
returns-then-is_head c = empty_is c.args.bytes.now (omega (arith, c.in-len1-up.len_at_least)) (c.is_head.ensures.0 c.if-is_head.true)
