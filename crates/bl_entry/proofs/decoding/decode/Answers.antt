use Rattle.std.proofs.Common.{arith}
use Rattle.bl_entry.proofs.Entries.{decoded}
use Rattle.bl_entry.proofs.decoding.decode.Goals as goal

pub returns-clause-decodes : goal.returns-clause-decodes
returns-clause-decodes g c = decoded c.args.body.now c.read_whole.result (λ i. omega (arith, c.type_inv.body i)) c.read_whole.ensures
