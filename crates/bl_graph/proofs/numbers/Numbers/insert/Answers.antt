use Rattle.std.proofs.Common.{sym}
use Rattle.bl_graph.proofs.ByNumber.{stays_in}
use Rattle.bl_graph.proofs.numbers.Numbers.insert.Goals as goal

pub returns-then-contains-clause-ok : goal.returns-then-contains-clause-ok
returns-then-contains-clause-ok c = sym (stays_in c.args.self.now c.args.number (sym c.if-contains.ensures))
