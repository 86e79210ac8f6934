use Rattle.std.proofs.Common.{sym}
use Rattle.bl_graph.proofs.Nested.{none_at}
use Rattle.bl_graph.proofs.found.nothing.Goals as goal

pub returns : goal.returns
returns c = sym (none_at 0)
