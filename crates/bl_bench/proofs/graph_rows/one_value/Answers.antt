use Rattle.bl_bench.proofs.GraphRows.{one_value}
use Rattle.bl_bench.proofs.graph_rows.one_value.Goals as goal

pub returns-clause-differ : goal.returns-clause-differ
returns-clause-differ c = one_value c.new-values.result c.push.new.self c.args.value c.new-values.ensures c.in-Ok.ensures.ok
