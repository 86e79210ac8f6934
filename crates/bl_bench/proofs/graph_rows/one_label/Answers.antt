use Rattle.bl_bench.proofs.GraphRows.{one_label}
use Rattle.bl_bench.proofs.graph_rows.one_label.Goals as goal

pub returns : goal.returns
returns c = one_label c.new-labels.result c.push.new.self c.in_ok-label.label c.new-labels.ensures c.in-Ok.ensures.ok c.in_ok-label.ensures.id
