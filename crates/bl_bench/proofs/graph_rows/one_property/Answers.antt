use Rattle.bl_bench.proofs.GraphRows.{one_property, one_single}
use Rattle.bl_bench.proofs.graph_rows.one_property.Goals as goal

pub returns-clause-valid : goal.returns-clause-valid
returns-clause-valid c = one_property c.new-properties.result c.push.new.self c.args.property c.new-properties.ensures c.in-Ok.ensures.ok c.requires

pub returns-clause-single : goal.returns-clause-single
returns-clause-single c single = one_single c.new-properties.result c.push.new.self c.args.property c.new-properties.ensures c.in-Ok.ensures.ok single
