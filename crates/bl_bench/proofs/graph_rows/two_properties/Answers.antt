use Rattle.std.proofs.Common.{sym}
use Rattle.bl_bench.proofs.GraphRows.{two_properties}
use Rattle.bl_bench.proofs.graph_rows.two_properties.Goals as goal

pub returns : goal.returns
returns c =
    two_properties c.new-properties.result c.push.new.self c.push-2.new.self c.args.first c.args.second c.new-properties.ensures c.in-Ok.ensures.ok c.in-Ok-push.ensures.ok c.requires.first c.requires.second (sym c.if-eq.ensures)
