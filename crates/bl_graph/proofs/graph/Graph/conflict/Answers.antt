use Rattle.bl_graph.specs.Admission.{conflicts}
use Rattle.bl_graph.proofs.Conflicts.{find_more}
use Rattle.bl_graph.proofs.graph.Graph.conflict.Goals as goal

pub loop-property-preserved : goal.loop-property-preserved
loop-property-preserved c =
    find_more (conflicts c.args.self.now c.args.side c.args.id.now) c.as_slice-property-items.result.now c.loop-property.property-index c.property-item.result c.loop-property-test.true c.property-item.is c.if-conflicts.ensures c.loop-property.invariant
