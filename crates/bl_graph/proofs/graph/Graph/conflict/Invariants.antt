use Rattle.std.proofs.Common.{◌≡◌, drop}
use Rattle.std.specs.List.{find}
use Rattle.bl_graph.specs.Admission.{conflicts}
use Rattle.bl_graph.proofs.graph.Graph.conflict.Given as goal

-- no property so far has a conflict
abbrev pub invariant-loop-property : goal.invariant-loop-property
invariant-loop-property l = find (conflicts l.self l.side l.id) (drop l.property-index l.property-items) ≡ find (conflicts l.self l.side l.id) l.property-items
