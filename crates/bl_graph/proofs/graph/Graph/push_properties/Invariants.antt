use Rattle.std.proofs.Common.{◌≡◌, ◌++◌, take}
use Rattle.std.specs.List.{flat_map}
use Rattle.bl_graph.specs.Admission.{property_changes}
use Rattle.bl_graph.proofs.graph.Graph.push_properties.Given as goal

-- the properties so far have given their changes
abbrev pub invariant-loop-property : goal.invariant-loop-property
invariant-loop-property l = l.changes ≡ l.fn.changes ++ flat_map (property_changes l.self l.side l.id) (take l.property-index l.property-items)
