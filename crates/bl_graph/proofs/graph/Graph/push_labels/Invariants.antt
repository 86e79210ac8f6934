use Rattle.std.proofs.Common.{◌≡◌, ◌++◌, map, filter, not, take}
use Rattle.bl_outside.specs.OrderedSet as set
use Rattle.bl_value.specs.declared.change.Change.TheVariants.{AddLabel}
use Rattle.bl_graph.specs.Graph.{labels_of}
use Rattle.bl_graph.proofs.graph.Graph.push_labels.Given as goal

-- the labels so far that aren't there are added
abbrev pub invariant-loop-label : goal.invariant-loop-label
invariant-loop-label l =
    l.changes ≡ l.fn.changes ++ map (λ label. AddLabel l.id label) (filter (λ label. not (set.contains (labels_of l.self l.id) label)) (take l.label-index l.label-items))
