use Rattle.std.proofs.Common.{◌≡◌, ◌++◌, map, filter, not, take}
use Rattle.bl_outside.specs.OrderedSet as set
use Rattle.bl_value.specs.declared.change.Change.TheVariants.{AddValue}
use Rattle.bl_graph.specs.Graph.{values_at}
use Rattle.bl_graph.proofs.graph.Graph.push_added.Given as goal

-- the values so far that aren't there are added
abbrev pub invariant-loop-value : goal.invariant-loop-value
invariant-loop-value l =
    l.changes ≡ l.fn.changes ++ map (λ value. AddValue l.side l.id l.property.key value) (filter (λ value. not (set.contains (values_at l.self l.side l.id l.property.key) value)) (take l.value-index l.value-items))
