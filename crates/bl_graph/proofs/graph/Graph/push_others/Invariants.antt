use Rattle.std.proofs.Common.{◌≡◌, ◌++◌, map, filter, not}
use Rattle.bl_outside.specs.OrderedSet as set
use Rattle.bl_value.specs.declared.change.Change.TheVariants.{RemoveValue}
use Rattle.bl_graph.specs.Admission.{is_among}
use Rattle.bl_graph.proofs.graph.Graph.push_others.Given as goal

-- with what the values that are left give, all is there
abbrev pub invariant-loop-value : goal.invariant-loop-value
invariant-loop-value l =
    l.changes ++ map (λ value. RemoveValue l.side l.id l.property.key value) (filter (λ value. not (is_among l.property.values value)) l.value-iterator)
    ≡ l.fn.changes ++ map (λ value. RemoveValue l.side l.id l.property.key value) (filter (λ value. not (is_among l.property.values value)) (set.items l.there))
