use Rattle.std.proofs.Common.{◌≡◌, filter, not}
use Rattle.bl_outside.specs.OrderedSet as set
use Rattle.bl_graph.specs.Admission.{is_among}
use Rattle.bl_graph.proofs.value_set.ValueSet.has_other.Given as goal

-- no value so far is another
abbrev pub invariant-loop-value : goal.invariant-loop-value
invariant-loop-value l = filter (λ value. not (is_among l.given value)) l.value-iterator ≡ filter (λ value. not (is_among l.given value)) (set.items l.self)
