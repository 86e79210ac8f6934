use Rattle.std.proofs.Common.{◌≡◌}
use Rattle.bl_outside.proofs.Finite.{add_all}
use Rattle.bl_graph.proofs.ValueOrder.{value_cmp_total}
use Rattle.bl_graph.proofs.value_set.ValueSetCopied.copied.Given as goal

-- with the values that are left it is the whole set
abbrev pub invariant-loop-value : goal.invariant-loop-value
invariant-loop-value l = add_all value_cmp_total l.value-iterator l.copy ≡ l.self
