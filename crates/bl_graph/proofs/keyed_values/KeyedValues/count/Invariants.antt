use Rattle.std.proofs.Common.{◌≡◌, ◌+◌, ◌-◌, ◌^◌, ◌<◌, min}
use Rattle.bl_outside.specs.OrderedSet as set
use Rattle.bl_graph.specs.Numbered.{values_count}
use Rattle.bl_graph.specs.Sizes.{total}
use Rattle.bl_graph.proofs.keyed_values.KeyedValues.count.Given as goal

-- with the sets that are left it is the whole count
abbrev pub invariant-loop-values : goal.invariant-loop-values
invariant-loop-values l = (min (l.count + total set.len l.values-iterator) (2 ^ 64 - 1) ≡ min (values_count l.self) (2 ^ 64 - 1)) × (l.count < 2 ^ 64)
