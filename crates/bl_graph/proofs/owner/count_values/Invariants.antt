use Rattle.std.proofs.Common.{◌≡◌, ◌+◌, ◌-◌, ◌^◌, ◌<◌, min}
use Rattle.std.specs.Map.{values_of}
use Rattle.bl_graph.specs.Numbered.{values_count}
use Rattle.bl_graph.specs.Sizes.{total}
use Rattle.bl_graph.proofs.owner.count_values.Given as goal

-- with the owners that are left it is the whole count
abbrev pub invariant-loop-owner : goal.invariant-loop-owner
invariant-loop-owner g l =
    (min (l.count + total (λ owner. values_count owner.values) l.owner-iterator) (2 ^ 64 - 1) ≡ min (total (λ owner. values_count owner.values) (values_of l.owners.entries)) (2 ^ 64 - 1)) × (l.count < 2 ^ 64)
