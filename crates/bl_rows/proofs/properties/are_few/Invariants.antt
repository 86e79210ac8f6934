use Rattle.std.proofs.Common.{◌≡◌, ◌+◌, take, length, sum_by}
use Rattle.bl_rows.proofs.properties.are_few.Given as goal

abbrev pub invariant-loop-property : goal.invariant-loop-property
invariant-loop-property l = l.room + (l.labels + sum_by (λ property. length property.values) (take l.property-index l.properties)) ≡ 4096
