use Rattle.std.proofs.Common.{◌≡◌, take, length, sum_by}
use Rattle.bl_load.proofs.batch_rows.property_values.Given as goal

abbrev pub invariant-loop-property : goal.invariant-loop-property
invariant-loop-property l = l.count ≡ sum_by (λ property. length property.values) (take l.property-index l.properties)
