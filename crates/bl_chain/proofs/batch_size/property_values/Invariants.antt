use Rattle.std.proofs.Common.{◌≡◌, take}
use Rattle.bl_chain.specs.BatchSizes.{property_values}
use Rattle.bl_chain.proofs.batch_size.property_values.Given as goal

abbrev pub invariant-loop-property : goal.invariant-loop-property
invariant-loop-property l = l.count ≡ property_values (take l.property-index l.properties)
