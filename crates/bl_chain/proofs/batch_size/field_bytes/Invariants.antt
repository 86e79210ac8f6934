use Rattle.std.proofs.Common.{◌≡◌, take}
use Rattle.bl_chain.specs.BatchSizes.{field_bytes}
use Rattle.bl_chain.proofs.batch_size.field_bytes.Given as goal

abbrev pub invariant-loop-field : goal.invariant-loop-field
invariant-loop-field l = l.bytes ≡ field_bytes (take l.field-index l.fields)
