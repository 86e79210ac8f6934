use Rattle.std.proofs.Common.{◌≡◌, take, length, sum_by}
use Rattle.bl_load.proofs.gathering.field_bytes.Given as goal

abbrev pub invariant-loop-field : goal.invariant-loop-field
invariant-loop-field l = l.bytes ≡ sum_by length (take l.field-index l.fields)
