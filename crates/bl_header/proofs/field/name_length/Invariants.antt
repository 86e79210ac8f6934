use Rattle.std.proofs.Common.{◌≡◌, ◌+◌, length, drop, false}
use Rattle.bl_header.specs.Fields.{before_colon}
use Rattle.bl_header.proofs.field.name_length.Given as goal

abbrev pub invariant-loop-place : goal.invariant-loop-place
invariant-loop-place l = l.place + length (before_colon l.barred (drop l.place l.field)) ≡ length (before_colon false l.field)
