use Rattle.std.proofs.Common.{◌≡◌, ◌≤◌, drop}
use Rattle.bl_http.proofs.FieldLemmas.{number_after}
use Rattle.bl_http.proofs.fields.small_number.Given as goal

-- the digits that are left go on from the number
abbrev pub invariant-loop-digit : goal.invariant-loop-digit
invariant-loop-digit l = record {
  small : l.number ≤ 1048576;
  same : number_after l.number (drop l.digit-index l.digits) ≡ number_after 0 l.digits;
}
