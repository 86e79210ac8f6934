use Rattle.std.proofs.Common.{◌≡◌, ◌≤◌, length}
use Rattle.bl_http.specs.Fields.{says_close}
use Rattle.bl_http.proofs.fields.says_close.Given as goal

-- what the value says, the rest of it says
abbrev pub invariant-loop-comma : goal.invariant-loop-comma
invariant-loop-comma l = record { same : says_close l.rest ≡ says_close l.value; shorter : length l.rest ≤ length l.value }

abbrev pub decreases-loop-comma : goal.decreases-loop-comma
decreases-loop-comma l = length l.rest
