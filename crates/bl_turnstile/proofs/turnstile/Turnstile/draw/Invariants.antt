use Rattle.std.proofs.Common.{◌≡◌, []}
use Rattle.bl_turnstile.specs.Views.{idle}
use Rattle.bl_turnstile.proofs.turnstile.Turnstile.draw.Given as goal

-- it has no ticket yet
abbrev pub invariant-loop : goal.invariant-loop
invariant-loop g l = (l.seat.table_id ≡ l.initial.seat.table_id) × (l.seat.me ≡ (idle l.initial.seat.me.0.seen l.initial.seat.me.0.mine, []))
