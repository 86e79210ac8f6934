use Rattle.std.proofs.Common.{◌≡◌, []}
use Rattle.bl_turnstile.specs.Views.{waiting}
use Rattle.bl_turnstile.proofs.turnstile.Turnstile.take_turn.Given as goal

-- it still waits
abbrev pub invariant-loop : goal.invariant-loop
invariant-loop g l = (l.seat.table_id ≡ l.initial.seat.table_id) × (l.seat.me ≡ (waiting l.number l.initial.seat.me.0.seen l.initial.seat.me.0.mine, []))
