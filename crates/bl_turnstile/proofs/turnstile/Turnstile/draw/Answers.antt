use Rattle.std.proofs.Common.{subst, sym, ℕ, ◌+◌, ◌∙◌, arith}
use Rattle.std.specs.declared.option.Option.{Option}
use mathlib.Core.Option.{none}
use prog.Atomic.{either}
use lib.Dec.{eqb}
use Rattle.atomic_table.specs.Table.{step, Allows, Me}
use Rattle.bl_turnstile.specs.declared.standing.Standing.{Standing}
use Rattle.bl_turnstile.specs.Entries.{Entries}
use Rattle.bl_turnstile.specs.Rule.{IsTurn}
use Rattle.bl_turnstile.specs.Plays.{Draws}
use Rattle.bl_turnstile.proofs.Entering.{draws}
use Rattle.bl_turnstile.proofs.turnstile.Turnstile.draw.Goals as goal

pub compare_exchange-found-requires : goal.compare_exchange-found-requires
compare_exchange-found-requires g c = (
  c.loop.invariant.0 ∙ c.requires.0,
  omega (arith, c.args.self.now.sized.0),
  let stands : g.row.T.Denot → Entries → Type 0 = λ x. g.T.Told.stands x 1 in
      let slots : ℕ = c.args.self.now.table.shared.table_id.slots in
      let id : ℕ = c.loop.seat.id in
      let number : ℕ = c.loop.number in
      subst (λ (m : Me (Option g.row.T.Denot) Standing). Allows (IsTurn stands) slots id m 1 (λ x. either (eqb x number) (number + 1) x) (Draws stands (step slots 1 number (number + 1) none) m)) (sym c.loop.invariant.1)
      (draws stands slots id number c.args.seat.now.me.0.seen c.args.seat.now.me.0.mine c.if-number-lt18446744073709551615.true),
)
