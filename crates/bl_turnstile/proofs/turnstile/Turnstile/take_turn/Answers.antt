use Rattle.std.proofs.Common.{subst, sym, ℕ, ◌∙◌, arith}
use Rattle.std.specs.declared.option.Option.{Option}
use mathlib.Core.Option.{none}
use Rattle.atomic_table.specs.Table.{step, Allows, Me}
use Rattle.bl_turnstile.specs.declared.standing.Standing.{Standing}
use Rattle.bl_turnstile.specs.Entries.{Entries}
use Rattle.bl_turnstile.specs.Rule.{IsTurn}
use Rattle.bl_turnstile.specs.Plays.{Looks}
use Rattle.bl_turnstile.proofs.Entering.{looks}
use Rattle.bl_turnstile.proofs.turnstile.Turnstile.take_turn.Goals as goal

pub load-requires : goal.load-requires
load-requires g c = (
  c.loop.invariant.0 ∙ c.requires.0,
  omega (arith, c.args.self.now.sized.0),
  let stands : g.row.T.Denot → Entries → Type 0 = λ x. g.T.Told.stands x 1 in
      let slots : ℕ = c.args.self.now.table.shared.table_id.slots in
      let id : ℕ = c.loop.seat.id in
      subst (λ (m : Me (Option g.row.T.Denot) Standing). Allows (IsTurn stands) slots id m 0 (λ x. x) (Looks stands (step slots 0 0 0 none) m)) (sym c.loop.invariant.1)
      (looks stands slots id c.args.number c.args.seat.now.me.0.seen c.args.seat.now.me.0.mine),
)
