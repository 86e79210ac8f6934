use Rattle.std.proofs.Common.{subst, sym, ap, ℕ, ◌∷◌, ◌∙◌, arith, Some}
use Rattle.std.specs.declared.option.Option.{Option}
use mathlib.Core.Option.{none}
use Rattle.atomic_table.specs.Table.{step, Allows, Me, rest}
use Rattle.bl_turnstile.specs.declared.standing.Standing.{Standing}
use Rattle.bl_turnstile.specs.Entries.{Entries}
use Rattle.bl_turnstile.specs.Rule.{IsTurn}
use Rattle.bl_turnstile.specs.Plays.{Takes}
use Rattle.bl_turnstile.specs.Passes.{mine}
use Rattle.bl_turnstile.proofs.Entering.{takes_it}
use Rattle.bl_turnstile.proofs.turnstile.Turnstile.enter.Goals as goal

pub load-requires : goal.load-requires
load-requires g c = (
  c.wait-seat.ensures.place,
  omega (arith, c.args.self.now.sized.0),
  let stands : g.row.T.Denot → Entries → Type 0 = λ x. g.T.Told.stands x 1 in
      let slots : ℕ = c.args.self.now.table.shared.table_id.slots in
      let id : ℕ = c.wait-seat.result.id in
      let n : ℕ = c.wait-seat.ensures.inside.0 in
      let seen : Entries = c.wait-seat.result.me.0.seen in
      subst (λ (m : Me (Option g.row.T.Denot) Standing). Allows (IsTurn stands) slots id m 0 (λ x. x) (Takes stands (step slots 0 0 0 none) m)) (sym c.wait-seat.ensures.inside.1)
      (takes_it stands slots id n seen (mine c.args.pass)),
)

pub exchange-requires : goal.exchange-requires
exchange-requires g c =
    let t = c.load.ensures.2 in
    let e = ap (λ (m : Me (Option g.row.T.Denot) Standing). m.1) t.2 in (
      c.load.ensures.0 ∙ c.wait-seat.ensures.place,
      (Some t.0, e ∙ ap (λ l. (0, Some t.0) ∷ l) (sym (ap rest e))),
    )
