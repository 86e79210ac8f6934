use Rattle.std.proofs.Common.{subst, sym, ap, ℕ, [], ◌∷◌, ◌+◌, ◌%◌, ◌^◌, ◌∙◌, ◌≡◌, arith, Some}
use Rattle.std.specs.declared.option.Option.{Option}
use mathlib.Core.Option.{none}
use Rattle.atomic_table.specs.Table.{step, Allows, Me, rest}
use Rattle.bl_turnstile.specs.declared.standing.Standing.{Standing}
use Rattle.bl_turnstile.specs.Entries.{Entries}
use Rattle.bl_turnstile.specs.Views.{having, bound_to}
use Rattle.bl_turnstile.specs.Rule.{IsTurn}
use Rattle.bl_turnstile.specs.Plays.{Announces, Puts, Raises}
use Rattle.bl_turnstile.proofs.Leaving.{announces, puts, raises}
use Rattle.bl_turnstile.proofs.turnstile.Turnstile.leave.Goals as goal

pub load-requires : goal.load-requires
load-requires g c =
    let stands : g.row.T.Denot → Entries → Type 0 = λ x. g.T.Told.stands x 1 in
    let slots : ℕ = c.args.self.now.table.shared.table_id.slots in
    let id : ℕ = c.exchange.new.seat.id in
    let v : Standing = c.args.inside.pass.seat.me.0 in
    let value : g.row.T.Denot = c.args.inside.value in
    let told = c.requires.stands in
    let is : c.exchange.new.seat.me ≡ (having v.ticket v.seen v.mine, (0, Some value) ∷ []) =
    c.exchange.ensures.3 ∙ ap (λ (m : Me (Option g.row.T.Denot) Standing). (m.0, (0, Some value) ∷ rest m.1)) c.args.inside.pass.inside in (
      c.exchange.ensures.0 ∙ c.requires.place,
      omega (arith, c.args.self.now.sized.0),
      subst (λ (m : Me (Option g.row.T.Denot) Standing). Allows (IsTurn stands) slots id m 0 (λ x. x) (Announces stands (step slots 0 0 0 none) m)) (sym is)
          (announces stands slots id v.ticket v.seen told.0 v.mine value told.1 told.2),
    )

pub load-requires-2 : goal.load-requires-2
load-requires-2 g c =
    let stands : g.row.T.Denot → Entries → Type 0 = λ x. g.T.Told.stands x 1 in
    let slots : ℕ = c.args.self.now.table.shared.table_id.slots in
    let id : ℕ = c.load.new.seat.id in
    let v : Standing = c.exchange.new.seat.me.0 in
    let t = c.load.ensures.2 in
    let value : g.row.T.Denot = t.0 in
    let is : c.load.new.seat.me ≡ (bound_to v.ticket v.seen v.mine t.1, (0, Some value) ∷ []) = t.5 ∙ ap (λ l. (bound_to v.ticket v.seen v.mine t.1, l)) t.2 in (
      c.load.ensures.0 ∙ c.exchange.ensures.0 ∙ c.requires.place,
      omega (arith, c.args.self.now.sized.0),
      subst (λ (m : Me (Option g.row.T.Denot) Standing). Allows (IsTurn stands) slots id m 0 (λ x. x) (Puts stands (step slots 0 0 0 none) m)) (sym is)
          (puts stands slots id v.ticket v.seen t.1 v.mine value t.3 t.4),
    )

pub fetch_add-requires : goal.fetch_add-requires
fetch_add-requires g c =
    let stands : g.row.T.Denot → Entries → Type 0 = λ x. g.T.Told.stands x 1 in
    let slots : ℕ = c.args.self.now.table.shared.table_id.slots in
    let id : ℕ = c.load-2.new.seat.id in
    let v : Standing = c.load.new.seat.me.0 in
    let t = c.load-2.ensures.2 in (
      c.load-2.ensures.0 ∙ c.load.ensures.0 ∙ c.exchange.ensures.0 ∙ c.requires.place,
      omega (arith, c.args.self.now.sized.0),
      subst (λ (m : Me (Option g.row.T.Denot) Standing). Allows (IsTurn stands) slots id m 0 (λ w. (w + 1) % 2 ^ 64) (Raises stands (step slots 0 1 0 none) m)) (sym t.2)
          (raises stands slots id v.ticket v.seen t.0 v.mine),
    )
