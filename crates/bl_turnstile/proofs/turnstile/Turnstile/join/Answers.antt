use Rattle.std.proofs.Common.{subst, sym, ap, ℕ, [], ◌∙◌, ◌≡◌, refl, arith}
use Rattle.std.specs.declared.option.Option.{Option}
use mathlib.Core.Option.{none}
use Rattle.atomic_table.specs.Table.{step, Allows, Me}
use Rattle.bl_turnstile.specs.declared.standing.Standing.{Standing}
use Rattle.bl_turnstile.specs.Entries.{Entries}
use Rattle.bl_turnstile.specs.Views.{joined}
use Rattle.bl_turnstile.specs.Rule.{IsTurn}
use Rattle.bl_turnstile.specs.Plays.{Settles}
use Rattle.bl_turnstile.specs.Passes.{seen, mine}
use Rattle.bl_turnstile.proofs.Sharing.{joins, settles}
use Rattle.bl_turnstile.proofs.turnstile.Turnstile.join.Goals as goal

pub join_seat-requires : goal.join_seat-requires
join_seat-requires g c =
    let stands : g.row.T.Denot → Entries → Type 0 = λ x. g.T.Told.stands x 1 in
    let first = c.into_seat-seat.result in
    let other = c.into_seat-second.result in (
      c.into_seat-seat.ensures.place ∙ c.requires.0,
      c.into_seat-second.ensures.place ∙ c.requires.1,
      ap (λ (m : Me (Option g.row.T.Denot) Standing). m.1) c.into_seat-second.ensures.idle,
      omega (arith, c.args.self.now.sized.0),
      joins stands first.id other.id first.me.0 other.me.0 (seen c.args.pass) (seen c.args.other) (mine c.args.pass) (mine c.args.other)
          (ap (λ (m : Me (Option g.row.T.Denot) Standing). m.0) c.into_seat-seat.ensures.idle) (ap (λ (m : Me (Option g.row.T.Denot) Standing). m.0) c.into_seat-second.ensures.idle),
    )

pub load-requires : goal.load-requires
load-requires g c =
    let stands : g.row.T.Denot → Entries → Type 0 = λ x. g.T.Told.stands x 1 in
    let slots : ℕ = c.args.self.now.table.shared.table_id.slots in
    let id : ℕ = c.join_seat.new.seat.id in
    let v : Standing = c.into_seat-seat.result.me.0 in
    let w : Standing = c.into_seat-second.result.me.0 in
    let both : Standing = joined v w in
    let is : c.join_seat.new.seat.me ≡ (both, []) = c.join_seat.ensures.2 ∙ ap (λ (m : Me (Option g.row.T.Denot) Standing). (both, m.1)) c.into_seat-seat.ensures.idle in (
      c.join_seat.ensures.0 ∙ c.into_seat-seat.ensures.place ∙ c.requires.0,
      omega (arith, c.args.self.now.sized.0),
      subst (λ (m : Me (Option g.row.T.Denot) Standing). Allows (IsTurn stands) slots id m 0 (λ x. x) (Settles stands (step slots 0 0 0 none) m)) (sym is)
          (settles stands slots id both.seen w.seen both.mine both refl),
    )
