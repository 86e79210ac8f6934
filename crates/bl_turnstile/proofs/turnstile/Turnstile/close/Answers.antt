use Rattle.std.proofs.Common.{subst, sym, ap, ℕ, ◌∙◌, ◌≡◌, Some}
use Rattle.std.specs.declared.option.Option.{Option}
use mathlib.Core.Option.{some, some-injective}
use Rattle.atomic_table.specs.Table.{Me}
use Rattle.bl_turnstile.specs.declared.standing.Standing.{Standing}
use Rattle.std.specs.Option.{unwrap_or}
use Rattle.bl_turnstile.specs.Entries.{Entries}
use Rattle.bl_turnstile.specs.Passes.{mine}
use Rattle.bl_turnstile.proofs.Ends.{closes}
use Rattle.bl_turnstile.proofs.turnstile.Turnstile.close.Goals as goal

pub wanted-requires : goal.wanted-requires
wanted-requires g c =
    let stands : g.row.T.Denot → Entries → Type 0 = λ x. g.T.Told.stands x 1 in
    let n : ℕ = c.wait-seat.ensures.inside.0 in
    let last = c.close_with-closed.ensures.values.2 in
    let view = ap (λ (m : Me (Option g.row.T.Denot) Standing). m.0) c.wait-seat.ensures.inside.1 in
    let is = closes stands c.wait-seat.result.id n c.wait-seat.result.me.0.seen (mine c.args.pass) last.0 last.1.0 (last.1.1 ∙ ap some view) in
    (is.0, some-injective c.take-kept.result (Some is.0) (sym c.take-kept.ensures.value ∙ last.4 0 (Some is.0) is.1))

pub returns : goal.returns
returns g c =
    let stands : g.row.T.Denot → Entries → Type 0 = λ x. g.T.Told.stands x 1 in
    let n : ℕ = c.wait-seat.ensures.inside.0 in
    let last = c.close_with-closed.ensures.values.2 in
    let view = ap (λ (m : Me (Option g.row.T.Denot) Standing). m.0) c.wait-seat.ensures.inside.1 in
    let is = closes stands c.wait-seat.result.id n c.wait-seat.result.me.0.seen (mine c.args.pass) last.0 last.1.0 (last.1.1 ∙ ap some view) in
    let kept = some-injective c.take-kept.result (Some is.0) (sym c.take-kept.ensures.value ∙ last.4 0 (Some is.0) is.1) in
    let same : is.0 ≡ c.wanted.result = ap (λ o. unwrap_or o is.0) (sym kept ∙ c.wanted.ensures) in
    (c.wait-seat.result.me.0.seen, subst (λ x. stands x c.wait-seat.result.me.0.seen) same is.2, c.wait-seat.ensures.later)
