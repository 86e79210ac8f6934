use Rattle.std.proofs.Common.{ap, ◌∙◌, arith}
use Rattle.std.specs.declared.option.Option.{Option}
use Rattle.atomic_table.specs.Table.{Me}
use Rattle.bl_turnstile.specs.declared.standing.Standing.{Standing}
use Rattle.bl_turnstile.specs.Entries.{Entries}
use Rattle.bl_turnstile.specs.Passes.{seen, mine}
use Rattle.bl_turnstile.proofs.Sharing.{splits}
use Rattle.bl_turnstile.proofs.turnstile.Turnstile.split.Goals as goal

pub split_seat-second-requires : goal.split_seat-second-requires
split_seat-second-requires g c =
    let stands : g.row.T.Denot → Entries → Type 0 = λ x. g.T.Told.stands x 1 in
    let seat = c.into_seat-seat.result in (
      c.into_seat-seat.ensures.place ∙ c.requires,
      omega (arith, c.args.self.now.sized.0),
      splits stands seat.id seat.me.0 (seen c.args.pass) (mine c.args.pass) (ap (λ (m : Me (Option g.row.T.Denot) Standing). m.0) c.into_seat-seat.ensures.idle),
    )
