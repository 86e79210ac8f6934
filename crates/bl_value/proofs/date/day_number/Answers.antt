use Rattle.std.proofs.Common.{◌≡◌, pos, arith}
use Rattle.std.proofs.lemmas.Int.{ints}
use Rattle.bl_value.proofs.Days.{day_bounds}
use Rattle.bl_value.proofs.date.day_number.Goals as goal

pub returns-in-Ok-clause-bound : goal.returns-in-Ok-clause-bound
returns-in-Ok-clause-bound c =
    let year : c.in-Ok.date.year ≡ pos c.args.year = omega (arith, ints, c.in-Ok.ensures.value) in
    let bounds = day_bounds c.in-Ok.date c.args.year year in
    let number = c.to_unix_epoch_day.ensures.value in
    (omega (arith, ints, bounds.0, number), omega (arith, ints, bounds.1, number))
