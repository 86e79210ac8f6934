use Rattle.std.proofs.Common.{◌≡◌, ◌≤◌, ap, arith, length, leb-true}
use Rattle.std.proofs.lemmas.Bool.{le-leb}
use Rattle.bl_files.specs.Carried.{most_files}
use Rattle.bl_queue.proofs.starting.carry_fits.Goals as goal

pub returns : goal.returns
returns c =
    let there = c.in_ok-number.ensures in (
      λ few. (there.0, there.1, (let fits : c.in_ok-number.number ≤ most_files = leb-true c.in_ok-number.number most_files few in omega (arith, there.2, fits))),
      λ fits. (let same : fits.0 ≡ there.0 = c.carried_feeds_are_one_list.ensures c.args.previous.now c.args.found.now fits.0 there.0 fits.1 there.1 in le-leb c.in_ok-number.number most_files (omega (arith, ap length same, there.2, fits.2))),
    )
