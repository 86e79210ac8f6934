use Rattle.bl_snapshot.proofs.Calls.{opening, filled}
use Rattle.bl_snapshot.proofs.slot_file.fill_file.Goals as goal

pub returns-in_err-write_through-2-clause-any_moment : goal.returns-in_err-write_through-2-clause-any_moment
returns-in_err-write_through-2-clause-any_moment g c sound =
    let e = c.write_through.ensures in
    opening g.D.Disk c.args.disk.now (c.requires.shut sound) c.args.snapshot.now c.requires.length c.requires.numbers.0 c.requires.numbers.1 c.args.bytes.now c.requires.bytes
    c.write_through.new.disk (c.in_ok-write_through.ensures.written sound.honest) c.write_through-2.new.disk (e.any_moment sound.honest) (c.in_ok-write_through.ensures.durable sound.honest)
    (c.write_through-2.ensures.any_moment (e.honest.1 sound.honest))

pub returns-clause-any_moment : goal.returns-clause-any_moment
returns-clause-any_moment g c sound =
    let e = c.write_through.ensures in
    opening g.D.Disk c.args.disk.now (c.requires.shut sound) c.args.snapshot.now c.requires.length c.requires.numbers.0 c.requires.numbers.1 c.args.bytes.now c.requires.bytes
    c.write_through.new.disk (c.in_ok-write_through.ensures.written sound.honest) c.write_through-2.new.disk (e.any_moment sound.honest) (c.in_ok-write_through.ensures.durable sound.honest)
    (c.write_through-2.ensures.any_moment (e.honest.1 sound.honest))

pub returns-clause-filled : goal.returns-clause-filled
returns-clause-filled g c sound =
    let later = c.write_through.ensures.honest.1 sound.honest in
    filled g.D.Disk c.args.disk.now (c.requires.shut sound) c.args.snapshot.now c.requires.length c.requires.numbers.0 c.requires.numbers.1 c.args.bytes.now c.requires.bytes
    c.write_through.new.disk (c.in_ok-write_through.ensures.written sound.honest) c.write_through-2.new.disk (c.in_ok-write_through-2.ensures.written later)
    (record { honest = c.write_through-2.ensures.honest.1 later; only = c.in_ok-write_through-2.ensures.durable later })
