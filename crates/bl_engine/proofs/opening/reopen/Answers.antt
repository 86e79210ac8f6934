use Rattle.std.proofs.Common.{Err, sym, subst}
use Rattle.bl_engine.specs.Openings.{Opens}
use Rattle.bl_engine.specs.declared.refusals.Trouble.{Trouble}
use Rattle.bl_engine.proofs.Found.{opens_begun, opens_refused}
use Rattle.bl_engine.proofs.opening.reopen.Goals as goal

pub returns-in-Err : goal.returns-in-Err
returns-in-Err g c =
    subst (λ (t : Trouble). Opens g.D.Disk c.args.journal.now.disk c.restart.new.self (Err t)) (sym c.trouble_of.ensures)
    (opens_refused g.D.Disk c.args.journal.now.disk c.restart.new.self c.in-Err.fault c.in-Err.ensures.opens)

pub returns : goal.returns
returns g c =
    let r = c.replay.ensures in
    opens_begun g.D.Disk c.args.journal.now.disk g.met.D.Disk.counts_now (g.met.D.Disk.seen_is_image c.args.journal.now.disk) c.restart.new.self c.replay.new.journal c.replay.result
    c.in-Ok.ensures.opens c.in-Ok.ensures.at_gate r.replayed r.leads r.room r.at_end r.settled r.any_moment r.sound r.store r.later
