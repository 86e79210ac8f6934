use Rattle.std.proofs.Common.{◌≡◌, Ok, Err, true, refl, subst}
use Rattle.std.specs.Prelude.{Result}
use Rattle.bl_world.specs.Worlds.{World}
use Rattle.bl_engine.specs.declared.refusals.Trouble.{Trouble}
use Rattle.bl_engine.specs.Engines.{View}
use Rattle.bl_engine.specs.Openings.{Opens}
use Rattle.bl_engine.proofs.Found.{opens_begun, opens_moved}
use Rattle.bl_engine.proofs.Looking.{sure_opened}
use Rattle.bl_engine.proofs.engine.Engine.open_counted.Goals as goal

pub invariant_of-result : goal.invariant_of-result
invariant_of-result g c ready =
    let r = c.replay.ensures in
    let disk = c.args.disks.journal in
    let opens = opens_begun g.D.Disk disk g.met.D.Disk.counts_now (g.met.D.Disk.seen_is_image disk) c.in-Ok.journal c.replay.new.journal c.replay.result c.in-Ok.ensures.opens c.in-Ok.ensures.at_gate
    r.replayed r.leads r.room r.at_end r.settled r.any_moment r.sound r.store r.later in
    sure_opened g.D.Disk disk (record { journal = c.replay.new.journal; left = c.args.disks.left; right = c.args.disks.right; world = c.in-Ok-replay.world; seq = c.entries-seq.result; ready = true }) refl c.entries-seq.ensures
    (subst (λ (x : Result World Trouble). Opens g.D.Disk disk c.replay.new.journal x) c.in-Ok-replay.is opens)

pub returns-in-Ok-replay-clause-opens : goal.returns-in-Ok-replay-clause-opens
returns-in-Ok-replay-clause-opens g c =
    let r = c.replay.ensures in
    let disk = c.args.disks.journal in
    subst (λ (x : Result World Trouble). Opens g.D.Disk disk c.replay.new.journal x) c.in-Ok-replay.is
    (opens_begun g.D.Disk disk g.met.D.Disk.counts_now (g.met.D.Disk.seen_is_image disk) c.in-Ok.journal c.replay.new.journal c.replay.result c.in-Ok.ensures.opens c.in-Ok.ensures.at_gate
    r.replayed r.leads r.room r.at_end r.settled r.any_moment r.sound r.store r.later)

pub returns-in-Err-replay-clause-opens : goal.returns-in-Err-replay-clause-opens
returns-in-Err-replay-clause-opens g c =
    let r = c.replay.ensures in
    let disk = c.args.disks.journal in
    opens_moved g.D.Disk disk c.replay.new.journal c.into_disk.result 0 c.in-Err-replay.trouble c.into_disk.ensures
    (subst (λ (x : Result World Trouble). Opens g.D.Disk disk c.replay.new.journal x) c.in-Err-replay.is
    (opens_begun g.D.Disk disk g.met.D.Disk.counts_now (g.met.D.Disk.seen_is_image disk) c.in-Ok.journal c.replay.new.journal c.replay.result c.in-Ok.ensures.opens c.in-Ok.ensures.at_gate
    r.replayed r.leads r.room r.at_end r.settled r.any_moment r.sound r.store r.later))
