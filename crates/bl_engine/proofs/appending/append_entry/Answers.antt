use Rattle.std.proofs.Common.{◌∙◌, Err, ap}
use Rattle.bl_engine.proofs.Added.{adds_done, adds_refused}
use Rattle.bl_engine.proofs.appending.append_entry.Goals as goal

pub returns-in-Err-append : goal.returns-in-Err-append
returns-in-Err-append g c =
    let e = c.append.ensures in
    adds_refused g.D.Disk c.args.entry c.args.journal.now c.args.world.now c.append.new.self c.take.new.self c.in-Ok-take.ensures.ok c.as_slice.result.now (c.as_slice.ensures ∙ c.in-Ok.ensures) e.any_moment e.sound e.later
    c.in-Err-append.refusal (λ is. c.in-Err-append.ensures.full (ap (λ r. Err r) is)) (λ is. (c.in-Err-append.ensures.store (ap (λ r. Err r) is)).1)

pub returns : goal.returns
returns g c =
    let e = c.append.ensures in
    let ok = c.in-Ok-append.ensures in
    adds_done g.D.Disk c.args.entry c.args.journal.now c.args.world.now c.append.new.self c.take.new.self c.in-Ok-take.ensures.ok c.as_slice.result.now (c.as_slice.ensures ∙ c.in-Ok.ensures) e.any_moment e.sound e.later
    ok.acknowledged ok.at_end ok.room ok.place.1
