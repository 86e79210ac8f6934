use Rattle.std.proofs.Common.{Ok, Err, ◌∙◌}
use Rattle.bl_world.proofs.SureWorlds.{have_jobs}
use Rattle.bl_cli.proofs.MadeLoads.{found_in, may_refuse, submits_err, submits_ok, undone}
use Rattle.bl_cli.proofs.loads.submit_load.Goals as goal

pub submit_fault-requires : goal.submit_fault-requires
submit_fault-requires g c =
    let leads = c.is_ready.ensures.leads (c.is_ready.ensures.ready ∙ c.requires.ready) in
    may_refuse g.D.Disk c.args.salt c.args.request c.args.engine.now c.in-Err.refusal
    (found_in g.D.Disk c.args.salt c.args.request c.args.engine.now c.submit.new.self (Err c.in-Err.refusal) c.requires.ready (have_jobs leads.0 c.args.engine.now.world leads.1) c.requires.idle c.requires.plain c.in-Err.ensures.finds)

pub returns-in-Ok : goal.returns-in-Ok
returns-in-Ok g c =
    let leads = c.is_ready.ensures.leads (c.is_ready.ensures.ready ∙ c.requires.ready) in
    submits_ok g.D.Disk c.args.salt (g.K.Clock.last c.submit.new.clock) c.args.request c.args.engine.now c.submit.new.self c.in-Ok.id c.requires.ready c.requires.plain c.in-Ok.ensures.attempts
    (found_in g.D.Disk c.args.salt c.args.request c.args.engine.now c.submit.new.self (Ok c.in-Ok.id) c.requires.ready (have_jobs leads.0 c.args.engine.now.world leads.1) c.requires.idle c.requires.plain c.in-Ok.ensures.finds)

pub returns-in-Err : goal.returns-in-Err
returns-in-Err g c =
    let leads = c.is_ready.ensures.leads (c.is_ready.ensures.ready ∙ c.requires.ready) in
    submits_err g.D.Disk c.args.salt (g.K.Clock.last c.submit.new.clock) c.args.request c.args.engine.now c.submit.new.self c.in-Err.refusal c.submit_fault.result c.submit_fault.ensures (undone c.in-Err.refusal) c.in-Err.ensures.attempts
    (found_in g.D.Disk c.args.salt c.args.request c.args.engine.now c.submit.new.self (Err c.in-Err.refusal) c.requires.ready (have_jobs leads.0 c.args.engine.now.world leads.1) c.requires.idle c.requires.plain c.in-Err.ensures.finds)
