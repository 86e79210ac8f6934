use Rattle.std.proofs.Common.{◌≡◌, None, subst}
use Rattle.bl_chain.specs.Folders.{AreTablesOf}
use Rattle.bl_chain.specs.MadeEntries.{IsMade}
use Rattle.bl_load.specs.Prepares.{Prepares, is_fault}
use Rattle.bl_load.specs.TurnFaults.{trouble_of}
use Rattle.bl_engine.proofs.Composed.{handles_after}
use Rattle.bl_load.proofs.ResumedLoads.{resumes_to}
use Rattle.bl_load.proofs.Turned.{counts_up, drains_anyhow, drains_looked, drains_over, entries_at, has_no_room, keeps_jobs, next_is, no_fault, turns_to}
use Rattle.bl_load.proofs.turning.turn.Goals as goal

-- ---- the engine could not be opened, or nothing could be prepared

pub returns-in_err-task-clause-made : goal.returns-in_err-task-clause-made
returns-in_err-task-clause-made g c = λ files told fresh s stays.
    drains_looked g.D.Disk g.met.D.Disk.only_now (IsMade (AreTablesOf files)) c.args.engine.now c.next_task.new.engine _ c.in_err-task.ensures.looks s stays

pub returns-in_err-task-clause-anyhow : goal.returns-in_err-task-clause-anyhow
returns-in_err-task-clause-anyhow g c = λ s stays.
    drains_looked g.D.Disk g.met.D.Disk.only_now (λ world entry. Unit {0}) c.args.engine.now c.next_task.new.engine _ c.in_err-task.ensures.looks s stays

pub returns-in_err-task-clause-resumes : goal.returns-in_err-task-clause-resumes
returns-in_err-task-clause-resumes g c = λ files told fresh s stays.
    resumes_to g.D.Disk files c.args.engine.now c.next_task.new.engine s
    (drains_looked g.D.Disk g.met.D.Disk.only_now (IsMade (AreTablesOf files)) c.args.engine.now c.next_task.new.engine _ c.in_err-task.ensures.looks s stays)

pub returns-in_err-prepared-clause-made : goal.returns-in_err-prepared-clause-made
returns-in_err-prepared-clause-made g c = λ files told fresh s stays.
    drains_looked g.D.Disk g.met.D.Disk.only_now (IsMade (AreTablesOf files)) c.args.engine.now c.next_task.new.engine None c.in_ok-task.ensures.looks s stays

pub returns-in_err-prepared-clause-anyhow : goal.returns-in_err-prepared-clause-anyhow
returns-in_err-prepared-clause-anyhow g c = λ s stays.
    drains_looked g.D.Disk g.met.D.Disk.only_now (λ world entry. Unit {0}) c.args.engine.now c.next_task.new.engine None c.in_ok-task.ensures.looks s stays

pub returns-in_err-prepared-clause-resumes : goal.returns-in_err-prepared-clause-resumes
returns-in_err-prepared-clause-resumes g c = λ files told fresh s stays.
    resumes_to g.D.Disk files c.args.engine.now c.next_task.new.engine s
    (drains_looked g.D.Disk g.met.D.Disk.only_now (IsMade (AreTablesOf files)) c.args.engine.now c.next_task.new.engine None c.in_ok-task.ensures.looks s stays)

-- ---- what was prepared is committed

pub returns-clause-turned : goal.returns-clause-turned
returns-clause-turned g c = λ files told fresh unrisen s stays.
    let task = c.in_ok-task.ensures in
    let e = entries_at g.D.Disk c.args.engine.now c.next_task.new.engine task.looks task.ready s stays in
    turns_to g.D.Disk c.in_ok-task.task.work c.in_ok-prepared.prepared (g.K.Clock.last c.commit_next.new.clock) c.args.engine.now c.next_task.new.engine c.commit_next.new.engine task.looks task.ready
    (next_is c.next_task.new.engine.world.kept.jobs c.in_ok-task.task task.task) files e.0 e.1 e.2 (subst (λ t. Prepares files t c.in_ok-prepared.prepared) task.task (c.in_ok-prepared.ensures.prepares files told fresh))
    c.commit_next.result (no_fault (is_fault c.in_ok-prepared.prepared) c.in_ok-prepared.ensures.fault unrisen) c.commit_next.ensures.attempts c.commit_next.ensures.same c.commit_next.ensures.idle c.in_ok-prepared.ensures.may s stays

pub returns-clause-made : goal.returns-clause-made
returns-clause-made g c = λ files told fresh s stays.
    let task = c.in_ok-task.ensures in
    let e = entries_at g.D.Disk c.args.engine.now c.next_task.new.engine task.looks task.ready s stays in
    drains_over g.D.Disk c.in_ok-task.task.work c.in_ok-prepared.prepared (g.K.Clock.last c.commit_next.new.clock) c.args.engine.now c.next_task.new.engine c.commit_next.new.engine task.looks task.ready
    (next_is c.next_task.new.engine.world.kept.jobs c.in_ok-task.task task.task) files e.0 e.1 e.2 (subst (λ t. Prepares files t c.in_ok-prepared.prepared) task.task (c.in_ok-prepared.ensures.prepares files told fresh))
    g.met.D.Disk.only_now c.commit_next.result c.commit_next.ensures.attempts c.commit_next.ensures.same s stays

pub returns-clause-anyhow : goal.returns-clause-anyhow
returns-clause-anyhow g c = λ s stays.
    let task = c.in_ok-task.ensures in
    drains_anyhow g.D.Disk c.in_ok-task.task.work c.in_ok-prepared.prepared (g.K.Clock.last c.commit_next.new.clock) c.args.engine.now c.next_task.new.engine c.commit_next.new.engine task.looks task.ready
    (next_is c.next_task.new.engine.world.kept.jobs c.in_ok-task.task task.task) g.met.D.Disk.only_now c.commit_next.result c.commit_next.ensures.attempts c.commit_next.ensures.same s stays

pub returns-clause-resumes : goal.returns-clause-resumes
returns-clause-resumes g c = λ files told fresh s stays.
    resumes_to g.D.Disk files c.args.engine.now c.commit_next.new.engine s (returns-clause-made g c files told fresh s stays)

pub returns-clause-handles : goal.returns-clause-handles
returns-clause-handles g c =
    handles_after g.D.Disk c.args.engine.now c.next_task.new.engine c.commit_next.new.engine (trouble_of c.commit_next.result) c.in_ok-task.ensures.ready c.in_ok-task.ensures.looks.handles c.commit_next.ensures.handles

pub returns-clause-full : goal.returns-clause-full
returns-clause-full g c = λ files told fresh s stays.
    let task = c.in_ok-task.ensures in
    let e = entries_at g.D.Disk c.args.engine.now c.next_task.new.engine task.looks task.ready s stays in
    has_no_room g.D.Disk c.in_ok-task.task.work c.in_ok-prepared.prepared (g.K.Clock.last c.commit_next.new.clock) c.args.engine.now c.next_task.new.engine c.commit_next.new.engine task.looks task.ready
    (next_is c.next_task.new.engine.world.kept.jobs c.in_ok-task.task task.task) files e.0 e.1 e.2 (subst (λ t. Prepares files t c.in_ok-prepared.prepared) task.task (c.in_ok-prepared.ensures.prepares files told fresh))
    c.commit_next.result c.commit_next.ensures.attempts c.commit_next.ensures.room s stays

pub returns-clause-counts : goal.returns-clause-counts
returns-clause-counts g c =
    let task = c.in_ok-task.ensures in
    counts_up g.D.Disk c.in_ok-task.task.work c.in_ok-prepared.prepared (g.K.Clock.last c.commit_next.new.clock) c.args.engine.now c.next_task.new.engine c.commit_next.new.engine task.looks task.ready
    (next_is c.next_task.new.engine.world.kept.jobs c.in_ok-task.task task.task) c.commit_next.result c.commit_next.ensures.attempts c.commit_next.ensures.same c.commit_next.ensures.idle c.in_ok-prepared.ensures.may c.commit_next.ensures.counts

pub returns-clause-keeps : goal.returns-clause-keeps
returns-clause-keeps g c =
    let task = c.in_ok-task.ensures in
    keeps_jobs g.D.Disk c.in_ok-task.task.work c.in_ok-prepared.prepared (g.K.Clock.last c.commit_next.new.clock) c.args.engine.now c.next_task.new.engine c.commit_next.new.engine task.looks task.ready
    (next_is c.next_task.new.engine.world.kept.jobs c.in_ok-task.task task.task) c.commit_next.result c.commit_next.ensures.attempts c.commit_next.ensures.same
