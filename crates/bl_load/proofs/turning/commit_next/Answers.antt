use Rattle.std.proofs.Common.{◌≡◌, Err, subst, sym}
use Rattle.std.specs.Prelude.{Result}
use Rattle.bl_engine.specs.Attempts.{Attempts}
use Rattle.bl_engine.specs.Calls.{Handles}
use Rattle.bl_engine.specs.Findings.{turned_by}
use Rattle.bl_engine.specs.Outcomes.{Done, turn_outcome}
use Rattle.bl_engine.specs.declared.turned.Turned.{Turned}
use Rattle.bl_load.specs.Committing.{In, PreparedEntry}
use Rattle.bl_load.specs.TurnFaults.{fault_outcome, told_trouble}
use Rattle.bl_load.specs.declared.turn_fault.TurnFault.{TurnFault}
use Rattle.bl_load.proofs.Committed.{attempts_here, attempts_refused, handles_refused, not_stale}
use Rattle.bl_load.proofs.turning.commit_next.Goals as goal

pub returns-in-Ok-clause-attempts : goal.returns-in-Ok-clause-attempts
returns-in-Ok-clause-attempts g c = λ isnt.
    attempts_here g.D.Disk (λ world entry. PreparedEntry c.args.work c.args.prepared (g.K.Clock.last c.commit.new.clock) world entry × (c.in-Ok.turned ≡ turned_by entry)) c.args.engine.now c.commit.new.engine c.requires.ready Done
    (c.in-Ok.ensures.attempts isnt)

abbrev failed : TurnFault → Result Turned TurnFault
failed fault = Err fault

pub returns-in-Err-clause-attempts : goal.returns-in-Err-clause-attempts
returns-in-Err-clause-attempts g c = λ isnt.
    let makes = PreparedEntry c.args.work c.args.prepared (g.K.Clock.last c.commit.new.clock) in
    let fresh = not_stale g.D.Disk c.args.work c.args.engine.now c.commit.new.engine c.requires.ready c.requires.next (turn_outcome (Err c.in-Err.refusal)) c.in-Err.refusal c.in-Err.ensures.finds in
    subst (λ f. Attempts g.D.Disk (In c.args.engine.now.world makes) c.args.engine.now c.commit.new.engine (fault_outcome (failed f))) (sym c.fault_of.ensures)
    (attempts_refused g.D.Disk makes c.args.engine.now c.commit.new.engine c.in-Err.refusal c.requires.ready fresh (c.in-Err.ensures.attempts isnt))

pub returns-in-Err-clause-handles : goal.returns-in-Err-clause-handles
returns-in-Err-clause-handles g c =
    let makes = PreparedEntry c.args.work c.args.prepared (g.K.Clock.last c.commit.new.clock) in
    let fresh = not_stale g.D.Disk c.args.work c.args.engine.now c.commit.new.engine c.requires.ready c.requires.next (turn_outcome (Err c.in-Err.refusal)) c.in-Err.refusal c.in-Err.ensures.finds in
    subst (λ f. Handles g.D.Disk c.args.engine.now c.commit.new.engine (told_trouble f)) (sym c.fault_of.ensures)
    (handles_refused g.D.Disk makes c.args.engine.now c.commit.new.engine c.args.prepared c.in-Err.refusal fresh c.in-Err.ensures.attempts c.in-Err.ensures.looks)
