use Rattle.std.proofs.Common.{subst, sym}
use Rattle.bl_engine.specs.Attempts.{Attempts}
use Rattle.bl_engine.specs.Findings.{Finds, Tells, TurnFinds}
use Rattle.bl_engine.specs.Outcomes.{turn_outcome}
use Rattle.bl_load.specs.Committing.{PreparedEntry}
use Rattle.bl_load.specs.Prepares.{MayCommit}
use Rattle.bl_load.proofs.committing.commit.Goals as goal

pub returns-in-Nothing-clause-finds : goal.returns-in-Nothing-clause-finds
returns-in-Nothing-clause-finds g c =
    subst (λ w. Finds g.D.Disk c.args.engine.now c.commit_nothing.new.engine (turn_outcome c.commit_nothing.result) (TurnFinds w c.commit_nothing.result)) (sym (subst (λ p. MayCommit c.args.work p) c.in-Nothing.is c.requires)) c.commit_nothing.ensures.finds

pub returns-in-Plan-clause-attempts : goal.returns-in-Plan-clause-attempts
returns-in-Plan-clause-attempts g c = λ isnt.
    subst (λ p. Attempts g.D.Disk (Tells (PreparedEntry c.args.work p (g.K.Clock.last c.commit_plan.new.clock)) c.commit_plan.result) c.args.engine.now c.commit_plan.new.self (turn_outcome c.commit_plan.result)) (sym c.in-Plan.is)
    c.commit_plan.ensures.attempts

pub returns-in-Rows-clause-attempts : goal.returns-in-Rows-clause-attempts
returns-in-Rows-clause-attempts g c = λ isnt.
    subst (λ p. Attempts g.D.Disk (Tells (PreparedEntry c.args.work p (g.K.Clock.last c.commit_rows.new.clock)) c.commit_rows.result) c.args.engine.now c.commit_rows.new.self (turn_outcome c.commit_rows.result)) (sym c.in-Rows.is)
    c.commit_rows.ensures.attempts

pub returns-in-End-clause-attempts : goal.returns-in-End-clause-attempts
returns-in-End-clause-attempts g c = λ isnt.
    subst (λ p. Attempts g.D.Disk (Tells (PreparedEntry c.args.work p (g.K.Clock.last c.commit_end.new.clock)) c.commit_end.result) c.args.engine.now c.commit_end.new.self (turn_outcome c.commit_end.result)) (sym c.in-End.is)
    c.commit_end.ensures.attempts
