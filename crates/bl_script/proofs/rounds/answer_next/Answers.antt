use Rattle.std.proofs.Common.{refl}
use Rattle.bl_script.proofs.AnsweredNext.{step_keeps, stepped, uses_up}
use Rattle.bl_script.proofs.rounds.answer_next.Goals as goal

pub returns-clause-answers : goal.returns-clause-answers
returns-clause-answers g c = λ faults.
    stepped g.D.Disk c.args.desk.now.salt _ _ refl _ (λ desk. desk.engine) c.args.desk.now c.step_over.new.desk refl refl (λ request reply answers. (_, answers.1))
    (g.S.Source.left c.args.input.now) (g.S.Source.left c.step_over.new.source) c.args.buffer.now c.step_over.new.buffer refl refl c.step_over.result c.step_over.ensures.step c.step_over.ensures.within.limit

pub returns-clause-salt : goal.returns-clause-salt
returns-clause-salt g c =
    step_keeps _ (λ desk. desk.salt) (g.S.Source.left c.args.input.now) (g.S.Source.left c.step_over.new.source) c.args.buffer.now c.step_over.new.buffer c.args.desk.now c.step_over.new.desk
    (g.O.Sink.written c.args.out.now) (g.O.Sink.written c.step_over.new.sink) (λ request reply answers. answers.0) c.step_over.result c.step_over.ensures.step

pub returns-clause-uses : goal.returns-clause-uses
returns-clause-uses g c =
    uses_up _ (g.S.Source.left c.args.input.now) (g.S.Source.left c.step_over.new.source) c.args.buffer.now c.step_over.new.buffer c.args.desk.now c.step_over.new.desk (g.O.Sink.written c.args.out.now) (g.O.Sink.written c.step_over.new.sink) c.step_over.result c.step_over.ensures.step
