use Rattle.std.proofs.Common.{refl, sym, subst}
use Rattle.std.proofs.lemmas.Result.{err_from_is_err_and}
use Rattle.bl_script.specs.PlayedRounds.{FailsBy, PlaysRound, place_of}
use Rattle.bl_script.proofs.PlayedRounds.{not_played, played}
use Rattle.bl_script.proofs.rounds.play_round.Goals as goal

pub returns-in_err-step-clause-plays : goal.returns-in_err-step-clause-plays
returns-in_err-step-clause-plays g c =
    let p = err_from_is_err_and c.from_residual.result c.from_residual.ensures.1 in
    let old = place_of c.args.desk.now.engine (g.F.Folder.faults c.args.folder.now) c.args.buffer.now (g.S.Source.left c.args.input.now) (g.O.Sink.written c.args.out.now) in
    let new = place_of c.answer_next.new.desk.engine (g.F.Folder.faults c.args.folder.now) c.answer_next.new.buffer (g.S.Source.left c.answer_next.new.input) (g.O.Sink.written c.answer_next.new.out) in
    subst (λ r. PlaysRound g.D.Disk c.args.desk.now.salt c.args.most (g.F.Folder.files c.args.folder.now) old new r) (sym p.1)
    (subst (λ w. FailsBy g.D.Disk c.args.desk.now.salt old new w) (sym p.2) (c.in_err-step.ensures.answers (g.F.Folder.faults c.args.folder.now)))

pub returns-in-Answered-clause-plays : goal.returns-in-Answered-clause-plays
returns-in-Answered-clause-plays g c =
    played g.D.Disk c.args.desk.now.salt c.args.most (g.F.Folder.files c.args.folder.now)
    (place_of c.args.desk.now.engine (g.F.Folder.faults c.args.folder.now) c.args.buffer.now (g.S.Source.left c.args.input.now) (g.O.Sink.written c.args.out.now))
    (place_of c.answer_next.new.desk.engine (g.F.Folder.faults c.args.folder.now) c.answer_next.new.buffer (g.S.Source.left c.answer_next.new.input) (g.O.Sink.written c.answer_next.new.out))
    (place_of c.make_turns-refused.new.engine (g.F.Folder.faults c.make_turns-refused.new.folder) c.answer_next.new.buffer (g.S.Source.left c.answer_next.new.input) (g.O.Sink.written c.answer_next.new.out))
    refl refl c.make_turns-refused.result c.make_turns-refused.ensures.turns c.in_ok-step.step c.in-Answered.is (c.in_ok-step.ensures.answers (g.F.Folder.faults c.args.folder.now))

pub returns-in-Ended-clause-plays : goal.returns-in-Ended-clause-plays
returns-in-Ended-clause-plays g c =
    not_played g.D.Disk c.args.desk.now.salt c.args.most (g.F.Folder.files c.args.folder.now)
    (place_of c.args.desk.now.engine (g.F.Folder.faults c.args.folder.now) c.args.buffer.now (g.S.Source.left c.args.input.now) (g.O.Sink.written c.args.out.now))
    (place_of c.answer_next.new.desk.engine (g.F.Folder.faults c.args.folder.now) c.answer_next.new.buffer (g.S.Source.left c.answer_next.new.input) (g.O.Sink.written c.answer_next.new.out))
    (place_of c.answer_next.new.desk.engine (g.F.Folder.faults c.args.folder.now) c.answer_next.new.buffer (g.S.Source.left c.answer_next.new.input) (g.O.Sink.written c.answer_next.new.out))
    c.in_ok-step.step c.in-Ended.is (c.in_ok-step.ensures.answers (g.F.Folder.faults c.args.folder.now))
