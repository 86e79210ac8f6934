use Rattle.std.proofs.Common.{◌∙◌, Err, sym, subst, arith}
use Rattle.std.proofs.lemmas.Result.{err_from_is_err_and}
use Rattle.bl_script.specs.PlayedRounds.{PlaysRounds, place_of}
use Rattle.bl_script.proofs.PlayedRounds.{fails_rounds, goes_on, last_round, not_answered}
use Rattle.bl_script.proofs.rounds.play_rounds.Goals as goal

pub returns-in_err-step-clause-plays : goal.returns-in_err-step-clause-plays
returns-in_err-step-clause-plays g c =
    let was = c.loop-step.invariant in
    let p = err_from_is_err_and c.from_residual.result c.from_residual.ensures.1 in
    subst (λ r. PlaysRounds g.D.Disk c.args.desk.now.salt c.args.most (g.F.Folder.files c.args.folder.now) (place_of c.args.desk.now.engine (g.F.Folder.faults c.args.folder.now) c.args.buffer.now (g.S.Source.left c.args.input.now) (g.O.Sink.written c.args.out.now)) (place_of c.play_round.new.desk.engine (g.F.Folder.faults c.play_round.new.folder) c.play_round.new.buffer (g.S.Source.left c.play_round.new.input) (g.O.Sink.written c.play_round.new.out)) r) (sym p.1)
    (subst (λ w. PlaysRounds g.D.Disk c.args.desk.now.salt c.args.most (g.F.Folder.files c.args.folder.now) (place_of c.args.desk.now.engine (g.F.Folder.faults c.args.folder.now) c.args.buffer.now (g.S.Source.left c.args.input.now) (g.O.Sink.written c.args.out.now)) (place_of c.play_round.new.desk.engine (g.F.Folder.faults c.play_round.new.folder) c.play_round.new.buffer (g.S.Source.left c.play_round.new.input) (g.O.Sink.written c.play_round.new.out)) (Err w)) (sym p.2)
    (fails_rounds g.D.Disk c.args.desk.now.salt c.args.most (g.F.Folder.files c.args.folder.now) c.loop-step.desk.salt (g.F.Folder.files c.loop-step.folder) was.salt was.files
    (place_of c.args.desk.now.engine (g.F.Folder.faults c.args.folder.now) c.args.buffer.now (g.S.Source.left c.args.input.now) (g.O.Sink.written c.args.out.now))
    (place_of c.loop-step.desk.engine (g.F.Folder.faults c.loop-step.folder) c.loop-step.buffer (g.S.Source.left c.loop-step.input) (g.O.Sink.written c.loop-step.out))
    (place_of c.play_round.new.desk.engine (g.F.Folder.faults c.play_round.new.folder) c.play_round.new.buffer (g.S.Source.left c.play_round.new.input) (g.O.Sink.written c.play_round.new.out))
    c.loop-step.first was.gone
    c.in_err-step.field-0.0 c.in_err-step.ensures.plays))

pub returns-in-Closed-clause-plays : goal.returns-in-Closed-clause-plays
returns-in-Closed-clause-plays g c =
    let was = c.loop-step.invariant in
    last_round g.D.Disk c.args.desk.now.salt c.args.most (g.F.Folder.files c.args.folder.now) c.loop-step.desk.salt (g.F.Folder.files c.loop-step.folder) was.salt was.files
    (place_of c.args.desk.now.engine (g.F.Folder.faults c.args.folder.now) c.args.buffer.now (g.S.Source.left c.args.input.now) (g.O.Sink.written c.args.out.now))
    (place_of c.loop-step.desk.engine (g.F.Folder.faults c.loop-step.folder) c.loop-step.buffer (g.S.Source.left c.loop-step.input) (g.O.Sink.written c.loop-step.out))
    (place_of c.play_round.new.desk.engine (g.F.Folder.faults c.play_round.new.folder) c.play_round.new.buffer (g.S.Source.left c.play_round.new.input) (g.O.Sink.written c.play_round.new.out))
    c.loop-step.first was.gone
    c.in_ok-step.refused c.in_ok-step.step (not_answered c.in_ok-step.step c.in-Closed.is) c.in_ok-step.ensures.plays c.or-first.result c.or-first.ensures

pub loop-step-preserved : goal.loop-step-preserved
loop-step-preserved g c =
    let was = c.loop-step.invariant in
    record {
      gone =
          goes_on g.D.Disk c.args.desk.now.salt c.args.most (g.F.Folder.files c.args.folder.now) c.loop-step.desk.salt (g.F.Folder.files c.loop-step.folder) was.salt was.files
          (place_of c.args.desk.now.engine (g.F.Folder.faults c.args.folder.now) c.args.buffer.now (g.S.Source.left c.args.input.now) (g.O.Sink.written c.args.out.now))
          (place_of c.loop-step.desk.engine (g.F.Folder.faults c.loop-step.folder) c.loop-step.buffer (g.S.Source.left c.loop-step.input) (g.O.Sink.written c.loop-step.out))
          (place_of c.play_round.new.desk.engine (g.F.Folder.faults c.play_round.new.folder) c.play_round.new.buffer (g.S.Source.left c.play_round.new.input) (g.O.Sink.written c.play_round.new.out))
          c.loop-step.first was.gone
          c.in_ok-step.refused c.in_ok-step.step c.in-Answered.is c.in_ok-step.ensures.plays c.or-first.result c.or-first.ensures;
      salt = c.in_ok-step.ensures.salt ∙ was.salt;
      within = c.in_ok-step.ensures.within;
      fresh = c.in_ok-step.ensures.fresh;
      files = c.in_ok-step.ensures.files ∙ was.files;
      later = omega (arith, was.later, c.in_ok-step.ensures.later);
      reads_on = omega (arith, was.reads_on, c.in_ok-step.ensures.reads_on);
      writes_on = omega (arith, was.writes_on, c.in_ok-step.ensures.writes_on);
    }
