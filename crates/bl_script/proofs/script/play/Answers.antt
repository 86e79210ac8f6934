use Rattle.std.proofs.Common.{Ok, Err, sym, subst}
use Rattle.std.proofs.lemmas.Result.{err_from_is_err_and}
use Rattle.bl_script.specs.declared.script_end.ScriptEnd.TheVariants.{Drained, Torn, TooLong}
use Rattle.bl_script.specs.PlayedRounds.{place_of}
use Rattle.bl_script.specs.Scripts.{Plays, RunsScript}
use Rattle.bl_script.proofs.Ahead.{ahead_is}
use Rattle.bl_script.proofs.PlayedRounds.{drained_is, not_long, not_torn, plays_drained, plays_fault, plays_too_long, plays_torn, step_is}
use Rattle.bl_script.proofs.WholeScripts.{last_drain, whole}
use Rattle.bl_script.proofs.script.play.Goals as goal

pub returns-in_err-step-clause-runs : goal.returns-in_err-step-clause-runs
returns-in_err-step-clause-runs g c =
    let p = err_from_is_err_and c.from_residual.result c.from_residual.ensures.1 in
    subst (λ r. RunsScript g.D.Disk c.args.desk.now.salt c.args.most (g.F.Folder.files c.args.folder.now) (g.F.Folder.faults c.args.folder.now) (g.S.Source.left c.args.input.now) c.args.desk.now.engine c.play_rounds.new.desk.engine (g.O.Sink.written c.args.out.now) (g.O.Sink.written c.play_rounds.new.out) r) (sym p.1)
    (subst (λ w. RunsScript g.D.Disk c.args.desk.now.salt c.args.most (g.F.Folder.files c.args.folder.now) (g.F.Folder.faults c.args.folder.now) (g.S.Source.left c.args.input.now) c.args.desk.now.engine c.play_rounds.new.desk.engine (g.O.Sink.written c.args.out.now) (g.O.Sink.written c.play_rounds.new.out) (Err w)) (sym p.2)
    (whole g.D.Disk g.met.D.Disk.only_now c.left_files_are_never_bad.ensures g.met.D.Disk.seen_is_image c.args.desk.now.salt c.args.most (g.F.Folder.files c.args.folder.now) (g.F.Folder.faults c.args.folder.now) (g.S.Source.left c.args.input.now) c.args.desk.now.engine c.play_rounds.new.desk.engine (g.O.Sink.written c.args.out.now) (g.O.Sink.written c.play_rounds.new.out) (Err c.in_err-step.field-0.0)
    (plays_fault g.D.Disk c.args.desk.now.salt c.args.most (g.F.Folder.files c.args.folder.now) (g.S.Source.left c.args.input.now)
    (place_of c.args.desk.now.engine (g.F.Folder.faults c.args.folder.now) c.args.buffer.now (g.S.Source.left c.args.input.now) (g.O.Sink.written c.args.out.now))
    (place_of c.play_rounds.new.desk.engine (g.F.Folder.faults c.play_rounds.new.folder) c.play_rounds.new.buffer (g.S.Source.left c.play_rounds.new.input) (g.O.Sink.written c.play_rounds.new.out))
    (ahead_is c.args.buffer.now c.requires.empty (g.S.Source.left c.args.input.now))
    c.in_err-step.field-0.0 c.in_err-step.ensures.plays)))

pub returns-in-Torn-clause-runs : goal.returns-in-Torn-clause-runs
returns-in-Torn-clause-runs g c =
    whole g.D.Disk g.met.D.Disk.only_now c.left_files_are_never_bad.ensures g.met.D.Disk.seen_is_image c.args.desk.now.salt c.args.most (g.F.Folder.files c.args.folder.now) (g.F.Folder.faults c.args.folder.now) (g.S.Source.left c.args.input.now) c.args.desk.now.engine c.play_rounds.new.desk.engine (g.O.Sink.written c.args.out.now) (g.O.Sink.written c.play_rounds.new.out) (Ok Torn)
    (plays_torn g.D.Disk c.args.desk.now.salt c.args.most (g.F.Folder.files c.args.folder.now) (g.S.Source.left c.args.input.now)
    (place_of c.args.desk.now.engine (g.F.Folder.faults c.args.folder.now) c.args.buffer.now (g.S.Source.left c.args.input.now) (g.O.Sink.written c.args.out.now))
    (place_of c.play_rounds.new.desk.engine (g.F.Folder.faults c.play_rounds.new.folder) c.play_rounds.new.buffer (g.S.Source.left c.play_rounds.new.input) (g.O.Sink.written c.play_rounds.new.out))
    (ahead_is c.args.buffer.now c.requires.empty (g.S.Source.left c.args.input.now))
    c.in_ok-step.first (step_is g.D.Disk c.args.desk.now.salt c.args.most (g.F.Folder.files c.args.folder.now) (place_of c.args.desk.now.engine (g.F.Folder.faults c.args.folder.now) c.args.buffer.now (g.S.Source.left c.args.input.now) (g.O.Sink.written c.args.out.now)) (place_of c.play_rounds.new.desk.engine (g.F.Folder.faults c.play_rounds.new.folder) c.play_rounds.new.buffer (g.S.Source.left c.play_rounds.new.input) (g.O.Sink.written c.play_rounds.new.out)) c.in_ok-step.step c.in_ok-step.first _ c.in-Torn.is c.in_ok-step.ensures.plays))

pub returns-in-TooLong-clause-runs : goal.returns-in-TooLong-clause-runs
returns-in-TooLong-clause-runs g c =
    whole g.D.Disk g.met.D.Disk.only_now c.left_files_are_never_bad.ensures g.met.D.Disk.seen_is_image c.args.desk.now.salt c.args.most (g.F.Folder.files c.args.folder.now) (g.F.Folder.faults c.args.folder.now) (g.S.Source.left c.args.input.now) c.args.desk.now.engine c.play_rounds.new.desk.engine (g.O.Sink.written c.args.out.now) (g.O.Sink.written c.play_rounds.new.out) (Ok TooLong)
    (plays_too_long g.D.Disk c.args.desk.now.salt c.args.most (g.F.Folder.files c.args.folder.now) (g.S.Source.left c.args.input.now)
    (place_of c.args.desk.now.engine (g.F.Folder.faults c.args.folder.now) c.args.buffer.now (g.S.Source.left c.args.input.now) (g.O.Sink.written c.args.out.now))
    (place_of c.play_rounds.new.desk.engine (g.F.Folder.faults c.play_rounds.new.folder) c.play_rounds.new.buffer (g.S.Source.left c.play_rounds.new.input) (g.O.Sink.written c.play_rounds.new.out))
    (ahead_is c.args.buffer.now c.requires.empty (g.S.Source.left c.args.input.now))
    c.in_ok-step.first (step_is g.D.Disk c.args.desk.now.salt c.args.most (g.F.Folder.files c.args.folder.now) (place_of c.args.desk.now.engine (g.F.Folder.faults c.args.folder.now) c.args.buffer.now (g.S.Source.left c.args.input.now) (g.O.Sink.written c.args.out.now)) (place_of c.play_rounds.new.desk.engine (g.F.Folder.faults c.play_rounds.new.folder) c.play_rounds.new.buffer (g.S.Source.left c.play_rounds.new.input) (g.O.Sink.written c.play_rounds.new.out)) c.in_ok-step.step c.in_ok-step.first _ c.in-TooLong.is c.in_ok-step.ensures.plays))

pub returns-in-Answered-clause-runs : goal.returns-in-Answered-clause-runs
returns-in-Answered-clause-runs g c =
    let drained = last_drain g.D.Disk (g.F.Folder.files c.args.folder.now) (g.F.Folder.files c.play_rounds.new.folder) c.in_ok-step.ensures.files c.play_rounds.new.desk.engine c.drain-drained.new.engine c.drain-drained.result
    c.drain-drained.ensures.idle (λ told are state stays. c.drain-drained.ensures.made told are (c.in_ok-step.ensures.fresh told are) state stays) c.drain-drained.ensures.anyhow
    (λ refused told are state stays. c.drain-drained.ensures.full told are (c.in_ok-step.ensures.fresh told are) state stays refused) c.drain-drained.ensures.handles in
    whole g.D.Disk g.met.D.Disk.only_now c.left_files_are_never_bad.ensures g.met.D.Disk.seen_is_image c.args.desk.now.salt c.args.most (g.F.Folder.files c.args.folder.now) (g.F.Folder.faults c.args.folder.now) (g.S.Source.left c.args.input.now) c.args.desk.now.engine c.drain-drained.new.engine (g.O.Sink.written c.args.out.now) (g.O.Sink.written c.play_rounds.new.out) _
    (subst (λ o. Plays g.D.Disk c.args.desk.now.salt c.args.most (g.F.Folder.files c.args.folder.now) (g.F.Folder.faults c.args.folder.now) (g.S.Source.left c.args.input.now) c.args.desk.now.engine c.drain-drained.new.engine (g.O.Sink.written c.args.out.now) (g.O.Sink.written c.play_rounds.new.out) (Ok (Drained o))) (sym (drained_is c.in_ok-step.first _ _ _ c.or.ensures c.err.ensures.value))
    (plays_drained g.D.Disk c.args.desk.now.salt c.args.most (g.F.Folder.files c.args.folder.now) (g.S.Source.left c.args.input.now)
    (place_of c.args.desk.now.engine (g.F.Folder.faults c.args.folder.now) c.args.buffer.now (g.S.Source.left c.args.input.now) (g.O.Sink.written c.args.out.now))
    (place_of c.play_rounds.new.desk.engine (g.F.Folder.faults c.play_rounds.new.folder) c.play_rounds.new.buffer (g.S.Source.left c.play_rounds.new.input) (g.O.Sink.written c.play_rounds.new.out))
    (ahead_is c.args.buffer.now c.requires.empty (g.S.Source.left c.args.input.now))
    c.drain-drained.new.engine c.drain-drained.result drained c.in_ok-step.step c.in_ok-step.first (not_torn c.in_ok-step.step c.in-Answered.is) (not_long c.in_ok-step.step c.in-Answered.is) c.in_ok-step.ensures.plays))
