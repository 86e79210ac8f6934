use Rattle.std.proofs.Common.{map}
use Rattle.std.specs.String.{string_bytes}
use Rattle.bl_cli.specs.ScriptRuns.{input_of}
use Rattle.bl_cli.proofs.Reported.{has_reported, run_bad, run_begun, run_complete, run_done, run_fits, run_full, run_nothing, run_quiet, run_script, run_unopened, run_usage, run_used}
use Rattle.bl_cli.proofs.top.run.Goals as goal

pub returns-clause-done : goal.returns-clause-done
returns-clause-done g c =
    run_done g.D.Disk (g.F.Folder.files c.args.folder.now) c.args.salt (map string_bytes c.args.words.now) (input_of (g.S.Source.left c.args.input.now) (g.S.Source.faults c.args.input.now) (g.S.Source.faults c.answer-status.new.input) (g.F.Folder.faults c.args.folder.now)) c.args.disks c.answer-status.result.1 (g.O.Sink.written c.args.out.now) (g.O.Sink.written c.answer-status.new.out) (g.O.Sink.faults c.args.out.now) (g.O.Sink.faults c.answer-status.new.out) c.answer-status.result.0 c.report.result
    (g.E.Sink.written c.args.err.now) (g.E.Sink.written c.report.new.err) (g.E.Sink.faults c.args.err.now) (g.E.Sink.faults c.report.new.err) c.answer-status.ensures.answers c.report.ensures

pub returns-clause-begun : goal.returns-clause-begun
returns-clause-begun g c =
    run_begun g.D.Disk (g.F.Folder.files c.args.folder.now) c.args.salt (map string_bytes c.args.words.now) (input_of (g.S.Source.left c.args.input.now) (g.S.Source.faults c.args.input.now) (g.S.Source.faults c.answer-status.new.input) (g.F.Folder.faults c.args.folder.now)) c.args.disks c.answer-status.result.1 (g.O.Sink.written c.args.out.now) (g.O.Sink.written c.answer-status.new.out) (g.O.Sink.faults c.args.out.now) (g.O.Sink.faults c.answer-status.new.out) c.answer-status.result.0 c.report.result
    (g.E.Sink.written c.args.err.now) (g.E.Sink.written c.report.new.err) (g.E.Sink.faults c.args.err.now) (g.E.Sink.faults c.report.new.err) c.answer-status.ensures.answers c.report.ensures

pub returns-clause-nothing : goal.returns-clause-nothing
returns-clause-nothing g c =
    run_nothing g.D.Disk (g.F.Folder.files c.args.folder.now) c.args.salt (map string_bytes c.args.words.now) (input_of (g.S.Source.left c.args.input.now) (g.S.Source.faults c.args.input.now) (g.S.Source.faults c.answer-status.new.input) (g.F.Folder.faults c.args.folder.now)) c.args.disks c.answer-status.result.1 (g.O.Sink.written c.args.out.now) (g.O.Sink.written c.answer-status.new.out) (g.O.Sink.faults c.args.out.now) (g.O.Sink.faults c.answer-status.new.out) c.answer-status.result.0 c.report.result
    (g.E.Sink.written c.args.err.now) (g.E.Sink.written c.report.new.err) (g.E.Sink.faults c.args.err.now) (g.E.Sink.faults c.report.new.err) c.answer-status.ensures.answers c.report.ensures

pub returns-clause-fits : goal.returns-clause-fits
returns-clause-fits g c =
    run_fits g.D.Disk (g.F.Folder.files c.args.folder.now) c.args.salt (map string_bytes c.args.words.now) (input_of (g.S.Source.left c.args.input.now) (g.S.Source.faults c.args.input.now) (g.S.Source.faults c.answer-status.new.input) (g.F.Folder.faults c.args.folder.now)) c.args.disks c.answer-status.result.1 (g.O.Sink.written c.args.out.now) (g.O.Sink.written c.answer-status.new.out) (g.O.Sink.faults c.args.out.now) (g.O.Sink.faults c.answer-status.new.out) c.answer-status.result.0 c.report.result
    (g.E.Sink.written c.args.err.now) (g.E.Sink.written c.report.new.err) (g.E.Sink.faults c.args.err.now) (g.E.Sink.faults c.report.new.err) c.answer-status.ensures.answers c.report.ensures

pub returns-clause-unopened : goal.returns-clause-unopened
returns-clause-unopened g c =
    run_unopened g.D.Disk (g.F.Folder.files c.args.folder.now) c.args.salt (map string_bytes c.args.words.now) (input_of (g.S.Source.left c.args.input.now) (g.S.Source.faults c.args.input.now) (g.S.Source.faults c.answer-status.new.input) (g.F.Folder.faults c.args.folder.now)) c.args.disks c.answer-status.result.1 (g.O.Sink.written c.args.out.now) (g.O.Sink.written c.answer-status.new.out) (g.O.Sink.faults c.args.out.now) (g.O.Sink.faults c.answer-status.new.out) c.answer-status.result.0 c.report.result
    (g.E.Sink.written c.args.err.now) (g.E.Sink.written c.report.new.err) (g.E.Sink.faults c.args.err.now) (g.E.Sink.faults c.report.new.err) c.answer-status.ensures.answers c.report.ensures

pub returns-clause-usage : goal.returns-clause-usage
returns-clause-usage g c =
    run_usage g.D.Disk (g.F.Folder.files c.args.folder.now) c.args.salt (map string_bytes c.args.words.now) (input_of (g.S.Source.left c.args.input.now) (g.S.Source.faults c.args.input.now) (g.S.Source.faults c.answer-status.new.input) (g.F.Folder.faults c.args.folder.now)) c.args.disks c.answer-status.result.1 (g.O.Sink.written c.args.out.now) (g.O.Sink.written c.answer-status.new.out) (g.O.Sink.faults c.args.out.now) (g.O.Sink.faults c.answer-status.new.out) c.answer-status.result.0 c.report.result
    (g.E.Sink.written c.args.err.now) (g.E.Sink.written c.report.new.err) (g.E.Sink.faults c.args.err.now) (g.E.Sink.faults c.report.new.err) c.answer-status.ensures.answers c.report.ensures

pub returns-clause-used_up : goal.returns-clause-used_up
returns-clause-used_up g c =
    run_used g.D.Disk (g.F.Folder.files c.args.folder.now) c.args.salt (map string_bytes c.args.words.now) (input_of (g.S.Source.left c.args.input.now) (g.S.Source.faults c.args.input.now) (g.S.Source.faults c.answer-status.new.input) (g.F.Folder.faults c.args.folder.now)) c.args.disks c.answer-status.result.1 (g.O.Sink.written c.args.out.now) (g.O.Sink.written c.answer-status.new.out) (g.O.Sink.faults c.args.out.now) (g.O.Sink.faults c.answer-status.new.out) c.answer-status.result.0 c.report.result
    (g.E.Sink.written c.args.err.now) (g.E.Sink.written c.report.new.err) (g.E.Sink.faults c.args.err.now) (g.E.Sink.faults c.report.new.err) c.answer-status.ensures.answers c.report.ensures

pub returns-clause-full : goal.returns-clause-full
returns-clause-full g c =
    run_full g.D.Disk (g.F.Folder.files c.args.folder.now) c.args.salt (map string_bytes c.args.words.now) (input_of (g.S.Source.left c.args.input.now) (g.S.Source.faults c.args.input.now) (g.S.Source.faults c.answer-status.new.input) (g.F.Folder.faults c.args.folder.now)) c.args.disks c.answer-status.result.1 (g.O.Sink.written c.args.out.now) (g.O.Sink.written c.answer-status.new.out) (g.O.Sink.faults c.args.out.now) (g.O.Sink.faults c.answer-status.new.out) c.answer-status.result.0 c.report.result
    (g.E.Sink.written c.args.err.now) (g.E.Sink.written c.report.new.err) (g.E.Sink.faults c.args.err.now) (g.E.Sink.faults c.report.new.err) c.answer-status.ensures.answers c.report.ensures

pub returns-clause-complete : goal.returns-clause-complete
returns-clause-complete g c =
    run_complete g.D.Disk (g.F.Folder.files c.args.folder.now) c.args.salt (map string_bytes c.args.words.now) (input_of (g.S.Source.left c.args.input.now) (g.S.Source.faults c.args.input.now) (g.S.Source.faults c.answer-status.new.input) (g.F.Folder.faults c.args.folder.now)) c.args.disks c.answer-status.result.1 (g.O.Sink.written c.args.out.now) (g.O.Sink.written c.answer-status.new.out) (g.O.Sink.faults c.args.out.now) (g.O.Sink.faults c.answer-status.new.out) c.answer-status.result.0 c.report.result
    (g.E.Sink.written c.args.err.now) (g.E.Sink.written c.report.new.err) (g.E.Sink.faults c.args.err.now) (g.E.Sink.faults c.report.new.err) c.answer-status.ensures.answers c.report.ensures c.left_files_are_never_bad.ensures (g.met.D.Disk.seen_is_image c.args.disks.journal)

pub returns-clause-line : goal.returns-clause-line
returns-clause-line g c =
    has_reported (g.E.Sink.written c.args.err.now) (g.E.Sink.written c.report.new.err) (g.E.Sink.faults c.args.err.now) (g.E.Sink.faults c.report.new.err) c.answer-status.result.0 c.report.result c.report.ensures

pub returns-clause-quiet : goal.returns-clause-quiet
returns-clause-quiet g c =
    run_quiet g.D.Disk (g.F.Folder.files c.args.folder.now) c.args.salt (map string_bytes c.args.words.now) (input_of (g.S.Source.left c.args.input.now) (g.S.Source.faults c.args.input.now) (g.S.Source.faults c.answer-status.new.input) (g.F.Folder.faults c.args.folder.now)) c.args.disks c.answer-status.result.1 (g.O.Sink.written c.args.out.now) (g.O.Sink.written c.answer-status.new.out) (g.O.Sink.faults c.args.out.now) (g.O.Sink.faults c.answer-status.new.out) c.answer-status.result.0 c.report.result
    (g.E.Sink.written c.args.err.now) (g.E.Sink.written c.report.new.err) (g.E.Sink.faults c.args.err.now) (g.E.Sink.faults c.report.new.err) c.answer-status.ensures.answers c.report.ensures

pub returns-clause-script : goal.returns-clause-script
returns-clause-script g c =
    run_script g.D.Disk (g.F.Folder.files c.args.folder.now) c.args.salt (map string_bytes c.args.words.now) (input_of (g.S.Source.left c.args.input.now) (g.S.Source.faults c.args.input.now) (g.S.Source.faults c.answer-status.new.input) (g.F.Folder.faults c.args.folder.now)) c.args.disks c.answer-status.result.1 (g.O.Sink.written c.args.out.now) (g.O.Sink.written c.answer-status.new.out) (g.O.Sink.faults c.args.out.now) (g.O.Sink.faults c.answer-status.new.out) c.answer-status.result.0 c.report.result
    (g.E.Sink.written c.args.err.now) (g.E.Sink.written c.report.new.err) (g.E.Sink.faults c.args.err.now) (g.E.Sink.faults c.report.new.err) c.answer-status.ensures.answers c.report.ensures

pub returns-clause-bad_store : goal.returns-clause-bad_store
returns-clause-bad_store g c =
    run_bad g.D.Disk (g.F.Folder.files c.args.folder.now) c.args.salt (map string_bytes c.args.words.now) (input_of (g.S.Source.left c.args.input.now) (g.S.Source.faults c.args.input.now) (g.S.Source.faults c.answer-status.new.input) (g.F.Folder.faults c.args.folder.now)) c.args.disks c.answer-status.result.1 (g.O.Sink.written c.args.out.now) (g.O.Sink.written c.answer-status.new.out) (g.O.Sink.faults c.args.out.now) (g.O.Sink.faults c.answer-status.new.out) c.answer-status.result.0 c.report.result
    (g.E.Sink.written c.args.err.now) (g.E.Sink.written c.report.new.err) (g.E.Sink.faults c.args.err.now) (g.E.Sink.faults c.report.new.err) c.answer-status.ensures.answers c.report.ensures
