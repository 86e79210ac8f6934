use Rattle.std.proofs.Common.{inr, map, subst}
use Rattle.std.specs.Prelude.{MatchOption}
use Rattle.std.specs.String.{string_bytes}
use Rattle.bl_cli.specs.declared.command.Command.TheVariants.{Script}
use Rattle.bl_cli.specs.Commands.{AskForNothing, AsksFor}
use Rattle.bl_cli.specs.ScriptRuns.{input_of}
use Rattle.bl_cli.proofs.AnsweredWords.{answers_help, answers_load, answers_script, answers_show, answers_usage}
use Rattle.bl_cli.proofs.top.answer.Goals as goal

pub returns-in-Ok-Some-Load-clause-answers : goal.returns-in-Ok-Some-Load-clause-answers
returns-in-Ok-Some-Load-clause-answers g c =
    answers_load g.D.Disk (g.F.Folder.files c.args.folder.now) c.args.salt (map string_bytes c.args.words.now) (input_of (g.S.Source.left c.args.input.now) (g.S.Source.faults c.args.input.now) (g.S.Source.faults c.args.input.now) (g.F.Folder.faults c.args.folder.now)) c.in-Ok-Some-Load.asked c.args.disks c.load.result.1
    (g.O.Sink.written c.args.out.now) (g.O.Sink.written c.load.new.out) (g.O.Sink.faults c.args.out.now) (g.O.Sink.faults c.load.new.out) c.load.result.0
    (subst (AsksFor (map string_bytes c.args.words.now)) c.in-Ok-Some-Load.field-0-0-is
    (subst (λ asked. MatchOption asked (AskForNothing (map string_bytes c.args.words.now)) (AsksFor (map string_bytes c.args.words.now))) c.in-Ok-Some-Load.field-0-is c.in-Ok-Some-Load.ensures.asked)) c.load.ensures.runs

pub returns-in-Ok-Some-Script-clause-answers : goal.returns-in-Ok-Some-Script-clause-answers
returns-in-Ok-Some-Script-clause-answers g c =
    answers_script g.D.Disk (g.F.Folder.files c.args.folder.now) c.args.salt (map string_bytes c.args.words.now) (input_of (g.S.Source.left c.args.input.now) (g.S.Source.faults c.args.input.now) (g.S.Source.faults c.script.new.input) (g.F.Folder.faults c.args.folder.now)) c.in-Ok-Some-Script.turns c.args.disks c.script.result.1
    (g.O.Sink.written c.args.out.now) (g.O.Sink.written c.script.new.out) (g.O.Sink.faults c.args.out.now) (g.O.Sink.faults c.script.new.out) c.script.result.0
    (subst (AsksFor (map string_bytes c.args.words.now)) c.in-Ok-Some-Script.field-0-0-is
    (subst (λ asked. MatchOption asked (AskForNothing (map string_bytes c.args.words.now)) (AsksFor (map string_bytes c.args.words.now))) c.in-Ok-Some-Script.field-0-is c.in-Ok-Some-Script.ensures.asked)) c.script.ensures.runs

pub returns-in-Ok-Some-Script-clause-input : goal.returns-in-Ok-Some-Script-clause-input
returns-in-Ok-Some-Script-clause-input g c =
    inr (
      Script c.in-Ok-Some-Script.turns,
      subst (AsksFor (map string_bytes c.args.words.now)) c.in-Ok-Some-Script.field-0-0-is
          (subst (λ asked. MatchOption asked (AskForNothing (map string_bytes c.args.words.now)) (AsksFor (map string_bytes c.args.words.now))) c.in-Ok-Some-Script.field-0-is c.in-Ok-Some-Script.ensures.asked),
      tt,
    )

pub returns-in-Ok-Some-Show-clause-answers : goal.returns-in-Ok-Some-Show-clause-answers
returns-in-Ok-Some-Show-clause-answers g c =
    answers_show g.D.Disk (g.F.Folder.files c.args.folder.now) c.args.salt (map string_bytes c.args.words.now) (input_of (g.S.Source.left c.args.input.now) (g.S.Source.faults c.args.input.now) (g.S.Source.faults c.args.input.now) (g.F.Folder.faults c.args.folder.now)) c.in-Ok-Some-Show.look c.args.disks c.show.result.1
    (g.O.Sink.written c.args.out.now) (g.O.Sink.written c.show.new.out) (g.O.Sink.faults c.args.out.now) (g.O.Sink.faults c.show.new.out) c.show.result.0
    (subst (AsksFor (map string_bytes c.args.words.now)) c.in-Ok-Some-Show.field-0-0-is
    (subst (λ asked. MatchOption asked (AskForNothing (map string_bytes c.args.words.now)) (AsksFor (map string_bytes c.args.words.now))) c.in-Ok-Some-Show.field-0-is c.in-Ok-Some-Show.ensures.asked)) c.show.ensures

pub returns-in-Ok-Some-Help-clause-answers : goal.returns-in-Ok-Some-Help-clause-answers
returns-in-Ok-Some-Help-clause-answers g c =
    answers_help g.D.Disk (g.F.Folder.files c.args.folder.now) c.args.salt (map string_bytes c.args.words.now) (input_of (g.S.Source.left c.args.input.now) (g.S.Source.faults c.args.input.now) (g.S.Source.faults c.args.input.now) (g.F.Folder.faults c.args.folder.now)) g.met.D.Disk.only_now c.args.disks
    (g.O.Sink.written c.args.out.now) (g.O.Sink.faults c.args.out.now) (g.O.Sink.written c.print.new.out) (g.O.Sink.faults c.print.new.out) c.print.result
    (subst (AsksFor (map string_bytes c.args.words.now)) c.in-Ok-Some-Help.field-0-0-is
    (subst (λ asked. MatchOption asked (AskForNothing (map string_bytes c.args.words.now)) (AsksFor (map string_bytes c.args.words.now))) c.in-Ok-Some-Help.field-0-is c.in-Ok-Some-Help.ensures.asked)) c.print.ensures

pub returns-in-Ok-None-clause-answers : goal.returns-in-Ok-None-clause-answers
returns-in-Ok-None-clause-answers g c =
    answers_usage g.D.Disk (g.F.Folder.files c.args.folder.now) c.args.salt (map string_bytes c.args.words.now) (input_of (g.S.Source.left c.args.input.now) (g.S.Source.faults c.args.input.now) (g.S.Source.faults c.args.input.now) (g.F.Folder.faults c.args.folder.now)) g.met.D.Disk.only_now c.args.disks
    (g.O.Sink.written c.args.out.now) (g.O.Sink.faults c.args.out.now)
    (subst (λ asked. MatchOption asked (AskForNothing (map string_bytes c.args.words.now)) (AsksFor (map string_bytes c.args.words.now))) c.in-Ok-None.field-0-is c.in-Ok-None.ensures.asked)
