use Rattle.std.proofs.Common.{map, subst, sym}
use Rattle.std.specs.Prelude.{MatchOption}
use Rattle.std.specs.String.{string_bytes}
use Rattle.bl_cli.specs.Words.{AskForNoLoad, AsksForLoad}
use Rattle.bl_cli.proofs.ReadCommands.{asks_nothing, look_asked, script_asked}
use Rattle.bl_cli.proofs.commands.read_words.Goals as goal

pub returns-in-Some-clause-asked : goal.returns-in-Some-clause-asked
returns-in-Some-clause-asked c = look_asked (map string_bytes c.args.words.now) c.in-Some.look (sym c.in-Some.ensures.value)

pub returns-in-None-clause-asked : goal.returns-in-None-clause-asked
returns-in-None-clause-asked c =
    asks_nothing (map string_bytes c.args.words.now) (sym c.if-is_help.ensures) (sym c.in_default.ensures.value) (sym c.in_default-script_in.ensures)
    (subst (λ asked. MatchOption asked (AskForNoLoad (map string_bytes c.args.words.now)) (AsksForLoad (map string_bytes c.args.words.now))) c.in-None.is c.in_ok-load.ensures.asked)

pub returns-in-Some-script_in-clause-asked : goal.returns-in-Some-script_in-clause-asked
returns-in-Some-script_in-clause-asked c = script_asked (map string_bytes c.args.words.now) c.in-Some-script_in.turns (sym c.in-Some-script_in.ensures)
