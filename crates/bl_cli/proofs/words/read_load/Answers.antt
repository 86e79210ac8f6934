use Rattle.std.specs.Prelude.{codes}
use Rattle.std.proofs.Common.{map, None, Some, ◌∷◌, true, subst, sym, ap, ◌∙◌, ◌≡◌}
use Rattle.std.specs.String.{string_bytes}
use Rattle.bl_files.specs.Sources.{kept_source}
use Rattle.bl_cli.specs.Options.{Reads, is_word}
use Rattle.bl_cli.specs.Words.{AskForNoLoad, AsksForLoad}
use Rattle.bl_cli.proofs.Readings.{two_words}
use Rattle.bl_cli.proofs.GivenOptions.{asks, no_options}
use Rattle.bl_cli.proofs.words.read_load.Goals as goal

pub returns-in_default-read_options-clause-asked : goal.returns-in_default-read_options-clause-asked
returns-in_default-read_options-clause-asked c =
    subst AskForNoLoad (sym (two_words string_bytes c.args.words.now c.in-Some.rest.now c.in-Some-split.options.now c.in-Some.command.now c.in-Some-split.source.now c.in-Some.ensures c.in-Some-split.ensures))
    (no_options (string_bytes c.in-Some.command.now) (string_bytes c.in-Some-split.source.now) (map string_bytes c.in-Some-split.options.now)
    (subst (λ given. Reads (map string_bytes c.in-Some-split.options.now) given None) c.none.ensures c.in_default-read_options.ensures))

pub returns-in-Some-2-clause-asked : goal.returns-in-Some-2-clause-asked
returns-in-Some-2-clause-asked c =
    subst (λ them. AsksForLoad them c.asked_by.result)
    (sym (two_words string_bytes c.args.words.now c.in-Some.rest.now c.in-Some-split.options.now c.in-Some.command.now c.in-Some-split.source.now c.in-Some.ensures c.in-Some-split.ensures))
    (subst (λ load. AsksForLoad (string_bytes c.in-Some.command.now ∷ (string_bytes c.in-Some-split.source.now ∷ map string_bytes c.in-Some-split.options.now)) load) (sym c.asked_by.ensures)
    (asks (string_bytes c.in-Some-split.source.now) c.in-Some-2.source (map string_bytes c.in-Some-split.options.now) c.in-Some-read_options.options (string_bytes c.in-Some.command.now)
    (subst (λ w. is_word w (codes "load") ≡ true) c.as_str.ensures.value (sym c.if-not-is_word.ensures))
    (subst (λ given. Reads (map string_bytes c.in-Some-split.options.now) given (Some c.in-Some-read_options.options)) c.none.ensures c.in-Some-read_options.ensures)
    (sym c.in-Some-2.is ∙ c.in_ok-source.ensures.source ∙ ap kept_source c.as_bytes.ensures.value)))
