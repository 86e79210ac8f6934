use Rattle.std.proofs.Common.{◌≡◌, ◌∙◌, sym, subst, true}
use Rattle.bl_outside.specs.Texts.{IsShortText}
use Rattle.bl_files.specs.Sources.{is_kept_source}
use Rattle.bl_files.proofs.KeptSources.{kept_is_kept, kept_is_short}
use Rattle.bl_files.proofs.source.kept_source.Goals as goal

pub returns-in_ok-with_scheme-in-Some-clause-kept : goal.returns-in_ok-with_scheme-in-Some-clause-kept
returns-in_ok-with_scheme-in-Some-clause-kept c =
    subst (λ l. is_kept_source l ≡ true) (sym c.in_ok-with_scheme-in-Some.ensures) (kept_is_kept c.args.source.now c.in-Some.path (sym c.in_ok-path.ensures.path ∙ c.in-Some.is))

pub returns-in_ok-with_scheme-in-Some-clause-text : goal.returns-in_ok-with_scheme-in-Some-clause-text
returns-in_ok-with_scheme-in-Some-clause-text c =
    subst IsShortText (sym c.in_ok-with_scheme-in-Some.ensures) (kept_is_short c.args.source.now c.in-Some.path (sym c.in_ok-path.ensures.path ∙ c.in-Some.is))
