use Rattle.std.proofs.Common.{ap, ◌∙◌}
use Rattle.uuid.specs.Text.{hyphenated_text, lower}
use Rattle.bl_cli.proofs.job_text.id_text.Goals as goal

pub returns : goal.returns
returns c =
    c.in_ok-copy_of.ensures ∙ c.as_bytes.ensures.value ∙ c.encode_lower-text.ensures.text
    ∙ ap (hyphenated_text lower) (c.hyphenated.ensures ∙ c.from_u128.ensures)
