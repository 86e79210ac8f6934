use Rattle.std.proofs.Common.{◌∙◌, ap}
use Rattle.serde_json.specs.Data.{string}
use Rattle.uuid.specs.Text.{hyphenated_text, lower}
use Rattle.bl_feed.proofs.load_id.id_json.Goals as goal

pub returns : goal.returns
returns c = c.in_ok-try_from_str.ensures ∙ ap string (c.encode_lower-text.ensures.text ∙ ap (hyphenated_text lower) (c.hyphenated.ensures ∙ c.from_u128.ensures))
