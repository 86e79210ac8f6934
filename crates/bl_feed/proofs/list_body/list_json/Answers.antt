use Rattle.std.proofs.Common.{◌≡◌, ◌∙◌, false, ap, sym, subst}
use Rattle.serde_json.specs.Data.{Data}
use Rattle.serde_json.specs.Written.{compact_text, has_float}
use Rattle.bl_feed.proofs.NoFloats.{list_no_float}
use Rattle.bl_feed.proofs.list_body.list_json.Goals as goal

pub returns : goal.returns
returns c =
    c.from_vec.ensures ∙ c.in_ok-to_vec.ensures.text (subst (λ (d : Data). has_float d ≡ false) (sym c.in_ok-value.ensures) (list_no_float c.args.ids.now))
    ∙ ap compact_text c.in_ok-value.ensures
