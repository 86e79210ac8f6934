use Rattle.std.proofs.Common.{◌≡◌, ◌∙◌, ℕ, List, ◌++◌, subst}
use Rattle.std.specs.Prelude.{OnOk}
use Rattle.bl_feed.proofs.PageTexts.{front_pieces}
use Rattle.bl_feed.proofs.page_body.push_front.Goals as goal

pub returns : goal.returns
returns c =
    let last = c.args.last.now in
    subst (λ (bytes : List ℕ). OnOk c.extend.result (c.extend.new.self ≡ c.args.text.now ++ bytes))
    (c.as_bytes.ensures.value ∙ c.in_ok-front.ensures.ok ∙ front_pieces last.commit last.op last.moment) c.extend.ensures.ok
