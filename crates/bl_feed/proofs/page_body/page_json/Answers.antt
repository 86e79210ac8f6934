use Rattle.std.proofs.Common.{◌∙◌, ◌++◌, ap, arith, length}
use Rattle.bl_feed.specs.Bodies.{page_text}
use Rattle.bl_feed.specs.PagePieces.{page_front}
use Rattle.bl_feed.proofs.PageTexts.{page_made}
use Rattle.bl_feed.proofs.page_body.page_json.Goals as goal

pub returns : goal.returns
returns c =
    let last = c.index-events-events.result in
    page_made c.as_slice-events.result.now last c.push_front.new.text c.push_records.new.text c.push_end.new.text (omega (arith, c.requires.some, ap length c.as_slice-events.ensures)) c.index-events-events.is
    (c.in_ok-push_front.ensures ∙ ap (λ l. l ++ page_front last.commit last.op last.moment) c.new-text.ensures) c.in_ok-push_records.ensures c.in_ok-push_end.ensures
    ∙ ap page_text c.as_slice-events.ensures
