use Rattle.std.proofs.Common.{◌∙◌}
use Rattle.bl_feed.proofs.PageTexts.{records_more}
use Rattle.bl_feed.proofs.page_body.push_records.Goals as goal

pub loop-event-preserved : goal.loop-event-preserved
loop-event-preserved c =
    records_more c.args.events.now c.loop-event.event-index c.event-item.result c.loop-event.later c.loop-event.text c.push_comma.new.text c.as_slice.result.now c.extend.new.self c.loop-event-test.true c.event-item.is
    c.in_ok-push_comma.ensures (c.as_slice.ensures ∙ c.in_ok-record.ensures) c.in_ok-extend.ensures.ok
    ∙ c.loop-event.invariant
