use Rattle.std.proofs.Common.{◌<◌, arith, ap, ◌∙◌, set, get_or, length}
use Rattle.std.proofs.lemmas.List.{get_or_default}
use Rattle.std.proofs.lemmas.List.Edits.{map_over_more}
use Rattle.bl_queue.specs.Runs.{open_ended}
use Rattle.bl_queue.proofs.ending_feeds.end_all_open.Goals as goal

pub loop-feed-preserved : goal.loop-feed-preserved
loop-feed-preserved c =
    let within : c.loop-feed.feed-index < length c.loop-feed.feeds = omega arith in
    let feed = get_or c.loop-feed.feeds c.loop-feed.feed-index c.feed-item.result in
    ap (λ x. set c.loop-feed.feeds c.loop-feed.feed-index x) c.end_open.ensures
    ∙ map_over_more (open_ended c.args.status) c.args.feeds.now c.loop-feed.feeds c.loop-feed.feed-index feed (omega arith) c.loop-feed.invariant (get_or_default c.loop-feed.feeds c.loop-feed.feed-index c.feed-item.result feed within)
