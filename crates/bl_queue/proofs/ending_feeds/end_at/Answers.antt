use Rattle.std.proofs.Common.{ap, sym, ◌∙◌, set}
use Rattle.bl_queue.specs.Runs.{ended_feed}
use Rattle.bl_queue.proofs.Placed.{feed_at}
use Rattle.bl_queue.proofs.ending_feeds.end_at.Goals as goal

pub returns : goal.returns
returns c = ap (λ x. set c.args.feeds.now c.args.place x) c.end_one.ensures ∙ sym (feed_at (ended_feed c.args.end) c.args.feeds.now c.args.place c.index-feeds-place.result c.requires)
