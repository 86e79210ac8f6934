use Rattle.std.proofs.Common.{arith, refl, ◌∙◌}
use Rattle.std.proofs.lemmas.List.{set-get_or}
use Rattle.bl_queue.proofs.OldestLogs.{dropped_all, dropped_none, dropping_more}
use Rattle.bl_queue.proofs.taking_rows.drop_first_logs.Goals as goal

pub loop-feed-init : goal.loop-feed-init
loop-feed-init c = record { so_far = refl }

pub loop-feed-preserved : goal.loop-feed-preserved
loop-feed-preserved c =
    dropping_more c.args.feeds.now c.loop-feed.feeds c.args.number c.loop-feed.feed-index c.loop-feed.left c.drop_logs-left.result c.feed-item.result c.drop_logs-left.new.feed (omega arith) c.loop-feed.invariant c.drop_logs-left.ensures.feed c.drop_logs-left.ensures.left

pub returns-then-left-eq0 : goal.returns-then-left-eq0
returns-then-left-eq0 c =
    set-get_or c.loop-feed.feeds c.loop-feed.feed-index c.feed-item.result
    ∙ dropped_none c.args.feeds.now c.loop-feed.feeds c.args.number c.loop-feed.feed-index c.loop-feed.left (omega arith) c.loop-feed.invariant

pub returns : goal.returns
returns c = dropped_all c.args.feeds.now c.loop-feed.feeds c.args.number c.loop-feed.feed-index c.loop-feed.left (omega arith) c.loop-feed.invariant
