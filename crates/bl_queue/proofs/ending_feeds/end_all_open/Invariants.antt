use Rattle.std.proofs.Common.{◌≡◌, ◌++◌, map, take, drop}
use Rattle.bl_queue.specs.Runs.{open_ended}
use Rattle.bl_queue.proofs.ending_feeds.end_all_open.Given as goal

abbrev pub invariant-loop-feed : goal.invariant-loop-feed
invariant-loop-feed l = l.feeds ≡ map (open_ended l.status) (take l.feed-index l.initial.feeds) ++ drop l.feed-index l.initial.feeds
