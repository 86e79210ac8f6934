use Rattle.std.proofs.Common.{◌≡◌, ◌++◌, take}
use Rattle.bl_files.specs.Collected.{kept_feeds}
use Rattle.bl_files.proofs.carrying.push_kept.Given as goal

abbrev pub invariant-loop-feed : goal.invariant-loop-feed
invariant-loop-feed l = l.feeds.items ≡ l.fn.feeds.items ++ kept_feeds (take l.feed-index l.feed-items)
