use Rattle.std.proofs.Common.{◌≡◌, take}
use Rattle.bl_files.proofs.feed.copy_feeds.Given as goal

abbrev pub invariant-loop-feed : goal.invariant-loop-feed
invariant-loop-feed l = l.copy ≡ take l.feed-index l.feed-items
