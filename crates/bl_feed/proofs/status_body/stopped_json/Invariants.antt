use Rattle.std.proofs.Common.{◌≡◌, map, take}
use Rattle.std.specs.List.{filter}
use Rattle.serde_json.specs.View.{view}
use Rattle.bl_feed.specs.StatusBodies.{feed_data, is_stopped}
use Rattle.bl_feed.proofs.status_body.stopped_json.Given as goal

-- those of the files so far
abbrev pub invariant-loop-feed : goal.invariant-loop-feed
invariant-loop-feed l = map view l.stopped.items ≡ map (feed_data l.job) (filter is_stopped (take l.feed-index l.feed-items))
