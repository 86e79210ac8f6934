use Rattle.std.proofs.Common.{◌≡◌, map, nat_lt, take}
use Rattle.std.specs.List.{filter}
use Rattle.serde_json.specs.View.{view}
use Rattle.bl_feed.specs.StatusBodies.{count_data, count_of}
use Rattle.bl_feed.proofs.feed_counts.counts_of.Given as goal

-- those of the statuses so far
abbrev pub invariant-loop-status : goal.invariant-loop-status
invariant-loop-status l = map view l.counts.items ≡ map (count_data l.feeds) (filter (λ status. nat_lt 0 (count_of status l.feeds)) (take l.status-index l.statuses))
