use Rattle.bl_queue.proofs.OldestLogs.{IsDropping}
use Rattle.bl_queue.proofs.taking_rows.drop_first_logs.Given as goal

abbrev pub invariant-loop-feed : goal.invariant-loop-feed
invariant-loop-feed l = IsDropping l.initial.feeds l.feeds l.number l.feed-index l.left
