use Rattle.bl_queue.proofs.LastLogs.{IsBehind}
use Rattle.bl_queue.proofs.taking_rows.keep_last_logs.Given as goal

abbrev pub invariant-loop-place : goal.invariant-loop-place
invariant-loop-place l = IsBehind l.initial.feeds l.feeds l.place l.room
