use Rattle.std.proofs.Common.{◌≡◌, ◌++◌, take, map, Some}
use Rattle.bl_files.proofs.error_feed.push_errors.Given as goal

abbrev pub invariant-loop-log : goal.invariant-loop-log
invariant-loop-log l = l.errors ≡ l.fn.errors ++ map (λ log. record { feed = Some l.place; log = log }) (take l.log-index l.log-items)
