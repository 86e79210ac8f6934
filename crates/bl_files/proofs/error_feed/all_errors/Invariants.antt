use Rattle.std.proofs.Common.{◌≡◌, take}
use Rattle.bl_files.specs.ErrorFeed.{errors_from}
use Rattle.bl_files.proofs.error_feed.all_errors.Given as goal

abbrev pub invariant-loop-place : goal.invariant-loop-place
invariant-loop-place l = l.errors ≡ errors_from 1 (take l.place l.feed-items)
