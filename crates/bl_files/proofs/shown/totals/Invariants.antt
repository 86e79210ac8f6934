use Rattle.std.proofs.Common.{◌≡◌, take}
use Rattle.bl_files.specs.Shown.{totals}
use Rattle.bl_files.proofs.shown.totals.Given as goal

-- the sums over the files so far
abbrev pub invariant-loop-feed : goal.invariant-loop-feed
invariant-loop-feed l = l.total ≡ totals (take l.feed-index l.feed-items)
