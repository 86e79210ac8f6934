use Rattle.std.proofs.Common.{◌≡◌, true, All, take}
use Rattle.bl_files.specs.declared.feed.Feed.{Feed}
use Rattle.bl_files.specs.Carried.{is_kept}
use Rattle.bl_load.proofs.finding.kept_as.Given as goal

-- none of those before is kept under this name
abbrev pub invariant-loop-feed : goal.invariant-loop-feed
invariant-loop-feed l = All (λ (feed : Feed). ¬ ((is_kept feed ≡ true) × (feed.name ≡ l.name))) (take l.feed-index l.feed-items)
