use Rattle.std.proofs.Common.{take}
use Rattle.std.specs.Prelude.{All}
use Rattle.std.specs.Str.{IsUtf8}
use Rattle.bl_files.specs.declared.feed.Feed.{Feed}
use Rattle.bl_cli.proofs.shown.has_names.Given as goal

-- the names so far are texts
abbrev pub invariant-loop-feed : goal.invariant-loop-feed
invariant-loop-feed l = All (λ (feed : Feed). IsUtf8 feed.name) (take l.feed-index l.feed-items)
