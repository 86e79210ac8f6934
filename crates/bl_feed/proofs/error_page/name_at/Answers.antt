use Rattle.std.specs.Str.{IsUtf8}
use Rattle.bl_files.specs.declared.feed.Feed.{Feed}
use Rattle.bl_feed.proofs.Elements.{at_place}
use Rattle.bl_feed.proofs.error_page.name_at.Goals as goal

pub shown_name-requires-clause-name : goal.shown_name-requires-clause-name
shown_name-requires-clause-name c =
    at_place (λ (feed : Feed). IsUtf8 feed.name) c.args.job.now.feeds _ c.in-Some-get.feed.now c.in-Some-get.ensures.value c.requires.names
