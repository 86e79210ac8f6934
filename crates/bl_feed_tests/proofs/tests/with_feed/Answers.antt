use Rattle.std.proofs.Common.{List, sym, subst}
use Rattle.std.specs.List.{All}
use Rattle.std.specs.Str.{IsUtf8}
use Rattle.std.proofs.lemmas.List.Elements.{All-push}
use Rattle.bl_files.specs.declared.feed.Feed.{Feed}
use Rattle.bl_feed_tests.proofs.tests.with_feed.Goals as goal

pub returns : goal.returns
returns c =
    subst (λ (feeds : List Feed). All (λ (feed : Feed). IsUtf8 feed.name) feeds) (sym c.in_ok-push.ensures.ok)
    (All-push (λ (feed : Feed). IsUtf8 feed.name) c.args.feeds c.args.feed c.requires.all c.requires.one)
