use Rattle.std.proofs.Common.{◌≡◌, [], ◌∷◌, ◌++◌, sym, ap, ◌∙◌, subst}
use Rattle.bl_files.specs.Carried.{AreFeeds}
use Rattle.bl_load_tests.proofs.TestFeeds.{one_feed}
use Rattle.bl_load_tests.proofs.tests.one_feed.Goals as goal

pub returns : goal.returns
returns c =
    let a = c.in_ok-feed.field-0 in
    let all : c.push.new.self ≡ a ∷ [] = c.in_ok-push.ensures.ok ∙ ap (λ l. l ++ a ∷ []) c.new-feeds.ensures in
    subst AreFeeds (sym all) (one_feed a c.in_ok-feed.ensures.kind)
