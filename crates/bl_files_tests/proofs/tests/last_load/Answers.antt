use Rattle.std.proofs.Common.{◌≡◌, [], ◌∷◌, ◌++◌, sym, ap, ◌∙◌, subst, refl}
use Rattle.bl_files.specs.Carried.{AreFeeds}
use Rattle.bl_files_tests.proofs.TestFeeds.{three_feeds}
use Rattle.bl_files_tests.proofs.tests.last_load.Goals as goal

pub returns : goal.returns
returns c =
    let a = c.in_ok-feed.field-0 in
    let b = c.in_ok-feed-2.field-0 in
    let d = c.in_ok-feed-3.field-0 in
    let all : c.push-3.new.self ≡ a ∷ b ∷ d ∷ [] =
    c.in_ok-push-3.ensures.ok ∙ ap (λ l. l ++ d ∷ []) (c.in_ok-push-2.ensures.ok ∙ ap (λ l. l ++ b ∷ []) (c.in_ok-push.ensures.ok ∙ ap (λ l. l ++ a ∷ []) c.new-feeds.ensures)) in
    subst AreFeeds (sym all) (three_feeds a b d _ _ _ c.in_ok-feed.ensures.name c.in_ok-feed-2.ensures.name c.in_ok-feed-3.ensures.name c.in_ok-feed.ensures.kind c.in_ok-feed-2.ensures.kind c.in_ok-feed-3.ensures.kind refl refl refl)
