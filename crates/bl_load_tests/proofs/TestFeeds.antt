-- What the tests hand in may be handed in.
use Rattle.std.specs.Prelude.{◌≡◌, List, [], ◌∷◌}
use Rattle.std.proofs.Common.{sym, subst}
use Rattle.std.specs.List.{IsDistinct}
use Rattle.std.proofs.lemmas.List.Elements.{All-nil, All-cons}
use Rattle.bl_files.specs.declared.feed.Feed.{Feed}
use Rattle.bl_files.specs.declared.feed_kind.FeedKind.TheVariants.{Vertex}
use Rattle.bl_files.specs.Carried.{AreFeeds, EndsRefused}

pub none_are_feeds : AreFeeds []
unfolding IsDistinct
none_are_feeds = record { names = tt; refused = All-nil (λ (f : Feed). EndsRefused f.kind f) }

read : (feed : Feed) → feed.kind ≡ Vertex → EndsRefused feed.kind feed
read feed is = subst (λ k. EndsRefused k feed) (sym is) tt

pub one_feed : (a : Feed) → a.kind ≡ Vertex → AreFeeds (a ∷ [])
unfolding IsDistinct
one_feed a kind =
    record {
      names = (tt, tt);
      refused = All-cons (λ (f : Feed). EndsRefused f.kind f) a [] (read a kind) (All-nil (λ (f : Feed). EndsRefused f.kind f));
    }
