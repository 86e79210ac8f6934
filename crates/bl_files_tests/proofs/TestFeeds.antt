-- What the tests hand in may be handed in.
use Rattle.std.specs.Prelude.{◌≡◌, ℕ, nat_eq, false, List, [], ◌∷◌}
use Rattle.std.proofs.Common.{sym, ap, subst, ◌∙◌}
use Rattle.std.specs.Cmp.Lexicographic.{pointwise}
use Rattle.std.specs.List.{IsDistinct}
use Rattle.std.proofs.lemmas.List.Elements.{All-nil, All-cons}
use Rattle.bl_files.specs.declared.feed.Feed.{Feed}
use Rattle.bl_files.specs.declared.feed_kind.FeedKind.TheVariants.{Vertex}
use Rattle.bl_files.specs.Carried.{AreFeeds, EndsRefused}

pub none_are_feeds : AreFeeds []
unfolding IsDistinct
none_are_feeds = record { names = tt; refused = All-nil (λ (f : Feed). EndsRefused f.kind f) }

apart : (a b m n : List ℕ) → a ≡ m → b ≡ n → pointwise nat_eq m n ≡ false → pointwise nat_eq a b ≡ false
apart a b m n one two h = ap (λ x. pointwise nat_eq x b) one ∙ ap (λ x. pointwise nat_eq m x) two ∙ h

read : (feed : Feed) → feed.kind ≡ Vertex → EndsRefused feed.kind feed
read feed is = subst (λ k. EndsRefused k feed) (sym is) tt

pub three_feeds : (a b c : Feed) (m n o : List ℕ) → a.name ≡ m → b.name ≡ n → c.name ≡ o → a.kind ≡ Vertex → b.kind ≡ Vertex → c.kind ≡ Vertex →
    pointwise nat_eq m n ≡ false → pointwise nat_eq m o ≡ false → pointwise nat_eq n o ≡ false → AreFeeds (a ∷ b ∷ c ∷ [])
unfolding IsDistinct
three_feeds a b c m n o an bn cn ak bk ck mn mo other =
    record {
      names = ((apart a.name b.name m n an bn mn, (apart a.name c.name m o an cn mo, tt)), ((apart b.name c.name n o bn cn other, tt), (tt, tt)));
      refused = All-cons (λ (f : Feed). EndsRefused f.kind f) a (b ∷ c ∷ []) (read a ak) (All-cons (λ (f : Feed). EndsRefused f.kind f) b (c ∷ []) (read b bk) (All-cons (λ (f : Feed). EndsRefused f.kind f) c [] (read c ck) (All-nil (λ (f : Feed). EndsRefused f.kind f))));
    }
