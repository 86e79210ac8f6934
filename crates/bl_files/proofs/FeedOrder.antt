-- The order of feeds.
use Rattle.std.specs.Prelude.{◌≡◌, ◌+◌, ◌<◌, ℕ, nat_eq, Bool, true, false, cond, List, [], ◌∷◌, length, refl}
use Rattle.std.proofs.Common.{sym, ap, subst, ◌∙◌, arith, inl, inr, get_or, is_lt}
use Rattle.std.specs.declared.cmp.Ordering.{Ordering}
use Rattle.std.specs.declared.cmp.Ordering.TheVariants.{Less, Equal, Greater}
use Rattle.std.specs.Ordering.{nat_cmp, ordering_then, ordering_reverse, is_eq}
use Rattle.std.specs.Cmp.{IsTotalOrder}
use Rattle.std.specs.Cmp.Lexicographic.{pointwise, slice_cmp}
use Rattle.std.specs.List.{AllByRecursion, Contains, IsDistinct}
use Rattle.std.specs.List.Sorted.{IsSorted, IsPermutation, IsStrictlySortedBy}
use Rattle.std.proofs.lemmas.Cmp.{nat_cmp_total, nat_list_cmp_total, on_total, then_total, tied_itself}
use Rattle.std.proofs.lemmas.List.{get_or-map, length-map}
use Rattle.std.proofs.lemmas.List.Elements.{All-contains, All-from_recursion}
use Rattle.std.proofs.lemmas.List.Sorted.{IsPermutation-refl, IsPermutation-sym, IsPermutation-trans, IsPermutation-cons, IsPermutation-middle}
use Rattle.std.proofs.lemmas.Map.Keys.{sorted_head, sorted_tail, apart_from_distinct, sorted_from_all_adjacent}
use Rattle.std.proofs.lemmas.Map.Text.{is_eq-slice_cmp}
use Rattle.bl_files.specs.declared.feed.Feed.{Feed}
use Rattle.bl_files.specs.Carried.{DifferentNames, feed_cmp, feed_names, kind_place}
use Rattle.bl_files.proofs.Members.{no_member, first_member, later_member, member_cases}

pub feed_cmp_total : IsTotalOrder feed_cmp
feed_cmp_total = then_total (on_total (λ (feed : Feed). kind_place feed.kind) nat_cmp_total) (on_total (λ (feed : Feed). feed.name) nat_list_cmp_total)

-- ---- feeds of different names

then_tied : (p q : Ordering) → ordering_then p q ≡ Equal → q ≡ Equal
then_tied Less q h = cc
then_tied Equal q h = h
then_tied Greater q h = cc

not_true : {P : Type 0} → true ≡ false → P
not_true h = absurd (cc)

-- one of two names comes first
pub less_of : (a b : Feed) → is_lt (feed_cmp b a) ≡ false → pointwise nat_eq a.name b.name ≡ false → feed_cmp a b ≡ Less
less_of a b up apart = by (feed_cmp a b) refl
  where
    by : (o : Ordering) → feed_cmp a b ≡ o → o ≡ Less
    by Less is = refl
    by Equal is = not_true (sym (sym (is_eq-slice_cmp a.name b.name) ∙ ap is_eq (then_tied (nat_cmp (kind_place a.kind) (kind_place b.kind)) (slice_cmp nat_cmp a.name b.name) is)) ∙ apart)
    by Greater is = not_true (sym (ap is_lt (feed_cmp_total.antisymm b a ∙ ap ordering_reverse is)) ∙ up)

name_at : (feeds : List Feed) (k : ℕ) (d : Feed) → k < length feeds → get_or (feed_names feeds) k d.name ≡ (get_or feeds k d).name
name_at feeds k d within = get_or-map (λ (f : Feed). f.name) feeds k d d.name within

-- feeds in order whose names differ are strictly in order
pub strictly : (feeds : List Feed) → IsSorted feed_cmp feeds → DifferentNames (feed_names feeds) → IsStrictlySortedBy feed_cmp feeds
unfolding IsStrictlySortedBy
strictly [] up apart = tt
strictly (feed ∷ feeds) up apart =
    sorted_from_all_adjacent feed_cmp_total (feed ∷ feeds) feed (λ k within.
    let here : k < length (feed ∷ feeds) = omega arith in
    let all : k + 1 < length (feed_names (feed ∷ feeds)) = subst (λ n. k + 1 < n) (sym (length-map (feed ∷ feeds) (λ (f : Feed). f.name))) within in
    less_of (get_or (feed ∷ feeds) k feed) (get_or (feed ∷ feeds) (k + 1) feed) (up k feed (omega arith) within) (
    subst (λ n. pointwise nat_eq n (get_or (feed ∷ feeds) (k + 1) feed).name ≡ false) (name_at (feed ∷ feeds) k feed here)
    (subst (λ n. pointwise nat_eq (get_or (feed_names (feed ∷ feeds)) k feed.name) n ≡ false) (name_at (feed ∷ feeds) (k + 1) feed within)
    (apart_from_distinct (pointwise nat_eq) (feed_names (feed ∷ feeds)) k (k + 1) feed.name apart (omega arith) all))))

-- ---- one feed after the other put in its place

abbrev place : Feed → List Feed → List Feed
place feed [] = feed ∷ []
place feed (first ∷ feeds) = cond (is_lt (feed_cmp first feed)) (first ∷ place feed feeds) (feed ∷ first ∷ feeds)

abbrev pub placed : List Feed → List Feed
placed [] = []
placed (feed ∷ feeds) = place feed (placed feeds)

place_permutes_by : (feed first : Feed) (feeds : List Feed) (b : Bool) → IsPermutation (feed ∷ feeds) (place feed feeds) → IsPermutation (feed ∷ first ∷ feeds) (cond b (first ∷ place feed feeds) (feed ∷ first ∷ feeds))
place_permutes_by feed first feeds true rest =
    IsPermutation-trans _ (first ∷ feed ∷ feeds) _ (IsPermutation-sym _ _ (IsPermutation-middle (first ∷ []) feed feeds)) (IsPermutation-cons first _ _ rest)
place_permutes_by feed first feeds false rest = IsPermutation-refl (feed ∷ first ∷ feeds)

place_permutes : (feed : Feed) (feeds : List Feed) → IsPermutation (feed ∷ feeds) (place feed feeds)
place_permutes feed [] = IsPermutation-refl (feed ∷ [])
place_permutes feed (first ∷ feeds) = place_permutes_by feed first feeds (is_lt (feed_cmp first feed)) (place_permutes feed feeds)

pub placed_permutes : (feeds : List Feed) → IsPermutation feeds (placed feeds)
placed_permutes [] = IsPermutation-refl []
placed_permutes (feed ∷ feeds) = IsPermutation-trans _ (feed ∷ placed feeds) _ (IsPermutation-cons feed _ _ (placed_permutes feeds)) (place_permutes feed (placed feeds))

module _ (P : Feed → Type 0) where
  all_place_by : (feed first : Feed) (feeds : List Feed) (b : Bool) → P feed → P first → AllByRecursion P feeds → AllByRecursion P (place feed feeds) → AllByRecursion P (cond b (first ∷ place feed feeds) (feed ∷ first ∷ feeds))
  all_place_by feed first feeds true one two all rest = (two, rest)
  all_place_by feed first feeds false one two all rest = (one, (two, all))

  all_place : (feed : Feed) (feeds : List Feed) → P feed → AllByRecursion P feeds → AllByRecursion P (place feed feeds)
  all_place feed [] one all = (one, tt)
  all_place feed (first ∷ feeds) one all = all_place_by feed first feeds (is_lt (feed_cmp first feed)) one all.0 all.1 (all_place feed feeds one all.1)

  all_placed : (feeds : List Feed) → AllByRecursion P feeds → AllByRecursion P (placed feeds)
  all_placed [] all = tt
  all_placed (feed ∷ feeds) all = all_place feed (placed feeds) all.0 (all_placed feeds all.1)

is_less : (o : Ordering) → is_lt o ≡ true → o ≡ Less
is_less Less h = refl
is_less Equal h = not_true (sym h)
is_less Greater h = not_true (sym h)

all_after : (a b : Feed) (feeds : List Feed) → feed_cmp a b ≡ Less → AllByRecursion (λ c. feed_cmp b c ≡ Less) feeds → AllByRecursion (λ c. feed_cmp a c ≡ Less) feeds
all_after a b [] h all = tt
all_after a b (feed ∷ feeds) h all = (feed_cmp_total.trans a b feed h all.0, all_after a b feeds h all.1)

place_strict_by : (feed first : Feed) (feeds : List Feed) (b : Bool) → is_lt (feed_cmp first feed) ≡ b → pointwise nat_eq feed.name first.name ≡ false → IsStrictlySortedBy feed_cmp (first ∷ feeds) → IsStrictlySortedBy feed_cmp (place feed feeds) → IsStrictlySortedBy feed_cmp (cond b (first ∷ place feed feeds) (feed ∷ first ∷ feeds))
unfolding IsStrictlySortedBy
place_strict_by feed first feeds true is apart up rest = (all_place (λ c. feed_cmp first c ≡ Less) feed feeds (is_less _ is) up.0, rest)
place_strict_by feed first feeds false is apart up rest = let less : feed_cmp feed first ≡ Less = less_of feed first is apart in ((less, all_after feed first feeds less up.0), up)

place_strict : (feed : Feed) (feeds : List Feed) → AllByRecursion (λ (other : Feed). pointwise nat_eq feed.name other.name ≡ false) feeds → IsStrictlySortedBy feed_cmp feeds → IsStrictlySortedBy feed_cmp (place feed feeds)
unfolding IsStrictlySortedBy
place_strict feed [] apart up = (tt, tt)
place_strict feed (first ∷ feeds) apart up = place_strict_by feed first feeds (is_lt (feed_cmp first feed)) refl apart.0 up (place_strict feed feeds apart.1 up.1)

apart_feeds : (P : List ℕ → Type 0) (feeds : List Feed) → AllByRecursion P (feed_names feeds) → AllByRecursion (λ (feed : Feed). P feed.name) feeds
apart_feeds P [] all = tt
apart_feeds P (feed ∷ feeds) all = (all.0, apart_feeds P feeds all.1)

pub placed_strict : (feeds : List Feed) → DifferentNames (feed_names feeds) → IsStrictlySortedBy feed_cmp (placed feeds)
unfolding IsStrictlySortedBy IsDistinct
placed_strict [] apart = tt
placed_strict (feed ∷ feeds) apart =
    place_strict feed (placed feeds) (all_placed (λ (other : Feed). pointwise nat_eq feed.name other.name ≡ false) feeds (apart_feeds (λ name. pointwise nat_eq feed.name name ≡ false) feeds apart.0)) (placed_strict feeds apart.1)

-- ---- a list in strict order is one by its members

first_of : (a : Feed) (feeds : List Feed) (b : Feed) → IsStrictlySortedBy feed_cmp (a ∷ feeds) → Contains feeds b → feed_cmp a b ≡ Less
first_of a feeds b up h = All-contains (λ c. feed_cmp a c ≡ Less) feeds b (All-from_recursion (λ c. feed_cmp a c ≡ Less) feeds (sorted_head feed_cmp a feeds up)) h

not_both : {P : Type 0} (a b : Feed) → feed_cmp a b ≡ Less → feed_cmp b a ≡ Less → P
not_both a b h k = let e : feed_cmp a b ≡ Greater = feed_cmp_total.antisymm a b ∙ ap ordering_reverse k in not_true (ap is_lt (sym h ∙ e))

same_first : (a b : Feed) (xs ys : List Feed) → IsStrictlySortedBy feed_cmp (a ∷ xs) → IsStrictlySortedBy feed_cmp (b ∷ ys) → Contains (b ∷ ys) a → Contains (a ∷ xs) b → a ≡ b
same_first a b xs ys up up2 h k =
    elim (member_cases b ys a h) [
      | inl same ↦ sym same
      | inr later ↦ (elim (member_cases a xs b k) [
        | inl same ↦ same
        | inr later2 ↦ not_both a b (first_of a xs b up later2) (first_of b ys a up2 later)
      ])
    ]

same_rest : (a b : Feed) (xs ys : List Feed) → a ≡ b → IsStrictlySortedBy feed_cmp (a ∷ xs) → ((feed : Feed) → Contains (a ∷ xs) feed → Contains (b ∷ ys) feed) → (feed : Feed) → Contains xs feed → Contains ys feed
same_rest a b xs ys same up all feed h =
    elim (member_cases b ys feed (all feed (later_member a xs feed h))) [
      | inl is ↦ let less : feed_cmp a feed ≡ Less = first_of a xs feed up h in not_true (sym (ap is_lt less) ∙ ap is_lt (ap (λ f. feed_cmp a f) (sym (same ∙ is)) ∙ tied_itself feed_cmp_total a))
      | inr later ↦ later
    ]

pub same_members : (xs ys : List Feed) → IsStrictlySortedBy feed_cmp xs → IsStrictlySortedBy feed_cmp ys → ((feed : Feed) → Contains xs feed → Contains ys feed) → ((feed : Feed) → Contains ys feed → Contains xs feed) → xs ≡ ys
same_members [] [] up up2 all back = refl
same_members [] (b ∷ ys) up up2 all back = no_member b (back b (first_member b ys))
same_members (a ∷ xs) [] up up2 all back = no_member a (all a (first_member a xs))
same_members (a ∷ xs) (b ∷ ys) up up2 all back =
    let same : a ≡ b = same_first a b xs ys up up2 (all a (first_member a xs)) (back b (first_member b ys)) in
    let rest : xs ≡ ys = same_members xs ys (sorted_tail feed_cmp a xs up) (sorted_tail feed_cmp b ys up2) (same_rest a b xs ys same up all) (same_rest b a ys xs (sym same) up2 back) in
    λ i. same i ∷ rest i
