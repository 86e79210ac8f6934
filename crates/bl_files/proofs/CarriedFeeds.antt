-- The feeds that are collected are those of a new job.
use Rattle.std.specs.Prelude.{◌≡◌, ℕ, nat_eq, nat_lt, Bool, true, false, not, ◌||◌, ◌&&◌, cond, List, [], ◌∷◌, ◌++◌, map, filter, length, refl}
use Rattle.std.proofs.Common.{sym, ap, subst, ◌∙◌, inl, inr, get_or}
use Rattle.std.specs.Cmp.Lexicographic.{pointwise}
use Rattle.std.specs.List.{All, AllByRecursion, Any, Contains, IsDistinct}
use Rattle.std.specs.List.Sorted.{IsSorted, IsPermutation, IsStrictlySortedBy}
use Rattle.std.proofs.lemmas.Cmp.{nat_list_eq_equiv}
use Rattle.std.proofs.lemmas.List.Elements.{All-contains, All-contains_itself, All-weaker, Contains-append_left, Contains-append_right, Contains-append_cases}
use Rattle.std.proofs.lemmas.List.Folds.{Any-from_list_any, list_any-from_Any}
use Rattle.std.proofs.lemmas.List.Sorted.{Contains-permutation, IsPermutation-map, IsPermutation-sym, length_permutation}
use Rattle.std.proofs.lemmas.Map.Keys.{IsDistinct-cons, IsDistinct-IsPermutation}
use Rattle.std.proofs.lemmas.Slice.Eq.{bytes_eq-Decides}
use Rattle.bl_files.specs.declared.feed.Feed.{Feed}
use Rattle.bl_files.specs.declared.found.Found.{Found}
use Rattle.bl_files.specs.declared.feed_kind.FeedKind.{FeedKind}
use Rattle.bl_files.specs.declared.feed_kind.FeedKind.TheVariants.{Vertex, Edge, Refused}
use Rattle.bl_files.specs.Carried.{AreCarried, AreFeeds, DifferentNames, EndsRefused, HasKept, IsCarriedFeed, feed_cmp, feed_names, found_names, is_kept, kept, new_feed}
use Rattle.bl_files.specs.Statuses.{is_completed}
use Rattle.bl_files.specs.Collected.{collected, has_kept, kept_feeds, new_files}
use Rattle.bl_files.proofs.Members.{later_member, first_member, selected, select}
use Rattle.bl_files.proofs.FeedOrder.{placed, placed_permutes, placed_strict, same_members, strictly}

not_true : {P : Type 0} → false ≡ true → P
not_true h = absurd (cc)

two : (a b : Bool) → (a && b) ≡ true → (a ≡ true) × (b ≡ true)
two true b h = (refl, h)
two false b h = not_true h

two_of : (a b : Bool) → a ≡ true → b ≡ true → (a && b) ≡ true
two_of true b h k = k
two_of false b h k = not_true h

-- ---- a name of which a feed is kept

has_kept_is : (previous : List Feed) (name : List ℕ) → has_kept previous name ≡ true → HasKept previous name
has_kept_is previous name h =
    let any : Any (λ feed. (is_kept feed && pointwise nat_eq feed.name name) ≡ true) previous = Any-from_list_any (λ (feed : Feed). is_kept feed && pointwise nat_eq feed.name name) previous h in
    let both : (is_kept any.1 ≡ true) × (pointwise nat_eq any.1.name name ≡ true) = two _ _ any.4 in
    (any.1, (any.0, any.2, subst (λ x. get_or previous any.0 any.1 ≡ x) refl any.3), both.0, (bytes_eq-Decides any.1.name name).0 both.1)

has_kept_of : (previous : List Feed) (name : List ℕ) → HasKept previous name → has_kept previous name ≡ true
has_kept_of previous name h =
    list_any-from_Any (λ (feed : Feed). is_kept feed && pointwise nat_eq feed.name name) previous
    (h.1.0, h.0, h.1.1, h.1.2, two_of _ _ h.2 ((bytes_eq-Decides h.0.name name).1 h.3))

no_kept_by : (previous : List Feed) (name : List ℕ) (b : Bool) → has_kept previous name ≡ b → (¬ HasKept previous name) → not b ≡ true
no_kept_by previous name true is none = absurd (none (has_kept_is previous name is))
no_kept_by previous name false is none = refl

no_kept : (previous : List Feed) (name : List ℕ) → (¬ HasKept previous name) → not (has_kept previous name) ≡ true
no_kept previous name none = no_kept_by previous name (has_kept previous name) refl none

not_both : (b : Bool) → not b ≡ true → b ≡ true → ⊥
not_both true h k = not_true h
not_both false h k = not_true k

-- ---- each feed that is collected, and no other

collected_is : (previous : List Feed) (found : List Found) (feed : Feed) → Contains (collected previous found) feed → IsCarriedFeed previous found feed
collected_is previous found feed h =
    elim (Contains-append_cases (kept_feeds previous) (map new_feed (new_files previous found)) feed h) [
      | inl one ↦ inl (selected is_kept kept previous feed one)
      | inr one ↦
          let of : (file : Found) × Contains found file × (not (has_kept previous file.name) ≡ true) × (feed ≡ new_feed file) = selected (λ (file : Found). not (has_kept previous file.name)) new_feed found feed one in
          inr (of.0, of.1, (λ has. not_both (has_kept previous of.0.name) of.2 (has_kept_of previous of.0.name has)), of.3)
    ]

is_collected : (previous : List Feed) (found : List Found) (feed : Feed) → IsCarriedFeed previous found feed → Contains (collected previous found) feed
is_collected previous found feed (inl of) =
    Contains-append_left (kept_feeds previous) (map new_feed (new_files previous found)) feed (subst (λ f. Contains (kept_feeds previous) f) (sym of.3) (select is_kept kept previous of.0 of.1 of.2))
is_collected previous found feed (inr of) =
    Contains-append_right (kept_feeds previous) (map new_feed (new_files previous found)) feed (subst (λ f. Contains (map new_feed (new_files previous found)) f) (sym of.3) (select (λ (file : Found). not (has_kept previous file.name)) new_feed found of.0 of.1 (no_kept previous of.0.name of.2)))

-- ---- their names differ

module _ {X : Type 0} (name : X → List ℕ) (p : X → Bool) (E : List ℕ → List ℕ → Bool) where
  fewer_by : (P : List ℕ → Type 0) (x : X) (xs : List X) (b : Bool) → P (name x) → AllByRecursion P (map name (filter p xs)) → AllByRecursion P (map name (cond b (x ∷ filter p xs) (filter p xs)))
  fewer_by P x xs true one all = (one, all)
  fewer_by P x xs false one all = all

  fewer : (P : List ℕ → Type 0) (xs : List X) → AllByRecursion P (map name xs) → AllByRecursion P (map name (filter p xs))
  fewer P [] all = tt
  fewer P (x ∷ xs) all = fewer_by P x xs (p x) all.0 (fewer P xs all.1)

  distinct_by : (x : X) (xs : List X) (b : Bool) → AllByRecursion (λ y. E (name x) y ≡ false) (map name (filter p xs)) → IsDistinct E (map name (filter p xs)) → IsDistinct E (map name (cond b (x ∷ filter p xs) (filter p xs)))
  distinct_by x xs true all rest = IsDistinct-cons E (name x) (map name (filter p xs)) all rest
  distinct_by x xs false all rest = rest

  distinct_fewer : (xs : List X) → IsDistinct E (map name xs) → IsDistinct E (map name (filter p xs))
  unfolding IsDistinct
  distinct_fewer [] h = tt
  distinct_fewer (x ∷ xs) h = distinct_by x xs (p x) (fewer (λ y. E (name x) y ≡ false) xs h.0) (distinct_fewer xs h.1)

all_append : (P : List ℕ → Type 0) (xs ys : List (List ℕ)) → AllByRecursion P xs → AllByRecursion P ys → AllByRecursion P (xs ++ ys)
all_append P [] ys all rest = rest
all_append P (x ∷ xs) ys all rest = (all.0, all_append P xs ys all.1 rest)

all_members : (P : List ℕ → Type 0) (xs : List (List ℕ)) → ((x : List ℕ) → Contains xs x → P x) → AllByRecursion P xs
all_members P [] h = tt
all_members P (x ∷ xs) h = (h x (first_member x xs), all_members P xs (λ y is. h y (later_member x xs y is)))

distinct_append : (E : List ℕ → List ℕ → Bool) (xs ys : List (List ℕ)) → IsDistinct E xs → IsDistinct E ys → ((x y : List ℕ) → Contains xs x → Contains ys y → E x y ≡ false) → IsDistinct E (xs ++ ys)
unfolding IsDistinct
distinct_append E [] ys one two apart = two
distinct_append E (x ∷ xs) ys one two apart = (
  all_append (λ y. E x y ≡ false) xs ys one.0 (all_members (λ y. E x y ≡ false) ys (λ y is. apart x y (first_member x xs) is)),
  distinct_append E xs ys one.1 two (λ z y here there. apart z y (later_member x xs z here) there),
)

names_of_kept : (feeds : List Feed) → feed_names (map kept feeds) ≡ feed_names feeds
names_of_kept [] = refl
names_of_kept (feed ∷ feeds) = ap (λ names. feed.name ∷ names) (names_of_kept feeds)

names_of_new : (files : List Found) → feed_names (map new_feed files) ≡ found_names files
names_of_new [] = refl
names_of_new (file ∷ files) = ap (λ names. file.name ∷ names) (names_of_new files)

names_append : (xs ys : List Feed) → feed_names (xs ++ ys) ≡ feed_names xs ++ feed_names ys
names_append [] ys = refl
names_append (x ∷ xs) ys = ap (λ names. x.name ∷ names) (names_append xs ys)

differs : (a b : List ℕ) (t : Bool) → pointwise nat_eq a b ≡ t → (a ≡ b → ⊥) → t ≡ false
differs a b true is apart = absurd (apart ((bytes_eq-Decides a b).0 is))
differs a b false is apart = refl

kept_and_new : (previous : List Feed) (found : List Found) (a b : List ℕ) → Contains (feed_names (filter is_kept previous)) a → Contains (found_names (new_files previous found)) b → pointwise nat_eq a b ≡ false
kept_and_new previous found a b here there =
    let old : (feed : Feed) × Contains previous feed × (is_kept feed ≡ true) × (a ≡ feed.name) = selected is_kept (λ (feed : Feed). feed.name) previous a here in
    let new : (file : Found) × Contains found file × (not (has_kept previous file.name) ≡ true) × (b ≡ file.name) = selected (λ (file : Found). not (has_kept previous file.name)) (λ (file : Found). file.name) found b there in
    differs a b (pointwise nat_eq a b) refl (λ same. not_both (has_kept previous new.0.name) new.2 (has_kept_of previous new.0.name (old.0, old.1, old.2, sym old.3 ∙ same ∙ new.3)))

names_differ : (previous : List Feed) (found : List Found) → DifferentNames (feed_names previous) → DifferentNames (found_names found) → DifferentNames (feed_names (collected previous found))
names_differ previous found old new =
    subst DifferentNames (sym (names_append (kept_feeds previous) (map new_feed (new_files previous found)) ∙ ap (λ names. names ++ feed_names (map new_feed (new_files previous found))) (names_of_kept (filter is_kept previous)) ∙ ap (λ names. feed_names (filter is_kept previous) ++ names) (names_of_new (new_files previous found))))
    (distinct_append (pointwise nat_eq) (feed_names (filter is_kept previous)) (found_names (new_files previous found))
    (distinct_fewer (λ (feed : Feed). feed.name) is_kept (pointwise nat_eq) previous old)
    (distinct_fewer (λ (file : Found). file.name) (λ (file : Found). not (has_kept previous file.name)) (pointwise nat_eq) found new)
    (kept_and_new previous found))

-- ---- files that aren't read

refused_kept : (feed : Feed) (kind : FeedKind) → EndsRefused kind feed → is_kept feed ≡ true → EndsRefused kind (kept feed)
refused_kept feed Vertex h k = tt
refused_kept feed Edge h k = tt
refused_kept feed (Refused code column) h k = not_true (sym (ap (λ s. is_completed s || nat_lt 0 feed.taken) h.0 ∙ ap (λ n. nat_lt 0 n) h.1) ∙ k)

refused_new : (file : Found) (kind : FeedKind) → file.kind ≡ kind → EndsRefused kind (new_feed file)
refused_new file Vertex is = tt
refused_new file Edge is = tt
refused_new file (Refused code column) is = (ap (λ k. (new_feed (record file { kind = k })).status) is, refl)

refused_ends : (previous : List Feed) (found : List Found) → All (λ feed. EndsRefused feed.kind feed) previous → (feed : Feed) → IsCarriedFeed previous found feed → EndsRefused feed.kind feed
refused_ends previous found all feed (inl of) =
    subst (λ (f : Feed). EndsRefused f.kind f) (sym of.3) (refused_kept of.0 of.0.kind (All-contains (λ (f : Feed). EndsRefused f.kind f) previous of.0 all of.1) of.2)
refused_ends previous found all feed (inr of) = subst (λ (f : Feed). EndsRefused f.kind f) (sym of.3) (refused_new of.0 of.0.kind refl)

-- ---- in order

flips : (x y : List ℕ) → pointwise nat_eq x y ≡ pointwise nat_eq y x
flips x y = nat_list_eq_equiv.symm x y

sorted_names : (xs ys : List Feed) → IsPermutation xs ys → DifferentNames (feed_names xs) → DifferentNames (feed_names ys)
sorted_names xs ys same apart = IsDistinct-IsPermutation (pointwise nat_eq) flips (feed_names xs) (feed_names ys) (IsPermutation-map (λ (f : Feed). f.name) xs ys same) apart

module _ (previous : List Feed) (found : List Found) (are : AreFeeds previous) (apart : DifferentNames (found_names found)) where
  carried_by : (feeds : List Feed) → IsPermutation (collected previous found) feeds → IsStrictlySortedBy feed_cmp feeds → AreCarried previous found feeds
  carried_by feeds same up =
      record {
        each = λ feed. (
          λ h. collected_is previous found feed (Contains-permutation feeds (collected previous found) feed (IsPermutation-sym _ _ same) h),
          λ h. Contains-permutation (collected previous found) feeds feed same (is_collected previous found feed h),
        );
        ordered = up;
      }

  pub carried_in_order : (feeds : List Feed) → IsPermutation (collected previous found) feeds → IsSorted feed_cmp feeds → AreCarried previous found feeds
  carried_in_order feeds same up = carried_by feeds same (strictly feeds up (sorted_names _ _ same (names_differ previous found are.names apart)))

  pub feeds_again : (feeds : List Feed) → IsPermutation (collected previous found) feeds → AreFeeds feeds
  feeds_again feeds same =
      record {
        names = sorted_names _ _ same (names_differ previous found are.names apart);
        refused = All-weaker (Contains feeds) (λ (f : Feed). EndsRefused f.kind f) (λ feed h. refused_ends previous found are.refused feed (collected_is previous found feed (Contains-permutation feeds (collected previous found) feed (IsPermutation-sym _ _ same) h))) feeds (All-contains_itself feeds);
      }

  -- there is such a list, as long as what is collected
  pub carried_there : (feeds : List Feed) × AreCarried previous found feeds × (length feeds ≡ length (collected previous found))
  carried_there =
      let same : IsPermutation (collected previous found) (placed (collected previous found)) = placed_permutes (collected previous found) in
      (placed (collected previous found), carried_by _ same (placed_strict _ (names_differ previous found are.names apart)), length_permutation _ _ same)

  -- what is carried on are the feeds of a job
  pub carried_feeds : (feeds : List Feed) → AreCarried previous found feeds → AreFeeds feeds
  carried_feeds feeds carried =
      let same : IsPermutation (collected previous found) (placed (collected previous found)) = placed_permutes (collected previous found) in
      let one : AreCarried previous found (placed (collected previous found)) = carried_by _ same (placed_strict _ (names_differ previous found are.names apart)) in
      subst AreFeeds (same_members (placed (collected previous found)) feeds one.ordered carried.ordered (λ f h. (carried.each f).1 ((one.each f).0 h)) (λ f h. (one.each f).1 ((carried.each f).0 h)))
      (feeds_again (placed (collected previous found)) same)
