-- Items without repeats: what going through them from the left gives.
use Rattle.std.proofs.Common.{◌≡◌, List, [], ◌∷◌, ◌++◌, Bool, true, false, cond, refl, sym, ap, ◌∙◌, append_assoc, subst}
use Rattle.std.specs.Prelude.{◌||◌}
use Rattle.std.specs.List.{All, IsDistinct, list_any}
use Rattle.std.specs.Cmp.{IsEquivalence}
use Rattle.std.specs.Ordering.{eq_by_cmp, is_eq}
use Rattle.std.specs.declared.cmp.Ordering.{Ordering}
use Rattle.std.specs.BTreeSet.{BTreeSet, Updates}
use Rattle.std.proofs.lemmas.List.{append-nil}
use Rattle.std.proofs.lemmas.List.Elements.{All-cons, All-head, All-nil, All-tail}
use Rattle.std.proofs.lemmas.List.Folds.{list_any-append}
use Rattle.std.proofs.lemmas.Map.Keys.{IsDistinct-push}
use Rattle.bl_value.specs.Once.{HasEach, once_behind}

-- an item that is there adds none
pub item_there : {X : Type 0} (alike : X → X → Bool) (items : List X) (item : X) → list_any (λ other. alike other item) items ≡ true
    → items ≡ items ++ once_behind alike items (item ∷ [])
item_there alike items item is = rw is (sym (append-nil items))

-- a new one adds itself
pub item_new : {X : Type 0} (alike : X → X → Bool) (items : List X) (item : X) → list_any (λ other. alike other item) items ≡ false
    → items ++ item ∷ [] ≡ items ++ once_behind alike items (item ∷ [])
item_new alike items item is = rw is refl

either : (first second : Bool) → cond first true second ≡ (second || (first || false))
either true true = refl
either true false = refl
either false true = refl
either false false = refl

-- A set that has the items has them and one more after its insertion.
pub has_more : {X : Type 0} (cmp : X → X → Ordering) (old new : BTreeSet X) (items : List X) (item : X) → Updates cmp old new item true
    → HasEach cmp old items → HasEach cmp new (items ++ item ∷ [])
has_more cmp old new items item updates has other =
    updates.0 other
    ∙ ap (λ found. cond (is_eq (cmp item other)) true found) (has other)
    ∙ either (is_eq (cmp item other)) (list_any (λ one. eq_by_cmp cmp one other) items)
    ∙ sym (list_any-append (λ one. eq_by_cmp cmp one other) items (item ∷ []))

-- items that follow others
pub once_more : {X : Type 0} (alike : X → X → Bool) (left items more : List X)
    → left ++ once_behind alike left (items ++ more) ≡ (left ++ once_behind alike left items) ++ once_behind alike (left ++ once_behind alike left items) more
once_more alike left [] more = ap (λ front. front ++ once_behind alike front more) (sym (append-nil left))
once_more {X} alike left (item ∷ items) more =
    by (list_any (λ other. alike other item) left) (once_more alike left items more) (once_more alike (left ++ item ∷ []) items more)
  where
    by : (test : Bool)
        → left ++ once_behind alike left (items ++ more) ≡ (left ++ once_behind alike left items) ++ once_behind alike (left ++ once_behind alike left items) more
        → (left ++ item ∷ []) ++ once_behind alike (left ++ item ∷ []) (items ++ more)
        ≡ ((left ++ item ∷ []) ++ once_behind alike (left ++ item ∷ []) items) ++ once_behind alike ((left ++ item ∷ []) ++ once_behind alike (left ++ item ∷ []) items) more
        → left ++ cond test (once_behind alike left (items ++ more)) (item ∷ once_behind alike (left ++ item ∷ []) (items ++ more))
        ≡ (left ++ cond test (once_behind alike left items) (item ∷ once_behind alike (left ++ item ∷ []) items))
        ++ once_behind alike (left ++ cond test (once_behind alike left items) (item ∷ once_behind alike (left ++ item ∷ []) items)) more
    by true skipped kept = skipped
    by false skipped kept =
        sym (append_assoc left (item ∷ []) (once_behind alike (left ++ item ∷ []) (items ++ more)))
        ∙ kept
        ∙ ap (λ front. front ++ once_behind alike front more) (append_assoc left (item ∷ []) (once_behind alike (left ++ item ∷ []) items))

-- what holds of all items holds of each once
pub all_once : {X : Type 0} (P : X → Type 0) (alike : X → X → Bool) (left items : List X) → All P items → All P (once_behind alike left items)
all_once P alike left [] all = All-nil P
all_once {X} P alike left (item ∷ items) all =
    by (list_any (λ other. alike other item) left) (all_once P alike left items (All-tail P item items all)) (all_once P alike (left ++ item ∷ []) items (All-tail P item items all))
  where
    by : (test : Bool) → All P (once_behind alike left items) → All P (once_behind alike (left ++ item ∷ []) items)
        → All P (cond test (once_behind alike left items) (item ∷ once_behind alike (left ++ item ∷ []) items))
    by true skipped kept = skipped
    by false skipped kept = All-cons P item _ (All-head P item items all) kept

-- a test that is turned round finds the same
any_turned : {X : Type 0} (alike : X → X → Bool) → IsEquivalence alike → (x : X) (xs : List X) → list_any (λ other. alike other x) xs ≡ list_any (alike x) xs
any_turned alike laws x [] = refl
any_turned alike laws x (y ∷ ys) = (λ i. laws.symm y x i || any_turned alike laws x ys i)

-- items, each once, differ, where the test is an equality
pub once_apart : {X : Type 0} (alike : X → X → Bool) → IsEquivalence alike → (left items : List X) → IsDistinct alike left → IsDistinct alike (left ++ once_behind alike left items)
once_apart alike laws left [] apart = subst (IsDistinct alike) (sym (append-nil left)) apart
once_apart {X} alike laws left (item ∷ items) apart =
    by (list_any (λ other. alike other item) left) refl (once_apart alike laws left items apart) (once_apart alike laws (left ++ item ∷ []) items)
  where
    by : (test : Bool) → list_any (λ other. alike other item) left ≡ test → IsDistinct alike (left ++ once_behind alike left items)
        → (IsDistinct alike (left ++ item ∷ []) → IsDistinct alike ((left ++ item ∷ []) ++ once_behind alike (left ++ item ∷ []) items))
        → IsDistinct alike (left ++ once_behind alike left (item ∷ items))
    by true is skipped more = rw is skipped
    by false is skipped more =
        rw is (subst (IsDistinct alike) (append_assoc left (item ∷ []) (once_behind alike (left ++ item ∷ []) items))
        (more (IsDistinct-push laws left item apart (sym (any_turned alike laws item left) ∙ is))))

pub none_apart : {X : Type 0} (alike : X → X → Bool) → IsDistinct alike []
unfolding IsDistinct
none_apart alike = tt
