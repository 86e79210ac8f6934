-- Items without repeats.
use Rattle.std.specs.Prelude.{◌≡◌, Bool, if◌then◌else◌, List, [], ◌∷◌, ◌++◌, Option, None, Some}
use Rattle.std.specs.declared.cmp.Ordering.{Ordering}
use Rattle.std.specs.List.{list_any}
use Rattle.std.specs.Ordering.{eq_by_cmp}
use Rattle.std.specs.BTreeSet.{BTreeSet, contains}

-- items without those that are like one further left
abbrev pub once_behind : {X : Type 0} → (X → X → Bool) → List X → List X → List X
once_behind alike left [] = []
once_behind alike left (item ∷ items) =
    if list_any (λ other. alike other item) left then once_behind alike left items
    else item ∷ once_behind alike (left ++ item ∷ []) items

-- a set has the items of a list
abbrev pub HasEach : {X : Type 0} → (X → X → Ordering) → BTreeSet X → List X → Type 0
HasEach {X} cmp seen items = (item : X) →
    contains cmp seen item ≡ list_any (λ other. eq_by_cmp cmp other item) items

-- the same of a set that may not be kept
abbrev pub MayHaveEach : {X : Type 0} → (X → X → Ordering) → Option (BTreeSet X) → List X → Type 0
MayHaveEach cmp None items = Unit {0}
MayHaveEach cmp (Some seen) items = HasEach cmp seen items
