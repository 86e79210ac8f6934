-- Sets and values by number, and what they are by the texts that have those numbers.
use Rattle.std.specs.Prelude.{◌≡◌, ℕ, ◌+◌, ◌==◌, ◌≤◌, false, if◌then◌else◌, List, [], ◌∷◌, ◌++◌, Some, None}
use Rattle.std.specs.declared.option.Option.{Option}
use Rattle.std.specs.declared.cmp.Ordering.{Ordering}
use Rattle.std.specs.Option.{unwrap_or}
use Rattle.std.specs.Ordering.{nat_cmp}
use Rattle.std.specs.FinMap as map
use Rattle.bl_outside.specs.OrderedSet as set
use Rattle.bl_value.specs.declared.value.Value.{Value}
use Rattle.bl_graph.specs.Graph.{Values, ByText}
use Rattle.bl_graph.specs.Sizes.{total}

-- a map from numbers
abbrev pub ByNumber : Type 0 → Type 0
ByNumber X = map.FinMap nat_cmp X

-- the map of some entries
abbrev pub by_number : {X : Type 0} → List (ℕ × X) → ByNumber X
by_number entries = map.from_entries entries

abbrev pub without : {X : Type 0} → ByNumber X → ℕ → ByNumber X
without all key = map.remove all key

-- the values at one number
abbrev pub at_number : ByNumber Values → ℕ → Values
at_number all number = unwrap_or (map.get all number) set.empty

-- the map with this at a key, or with nothing there
abbrev pub written : {K X : Type 0} {R : K → K → Ordering} → map.FinMap R X → K → Option X →
    map.FinMap R X
written all key (Some x) = map.insert all key x
written all key None = map.remove all key

-- a map that has something
abbrev pub filled : {K X : Type 0} {R : K → K → Ordering} → map.FinMap R X → Option (map.FinMap R X)
filled all = if map.len all == 0 then None else Some all

-- values that were given one by one, each with its number
abbrev pub nested : List (ℕ × Value) → ByNumber Values
nested [] = map.empty
nested (pair ∷ pairs) = map.insert (nested pairs) pair.0
    (set.insert (at_number (nested pairs) pair.0) pair.1)

-- no value is given twice
abbrev pub AreOnce : List (ℕ × Value) → Type 0
AreOnce [] = Unit {0}
AreOnce (pair ∷ pairs) = (set.contains (at_number (nested pairs) pair.0) pair.1 ≡ false)
    × AreOnce pairs

abbrev pub values_count : ByNumber Values → ℕ
values_count all = total set.len (map.values all)

-- what stands at each name, where the names have the numbers from this one on
abbrev pub named_from : {X : Type 0} → ℕ → List (List ℕ) → ByNumber X → ByText X
named_from number [] all = map.empty
named_from number (name ∷ names) all =
    written (named_from (number + 1) names all) name (map.get all number)

-- What stands at the number of each name.
abbrev pub named : {X : Type 0} → List (List ℕ) → ByNumber X → ByText X
named names all = named_from 0 names all

-- names, and perhaps more behind them
abbrev pub IsFront : {X : Type 0} → List X → List X → Type 0
IsFront {X} xs ys = (more : List X) × (ys ≡ xs ++ more)

-- nothing has a number from this one on
abbrev pub IsBelow : {X : Type 0} → ℕ → ByNumber X → Type 0
IsBelow {X} count all = (number : ℕ) → count ≤ number → map.get all number ≡ None
