-- The rule that a turnstile keeps between any two steps, in five clauses. Word 0 is the number that
-- is served, word 1 the next ticket, and slot 0 has the value. Views are those of all seats that
-- were ever made.
use Rattle.std.specs.Prelude.{◌≡◌, ℕ, ◌+◌, ◌<◌, ◌≤◌, ◌^◌, true, false, List, [], ◌∷◌, length, slice_index, Some, None}
use Rattle.std.specs.Option.{unwrap_or}
use Rattle.std.specs.declared.option.Option.{Option}
use mathlib.Core.Option.{none, some}
use lib.ListN.{get_elem?}
use Rattle.atomic_table.specs.Table.{State}
use Rattle.bl_turnstile.specs.Entries.{Entries, IsPrefix, one, times}
use Rattle.bl_turnstile.specs.declared.standing.Standing.{Standing}

-- a number of each view, added up
abbrev pub total : (Standing → ℕ) → List Standing → ℕ
total f [] = 0
total f (v ∷ vs) = f v + total f vs

abbrev pub holds_ticket : Standing → ℕ
holds_ticket v = one v.waits

-- how often an entry's number stands among the view's own
abbrev pub owns : ℕ → Standing → ℕ
owns x v = times x v.mine

-- a fact of each view
abbrev pub EachView : List Standing → (Standing → Type 0) → Type 0
EachView views P = (i : ℕ) (v : Standing) → get_elem? views i ≡ some v → P v

-- 1. The number that is served and the number of views with a ticket add up to the next ticket, so
-- none is lost. These tickets differ, are not served yet or are being served, and were drawn.
pub record Tickets (words : List ℕ) (views : List Standing) : Type 0 where
  pub counted : slice_index words 0 + total holds_ticket views ≡ slice_index words 1
  pub small : slice_index words 1 < 2 ^ 64
  pub within : EachView views (λ v. v.waits ≡ true →
      (slice_index words 0 ≤ v.ticket) × (v.ticket < slice_index words 1))
  pub differ : (i j : ℕ) (v w : Standing) → get_elem? views i ≡ some v →
      get_elem? views j ≡ some w → v.waits ≡ true → w.waits ≡ true → v.ticket ≡ w.ticket → i ≡ j

-- 2. A view is inside only where its ticket is the one that is served, so at most one is. The slot
-- is empty only while the view that is inside has the value.
pub record OneInside {S : Type 0} (words : List ℕ) (homes : List (mathlib.Core.Option.Option S))
    (views : List Standing) : Type 0 where
  pub served : EachView views (λ v. v.inside ≡ true →
      (v.waits ≡ true) × (v.ticket ≡ slice_index words 0))
  pub holder : EachView views (λ v. v.has ≡ true → v.inside ≡ true)
  pub out : EachView views (λ v. v.has ≡ true → get_elem? homes 0 ≡ some none)
  pub full : EachView views (λ v. v.has ≡ false) → (y : S) × (get_elem? homes 0 ≡ some (some y))

-- 3. One list is meant. The value stands for it while it lies in the slot. While a view is inside
-- it is what that view announced, or else has seen. No other view has announced anything.
pub record Meant {T : Type 0} (stands : T → Entries → Type 0) (entries : Entries)
    (homes : List (mathlib.Core.Option.Option (Option T))) (views : List Standing) : Type 0 where
  pub home : (y : Option T) → get_elem? homes 0 ≡ some (some y) →
      (value : T) × (y ≡ Some value) × stands value entries
  pub here : EachView views (λ v. v.inside ≡ true → entries ≡ unwrap_or v.bound v.seen)
  pub unbound : EachView views (λ v. v.inside ≡ false → v.bound ≡ None)

-- 4. What any view has seen is a front of the list that is meant, and of what the view that is
-- inside has seen. So of any two one begins the other. What is noted of another view begins what
-- the view has seen.
pub record AreFronts (entries : Entries) (views : List Standing) : Type 0 where
  pub each : EachView views (λ v. IsPrefix v.seen entries)
  pub longest : EachView views (λ v. v.inside ≡ true → EachView views (λ w. IsPrefix w.seen v.seen))
  pub noted : EachView views (λ v. IsPrefix v.note v.seen)

-- 5. No entry is a view's own twice, nor two views' own, and each that is names an entry that its
-- view has seen.
pub record Numbers (views : List Standing) : Type 0 where
  pub once : (x : ℕ) → total (owns x) views ≤ 1
  pub named : EachView views (λ v. (x : ℕ) → 0 < times x v.mine → (0 < x) × (x ≤ length v.seen))

pub record IsTurn {T : Type 0} (stands : T → Entries → Type 0) (s : State (Option T) Standing) :
    Type 0 where
  pub words : length s.words ≡ 2
  pub slots : length s.homes ≡ 1
  pub tickets : Tickets s.words s.views
  pub one_inside : OneInside s.words s.homes s.views
  pub entries : Entries
  pub meant : Meant stands entries s.homes s.views
  pub fronts : AreFronts entries s.views
  pub numbers : Numbers s.views
