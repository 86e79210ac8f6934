-- What a step of each kind tells the one that makes it, who knew `m` before it and knows `m'` after
-- it, each with the slots that are out with its seat. The number found is that of the word.
use Rattle.std.specs.Prelude.{◌≡◌, ◌≢◌, ℕ, ◌++◌, [], ◌∷◌, Some}
use Rattle.std.specs.declared.option.Option.{Option}
use Rattle.atomic_table.specs.Table.{Me, Step}
use Rattle.bl_turnstile.specs.Entries.{Entries, IsPrefix, AreOwn, added}
use Rattle.bl_turnstile.specs.Views.{idle, waiting, inside, having, bound_to, back}
use Rattle.bl_turnstile.specs.declared.standing.Standing.{Standing}

module _ {T : Type 0} (stands : T → Entries → Type 0) where
  -- a compare and exchange of the next ticket: a hit draws the number found, a miss tells nothing
  abbrev pub Draws : Step (Option T) → Me (Option T) Standing → ℕ → Me (Option T) Standing → Type 0
  Draws st m found m' = (found ≡ st.first → m' ≡ (waiting found m.0.seen m.0.mine, m.1))
      × (found ≢ st.first → m' ≡ m)

  -- a load of the number that is served: where it is the own one, the holder is inside, and has
  -- seen all
  abbrev pub Looks : Step (Option T) → Me (Option T) Standing → ℕ → Me (Option T) Standing → Type 0
  Looks st m found m' = (found ≡ m.0.ticket →
      (entries : Entries) × IsPrefix m.0.seen entries × (m' ≡ (inside found entries m.0.mine, [])))
      × (found ≢ m.0.ticket → m' ≡ m)

  -- the value comes out of its slot, and stands for what was seen
  abbrev pub Takes : Step (Option T) → Me (Option T) Standing → ℕ → Me (Option T) Standing → Type 0
  Takes st m found m' = (value : T) × stands value m.0.seen
      × (m' ≡ (having m.0.ticket m.0.seen m.0.mine, (0, Some value) ∷ []))

  -- the entries are named for which the value, still out, now stands
  abbrev pub Announces : Step (Option T) → Me (Option T) Standing → ℕ → Me (Option T) Standing →
      Type 0
  Announces st m found m' = (value : T) × (entries : Entries) × (m.1 ≡ (0, Some value) ∷ [])
      × stands value entries × IsPrefix m.0.seen entries
      × (m' ≡ (bound_to m.0.ticket m.0.seen m.0.mine entries, m.1))

  -- the value goes back into its slot
  abbrev pub Puts : Step (Option T) → Me (Option T) Standing → ℕ → Me (Option T) Standing → Type 0
  Puts st m found m' = (entries : Entries) × (m.0.bound ≡ Some entries)
      × (m' ≡ (back m.0.ticket m.0.seen m.0.mine entries, []))

  -- the next ticket is served: what was announced is seen, and what was added is the holder's own
  abbrev pub Raises : Step (Option T) → Me (Option T) Standing → ℕ → Me (Option T) Standing → Type 0
  Raises st m found m' = (entries : Entries) × (m.0.bound ≡ Some entries)
      × AreOwn (m.0.mine ++ added m.0.seen entries) entries
      × (m' ≡ (idle entries (m.0.mine ++ added m.0.seen entries), []))

  -- after a join: what was noted of the other begins what the two have seen
  abbrev pub Settles : Step (Option T) → Me (Option T) Standing → ℕ → Me (Option T) Standing →
      Type 0
  Settles st m found m' = IsPrefix m.0.note m.0.seen × AreOwn m.0.mine m.0.seen
      × (m' ≡ (idle m.0.seen m.0.mine, []))
