-- Text that is written in large pieces.
use Rattle.std.specs.Prelude.{◌≡◌, ℕ, List, ◌++◌, take, None, Some}
use Rattle.std.specs.declared.option.Option.{Option}

-- a fact of what was written before and after, where it is told
abbrev pub Written : Option (List ℕ) → Option (List ℕ) → (List ℕ → List ℕ → Type 0) → Type 0
Written None new P = Unit {0}
Written (Some old) None P = ⊥
Written (Some old) (Some new) P = P old new

-- a text was added whole
abbrev pub Adds : List ℕ → List ℕ → List ℕ → Type 0
Adds text old new = new ≡ old ++ text

-- a front of a text was added
abbrev pub AddsFront : List ℕ → List ℕ → List ℕ → Type 0
AddsFront text old new = (n : ℕ) × (new ≡ old ++ take n text)

-- A text was printed behind what waited: all was written, but for what waits now.
abbrev pub Prints : List ℕ → Option (List ℕ) → List ℕ → Option (List ℕ) → List ℕ → Type 0
Prints text old waited new waits = Written old new (λ before now. (more : List ℕ) × (now ≡ before ++ more) × (more ++ waits ≡ waited ++ text))

-- The same, and this rest of it is still to be printed.
abbrev pub Leaves : List ℕ → List ℕ → Option (List ℕ) → List ℕ → Option (List ℕ) → List ℕ → Type 0
Leaves rest text old waited new waits = Written old new (λ before now. (more : List ℕ) × (now ≡ before ++ more) × ((more ++ waits) ++ rest ≡ waited ++ text))

-- A front of it was written.
abbrev pub PrintsFront : List ℕ → Option (List ℕ) → List ℕ → Option (List ℕ) → Type 0
PrintsFront text old waited new = Written old new (AddsFront (waited ++ text))
