-- What a call does to the bytes of a source or a sink, where they are told.
use Rattle.std.specs.Prelude.{
  ◌≡◌,
  ◌↔◌,
  ℕ,
  ◌≤◌,
  List,
  [],
  ◌++◌,
  length,
  take,
  drop,
  Result,
  Ok,
  Err,
  None,
  Some,
}
use Rattle.std.specs.declared.option.Option.{Option}
use Rattle.bl_outside.specs.declared.refusals.Failed.{Failed}

-- `take` moves the first bytes that are left into the room. It gives 0 exactly where none is left.
abbrev pub Takes : Option (List ℕ) → Option (List ℕ) → Result ℕ Failed → List ℕ → Type 0
Takes None new result room = new ≡ None
Takes (Some left) new (Ok n) room = (take n room ≡ take n left) × (n ≤ length left)
    × (new ≡ Some (drop n left)) × (n ≡ 0 ↔ left ≡ [])
Takes (Some left) new (Err e) room = new ≡ Some left

-- `put` writes the whole piece, or where it fails a front of it.
abbrev pub Puts : Option (List ℕ) → Option (List ℕ) → List ℕ → Result (Unit {0}) Failed → Type 0
Puts None new piece result = new ≡ None
Puts (Some written) new piece (Ok done) = new ≡ Some (written ++ piece)
Puts (Some written) new piece (Err e) = (n : ℕ) × (new ≡ Some (written ++ take n piece))
