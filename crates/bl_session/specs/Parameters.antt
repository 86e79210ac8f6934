-- The parameters of a request, of which the first of a name counts.
use Rattle.std.specs.Prelude.{ℕ, Bool, if◌then◌else◌, None, Some, List, [], ◌∷◌}
use Rattle.std.specs.declared.option.Option.{Option}
use Rattle.bl_feed.specs.LoadBodies.{is, truth_in}

-- names with their values
abbrev pub Query : Type 0
Query = List (List ℕ × List ℕ)

-- the first value of a name
abbrev pub value_of : List ℕ → List (List ℕ × List ℕ) → Option (List ℕ)
value_of name [] = None
value_of name (pair ∷ pairs) = if is pair.0 name then Some pair.1 else value_of name pairs

-- a truth value, or the default where none is given
abbrev pub truth_or : Bool → Option (List ℕ) → Option Bool
truth_or default None = Some default
truth_or default (Some text) = truth_in text
