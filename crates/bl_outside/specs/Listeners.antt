-- What a listener hands out, and what is handed back to it.
use Rattle.std.specs.Prelude.{◌≡◌, ℕ, List, [], ◌∷◌, ◌++◌, None, Some}
use Rattle.std.specs.declared.option.Option.{Option}

-- what is left of a connection: the bytes that it wrote, and its two counts of faults
pub record Handed : Type 0 where
  pub written : List ℕ
  pub source_faults : ℕ
  pub sink_faults : ℕ

-- the first input is taken out. The connection holds just this one, has written nothing and has
-- never failed
abbrev pub Accepts : Option (List (List ℕ)) → Option (List (List ℕ)) → Option (List ℕ) →
    Option (List ℕ) → ℕ → ℕ → Type 0
Accepts None new left written source_faults sink_faults = new ≡ None
Accepts (Some coming) new left written source_faults sink_faults =
    (input : List ℕ) × (rest : List (List ℕ)) × (coming ≡ input ∷ rest) × (new ≡ Some rest)
    × (left ≡ Some input) × (written ≡ Some []) × (source_faults ≡ 0) × (sink_faults ≡ 0)

-- what the connection wrote and its counts are added at the end
abbrev pub Retires : Option (List Handed) → Option (List Handed) → Option (List ℕ) → ℕ → ℕ → Type 0
Retires None new written source_faults sink_faults = new ≡ None
Retires (Some retired) new written source_faults sink_faults =
    (bytes : List ℕ) × (written ≡ Some bytes)
    × (new ≡ Some (retired ++ record {
      written = bytes;
      source_faults = source_faults;
      sink_faults = sink_faults;
    } ∷ []))
