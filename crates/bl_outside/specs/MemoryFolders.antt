-- Files in memory.
use Rattle.std.specs.Prelude.{
  ◌≡◌,
  ℕ,
  ◌<◌,
  ◌≤◌,
  Bool,
  false,
  ◌||◌,
  ◌&&◌,
  not,
  cond,
  nat_eq,
  List,
  [],
  ◌∷◌,
  ◌++◌,
  length,
  take,
  drop,
  refl,
  map,
}
use Rattle.std.specs.Coded.{Coded, code_by, coded×, coded_ℕ, coded_list}
use Rattle.std.specs.List.{list_any}
use Rattle.std.specs.Cmp.Lexicographic.{pointwise}
use Rattle.std.specs.FinMap as finite
use Rattle.bl_outside.specs.Folders.{Files}
use Rattle.bl_outside.specs.Plans.{Plan, plan_code}
use Rattle.bl_outside.specs.declared.listing.Piece.{Piece}
use Rattle.bl_outside.specs.declared.listing.Piece.TheVariants.{Missing, Ended, Bytes}

-- The files, how often a call failed, and which calls are to fail.
pub record MemoryFiles : Type 0 where
  pub files : Files
  pub faults : ℕ
  pub plan : Plan

abbrev pub memory_files_code : Coded MemoryFiles
memory_files_code =
    code_by (Files × (ℕ × Plan)) (coded× (finite.code (coded_list coded_ℕ) (coded_list coded_ℕ))
    (coded× coded_ℕ plan_code)) (λ f. (f.files, (f.faults, f.plan)))
    (λ p. record { files = p.0; faults = p.1.0; plan = p.1.1 }) (λ _. refl)

abbrev pub no_files : Plan → MemoryFiles
no_files plan = record { files = finite.empty; faults = 0; plan = plan }

abbrev pub with_file : MemoryFiles → List ℕ → List ℕ → MemoryFiles
with_file old path bytes = record {
  files = finite.insert old.files path bytes;
  faults = old.faults;
  plan = old.plan;
}

-- the path begins with the front
abbrev pub is_inside : List ℕ → List ℕ → Bool
is_inside front path = pointwise nat_eq (take (length front) path) front

-- not empty, and without a slash
abbrev pub is_plain : List ℕ → Bool
is_plain name = not (nat_eq (length name) 0 || list_any (λ b. nat_eq b 47) name)

-- the name that the path gives under the front, as a list of none or one
abbrev pub name_in : List ℕ → List ℕ → List (List ℕ)
name_in front path = cond (is_inside front path && is_plain (drop (length front) path))
    (drop (length front) path ∷ []) []

abbrev pub names_in : List ℕ → List (List ℕ) → List (List ℕ)
names_in front [] = []
names_in front (path ∷ paths) = name_in front path ++ names_in front paths

abbrev pub any_inside : List ℕ → List (List ℕ) → Bool
any_inside front [] = false
any_inside front (path ∷ paths) = is_inside front path || any_inside front paths

abbrev pub paths : List (List ℕ × List ℕ) → List (List ℕ)
paths es = map (λ e. e.0) es

-- the part of the bytes from a place on
abbrev pub IsPart : List ℕ → ℕ → Piece → Type 0
IsPart bytes at Missing = ⊥
IsPart bytes at Ended = length bytes ≤ at
IsPart bytes at (Bytes piece) = (at < length bytes) × (piece ≡ take (length piece) (drop at bytes))
