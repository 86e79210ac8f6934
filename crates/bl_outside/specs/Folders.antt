-- What the calls of a folder answer.
use Rattle.std.specs.Prelude.{
  ◌≡◌,
  ◌≢◌,
  ◌↔◌,
  ℕ,
  ◌≤◌,
  ◌<◌,
  List,
  [],
  ◌∷◌,
  ◌++◌,
  length,
  nat_eq,
  take,
  drop,
  None,
  Some,
  IsSome,
}
use Rattle.std.specs.declared.option.Option.{Option}
use Rattle.std.specs.List.{All, Contains, IsDistinct}
use Rattle.bl_outside.specs.Texts.{IsShortText}
use Rattle.std.specs.FinMap.{FinMap, get}
use Rattle.std.specs.Ordering.{nat_cmp}
use Rattle.std.specs.Cmp.Lexicographic.{slice_cmp, pointwise}
use Rattle.bl_outside.specs.declared.listing.Listing.{Listing}
use Rattle.bl_outside.specs.declared.listing.Listing.TheVariants.{Missing, OneFile, Names}
use Rattle.bl_outside.specs.declared.listing.Piece.{Piece}
use Rattle.bl_outside.specs.declared.listing.Piece.TheVariants.{Missing as gone, Ended, Bytes}

-- Files by their paths.
abbrev pub Files : Type 0
Files = FinMap (slice_cmp nat_cmp) (List ℕ)

-- The name of a file that lies directly in the folder at the path.
pub record IsNameIn (files : Files) (path name : List ℕ) : Type 0 where
  pub present : IsSome (get files (path ++ 47 ∷ name))
  pub named : name ≢ []
  pub flat : All (λ b. b ≢ 47) name

-- Some path begins with this path and a slash.
abbrev pub HasInside : Files → List ℕ → Type 0
HasInside files path = (rest : List ℕ) × IsSome (get files (path ++ 47 ∷ rest))

-- What `list` answers, where the files are told.
abbrev pub Lists : Option Files → List ℕ → Listing → Type 0
Lists None path _ = Unit {0}
Lists (Some files) path OneFile = IsSome (get files path)
Lists (Some files) path Missing = (get files path ≡ None) × ¬ (HasInside files path)
Lists (Some files) path (Names names) = (get files path ≡ None) × HasInside files path
    × ((name : List ℕ) → Contains names name ↔ IsNameIn files path name)

-- Each name can be a name, and they differ.
pub record AreNames (names : List (List ℕ)) : Type 0 where
  pub texts : All IsShortText names
  pub named : All (λ name. name ≢ []) names
  pub differ : IsDistinct (pointwise nat_eq) names

-- The same of a listing, told or not.
abbrev pub ListsNames : Listing → Type 0
ListsNames Missing = Unit {0}
ListsNames OneFile = Unit {0}
ListsNames (Names names) = AreNames names

-- What `read_at` answers, where the files are told.
abbrev pub ReadsFile : Option Files → List ℕ → ℕ → Piece → Type 0
ReadsFile None path at piece = Unit {0}
ReadsFile (Some files) path at gone = get files path ≡ None
ReadsFile (Some files) path at Ended = (bytes : List ℕ) × (get files path ≡ Some bytes)
    × (length bytes ≤ at)
ReadsFile (Some files) path at (Bytes piece) = (bytes : List ℕ) × (get files path ≡ Some bytes)
    × (at < length bytes) × (piece ≡ take (length piece) (drop at bytes))

-- A piece has a byte or more, and no more than were asked for.
abbrev pub IsPiece : ℕ → Piece → Type 0
IsPiece most (Bytes piece) = (0 < length piece) × (length piece ≤ most)
IsPiece most gone = Unit {0}
IsPiece most Ended = Unit {0}
