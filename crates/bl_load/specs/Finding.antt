-- What is found at the source of a load.
use Rattle.std.specs.Prelude.{◌≡◌, ◌⊎◌, ◌↔◌, ◌≤◌, ℕ, nat_eq, Bool, true, false, List, [], ◌∷◌, ◌++◌, length, None, Some, IsSome}
use Rattle.std.specs.declared.option.Option.{Option}
use Rattle.std.specs.Ordering.{nat_cmp}
use Rattle.std.specs.Cmp.Lexicographic.{pointwise, slice_cmp}
use Rattle.std.specs.List.{All, AllZip, Contains, IsDistinct}
use Rattle.std.specs.List.Sorted.{IsStrictlySortedBy}
use Rattle.std.specs.FinMap.{get}
use Rattle.bl_outside.specs.Folders.{Files, HasInside, IsNameIn}
use Rattle.bl_outside.specs.Texts.{IsShortText}
use Rattle.bl_files.specs.Carried.{EndsRefused, HasKept, is_kept}
use Rattle.bl_files.specs.Codes.{has_file_code}
use Rattle.bl_files.specs.Plans.{HaveFileCodes, NamesRise}
use Rattle.bl_files.specs.declared.feed.Feed.{Feed}
use Rattle.bl_files.specs.declared.found.Found.{Found}
use Rattle.bl_entry.specs.Valid.{IsFound}
use Rattle.bl_rows.specs.Contents.{Fields}
use Rattle.bl_chain.specs.Tables.{Table, is_unread}
use Rattle.bl_chain.specs.Folders.{IsContentTable, IsFileTable}
use Rattle.bl_load.specs.SourceFiles.{file_path}
use Rattle.bl_load.specs.declared.finding.Kept.{Kept}
use Rattle.bl_load.specs.declared.finding.Finding.{Finding}
use Rattle.bl_load.specs.declared.finding.Finding.TheVariants as finding

-- The feed of this name is kept, and the file is listed with its kind and its digest.
abbrev pub IsFoundKept : List Feed → List ℕ → Found → Type 0
IsFoundKept previous name file =
    (old : Feed) × Contains previous old × (is_kept old ≡ true) × (old.name ≡ name) × (file ≡ record { name = name; kind = old.kind; digest = old.digest })

-- No feed of this name is kept, and the file is listed with the kind and the digest that it has.
abbrev pub IsFoundAnew : Files → List ℕ → List Feed → List ℕ → Found → Type 0
IsFoundAnew files path previous name file =
    (¬ HasKept previous name)
    × (bytes : List ℕ)
    × (get files (file_path path name) ≡ Some bytes)
    × (table : Table)
    × IsFileTable (file_path path name) name bytes table
    × (file ≡ table.found)

-- what a plan says of the file of this name
abbrev pub IsFoundAt : Files → List ℕ → List Feed → List ℕ → Found → Type 0
IsFoundAt files path previous name file = IsFoundKept previous name file ⊎ IsFoundAnew files path previous name file

-- The same of a file that is there.
abbrev pub Finds : Files → List ℕ → List Feed → List ℕ → Finding → Type 0
Finds files path previous name (finding.Found file) = IsFoundAt files path previous name file
Finds files path previous name finding.Gone = ⊥
Finds files path previous name finding.Fault = Unit {0}

-- The file may stand in an entry under this name, and where it isn't read it has the code of a file.
pub record MayBeListed (name : List ℕ) (file : Found) : Type 0 where
  pub name_is : file.name ≡ name
  pub valid : IsFound file
  pub code : has_file_code file.kind ≡ true

abbrev pub MayBeFinding : List ℕ → Finding → Type 0
MayBeFinding name (finding.Found file) = MayBeListed name file
MayBeFinding name finding.Gone = Unit {0}
MayBeFinding name finding.Fault = Unit {0}

-- no file that isn't read was kept
abbrev pub AreEnded : List Feed → Type 0
AreEnded previous = All (λ feed. EndsRefused feed.kind feed) previous

abbrev pub IsFindingFault : Finding → Type 0
IsFindingFault (finding.Found file) = ⊥
IsFindingFault finding.Gone = ⊥
IsFindingFault finding.Fault = Unit {0}

-- the feed of this name is kept, with this kind and digest, and it was read
pub record IsKeptAs (previous : List Feed) (name : List ℕ) (kept : Kept) : Type 0 where
  pub old : Feed
  pub there : Contains previous old
  pub is : is_kept old ≡ true
  pub name_is : old.name ≡ name
  pub kept_is : kept ≡ record { kind = old.kind; digest = old.digest }
  pub read : is_unread old.kind ≡ false

-- it is listed with the kind and the digest that its records give
abbrev pub IsContentFound : List ℕ → List Fields → Found → Type 0
IsContentFound name all file = (table : Table) × IsContentTable name all table × (file ≡ table.found)

-- ---- all files of a source

-- each name is below the next one, by their bytes
abbrev pub AreRising : List (List ℕ) → Type 0
AreRising names = IsStrictlySortedBy (slice_cmp nat_cmp) names

-- The names of the files at a path: the empty one, where it is one file, else those that lie directly in the folder there.
abbrev pub AreNamesAt : Files → List ℕ → List (List ℕ) → Type 0
AreNamesAt files path names =
    (IsSome (get files path) × (names ≡ [] ∷ []))
    ⊎ ((get files path ≡ None) × HasInside files path × ((name : List ℕ) → Contains names name ↔ IsNameIn files path name))

-- Each name is listed, and nothing else.
abbrev pub AreFound : Option Files → List ℕ → List Feed → List (List ℕ) → List Found → Type 0
AreFound None path previous names found = Unit {0}
AreFound (Some files) path previous names found = AllZip (IsFoundAt files path previous) names found

-- ---- a plan of names

-- A file of this name was added, or none.
abbrev pub AddsFound : List ℕ → List Found → List Found → Bool → Type 0
AddsFound name old new done = (new ≡ old) ⊎ ((file : Found) × MayBeListed name file × (new ≡ old ++ file ∷ []))

-- Where there is a file of this name, it was added as it is found, unless the folder failed.
abbrev pub AddsFoundAt : Files → List ℕ → List Feed → List ℕ → List Found → List Found → Bool → Type 0
AddsFoundAt files path previous name old new done =
    IsSome (get files (file_path path name)) → done ≡ true → (file : Found) × IsFoundAt files path previous name file × (new ≡ old ++ file ∷ [])

-- there is a file of each name
abbrev pub AreAllThere : Files → List ℕ → List (List ℕ) → Type 0
AreAllThere files path names = All (λ name. IsSome (get files (file_path path name))) names

-- Names that a listing may have.
pub record AreListed (names : List (List ℕ)) : Type 0 where
  pub texts : All IsShortText names
  pub differ : IsDistinct (pointwise nat_eq) names

-- The files may stand in an entry: no more than there are names, each valid, and their names rise.
pub record MayBePlanned (names : List (List ℕ)) (found : List Found) : Type 0 where
  pub few : length found ≤ length names
  pub valid : All IsFound found
  pub codes : HaveFileCodes found
  pub rise : NamesRise found
