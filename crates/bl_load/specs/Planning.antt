-- The plan of a load.
use Rattle.std.specs.Prelude.{◌≡◌, ◌≤◌, ◌<◌, ℕ, Bool, true, false, List, length, None}
use Rattle.std.specs.List.{AllZip}
use Rattle.std.specs.FinMap.{get}
use Rattle.bl_outside.specs.Folders.{Files, HasInside}
use Rattle.bl_files.specs.Carried.{most_files}
use Rattle.bl_files.specs.declared.feed.Feed.{Feed}
use Rattle.bl_files.specs.declared.plan_result.PlanResult.{PlanResult}
use Rattle.bl_files.specs.declared.plan_result.PlanResult.TheVariants.{Feeds, NoPrevious, SourceNotFound, ListFault, TooManyFiles}
use Rattle.bl_entry.specs.Valid.{IsPlan}
use Rattle.bl_world.specs.Worlds.{ArePlanned}
use Rattle.bl_load.specs.Finding.{AreListed, AreNamesAt, AreRising, IsFoundAt}

-- it may be recorded
abbrev pub MayBePlan : PlanResult → Type 0
MayBePlan planned = ArePlanned planned × IsPlan planned

-- The names at a path, from the first on.
pub record AreRisingAt (files : Files) (path : List ℕ) (names : List (List ℕ)) : Type 0 where
  pub are : AreNamesAt files path names
  pub rising : AreRising names

-- The plan of the files at the path: too many names, or the files, by their names.
abbrev pub IsPlanOfNames : Files → List ℕ → List Feed → PlanResult → Type 0
IsPlanOfNames files path previous NoPrevious = ⊥
IsPlanOfNames files path previous SourceNotFound = ⊥
IsPlanOfNames files path previous (TooManyFiles number) =
    (names : List (List ℕ)) × AreNamesAt files path names × AreListed names × (most_files < length names) × (number ≡ length names)
IsPlanOfNames files path previous (Feeds found) =
    (names : List (List ℕ)) × AreRisingAt files path names × (length names ≤ most_files) × AllZip (IsFoundAt files path previous) names found
IsPlanOfNames files path previous ListFault = Unit {0}

-- neither a file nor a folder
abbrev pub IsNowhereAt : Files → List ℕ → Type 0
IsNowhereAt files path = (get files path ≡ None) × ¬ HasInside files path

-- the same, or nothing is there
abbrev pub IsPlanAt : Files → List ℕ → List Feed → PlanResult → Type 0
IsPlanAt files path previous NoPrevious = ⊥
IsPlanAt files path previous SourceNotFound = IsNowhereAt files path
IsPlanAt files path previous (TooManyFiles number) = IsPlanOfNames files path previous (TooManyFiles number)
IsPlanAt files path previous (Feeds found) = IsPlanOfNames files path previous (Feeds found)
IsPlanAt files path previous ListFault = Unit {0}

-- it says that there is no load to go on with
abbrev pub is_no_previous : PlanResult → Bool
is_no_previous NoPrevious = true
is_no_previous SourceNotFound = false
is_no_previous (TooManyFiles number) = false
is_no_previous (Feeds found) = false
is_no_previous ListFault = false
