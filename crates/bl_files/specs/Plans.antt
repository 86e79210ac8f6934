-- What a plan of files is to be.
use Rattle.std.specs.Prelude.{◌≡◌, true, List, length}
use Rattle.std.specs.declared.cmp.Ordering.TheVariants.{Less}
use Rattle.std.specs.Ordering.{nat_cmp}
use Rattle.std.specs.Cmp.Lexicographic.{slice_cmp}
use Rattle.std.specs.List.{All, AllAdjacentBelow}
use Rattle.bl_files.specs.declared.found.Found.{Found}
use Rattle.bl_files.specs.declared.plan_result.PlanResult.{PlanResult}
use Rattle.bl_files.specs.declared.plan_result.PlanResult.TheVariants.{Feeds, NoPrevious, SourceNotFound, ListFault, TooManyFiles}
use Rattle.bl_files.specs.Carried.{DifferentNames, found_names}
use Rattle.bl_files.specs.Codes.{has_file_code}

-- what holds of the files that were found
abbrev OfFiles : (List Found → Type 0) → PlanResult → Type 0
OfFiles P (Feeds found) = P found
OfFiles P NoPrevious = Unit {0}
OfFiles P SourceNotFound = Unit {0}
OfFiles P ListFault = Unit {0}
OfFiles P (TooManyFiles number) = Unit {0}

-- each name is below the next one, by their bytes
abbrev pub NamesRise : List Found → Type 0
NamesRise found = AllAdjacentBelow (λ a b. slice_cmp nat_cmp a.name b.name ≡ Less) found
    (length found)

abbrev pub HasRisingNames : PlanResult → Type 0
HasRisingNames plan = OfFiles NamesRise plan

-- no name was found twice
abbrev pub HasNames : PlanResult → Type 0
HasNames plan = OfFiles (λ found. DifferentNames (found_names found)) plan

-- a file that isn't read has the code of a file
abbrev pub HaveFileCodes : List Found → Type 0
HaveFileCodes found = All (λ file. has_file_code file.kind ≡ true) found

abbrev pub HasFileCodes : PlanResult → Type 0
HasFileCodes plan = OfFiles HaveFileCodes plan
