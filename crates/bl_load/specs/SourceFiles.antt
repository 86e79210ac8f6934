-- The files of a source, each by its name.
use Rattle.std.specs.Prelude.{◌≡◌, ◌≢◌, ◌<◌, ℕ, Bool, is_some, List, [], ◌∷◌, ◌++◌, length, None, Some, Ok, Err}
use Rattle.std.specs.declared.option.Option.{Option}
use Rattle.std.specs.declared.result.Result.{Result}
use Rattle.std.specs.List.{All}
use Rattle.std.specs.Str.{IsUtf8}
use Rattle.std.specs.FinMap.{get}
use Rattle.bl_outside.specs.Folders.{Files}
use Rattle.bl_rows.specs.File.{file_limit}
use Rattle.bl_rows.specs.declared.file.FileBytes.{FileBytes}
use Rattle.bl_rows.specs.declared.file.FileRefusal.{FileRefusal}
use Rattle.bl_rows.specs.declared.file.FileRefusal.TheVariants.{Missing, TooLarge, ReadFault, NoMemory}
use Rattle.bl_files.specs.Sources.{path_of}
use Rattle.bl_chain.specs.Tables.{Table}
use Rattle.bl_chain.specs.Folders.{IsFileTable}

-- The path of a file: that of its source, where the name is empty, else the source's path, a slash and the name.
abbrev pub file_path : List ℕ → List ℕ → List ℕ
file_path path [] = path
file_path path (byte ∷ name) = path ++ 47 ∷ (byte ∷ name)

-- The file of this name has these bytes: the source itself, or one that lies directly in its folder.
abbrev pub HasBytes : Files → List ℕ → List ℕ → List ℕ → Type 0
HasBytes files path [] bytes = get files path ≡ Some bytes
HasBytes files path (byte ∷ name) bytes =
    (get files path ≡ None)
    × IsUtf8 (byte ∷ name)
    × All (λ b. b ≢ 47) (byte ∷ name)
    × (get files (path ++ 47 ∷ (byte ∷ name)) ≡ Some bytes)

-- What reading the file of this name answers, where the files are told.
abbrev pub ReadsSource : Option Files → List ℕ → List ℕ → Result FileBytes FileRefusal → Type 0
ReadsSource None path name result = Unit {0}
ReadsSource (Some files) path name (Ok file) = HasBytes files path name file.bytes
ReadsSource (Some files) path name (Err Missing) = (bytes : List ℕ) → ¬ HasBytes files path name bytes
ReadsSource (Some files) path name (Err TooLarge) = (bytes : List ℕ) × HasBytes files path name bytes × (file_limit < length bytes)
ReadsSource (Some files) path name (Err ReadFault) = Unit {0}
ReadsSource (Some files) path name (Err NoMemory) = Unit {0}

-- The file of this name at the path, as its rows.
pub record IsFileAt (files : Files) (path name : List ℕ) (table : Table) : Type 0 where
  pub bytes : List ℕ
  pub has : HasBytes files path name bytes
  pub table_is : IsFileTable (file_path path name) name bytes table

-- The file of this name of a source.
abbrev pub IsFileOf : Files → List ℕ → List ℕ → Table → Type 0
IsFileOf files source name table = (path : List ℕ) × (path_of source ≡ Some path) × IsFileAt files path name table

-- whether there is a file at the path, where the files are told
abbrev pub IsThere : Option Files → List ℕ → Bool → Type 0
IsThere None path there = Unit {0}
IsThere (Some files) path there = there ≡ is_some (get files path)
