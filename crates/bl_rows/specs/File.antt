-- What reading a file whole answers.
use Rattle.std.specs.Prelude.{◌≡◌, ◌≤◌, ◌<◌, ℕ, List, length, None, Some, Result, Ok, Err}
use Rattle.std.specs.declared.option.Option.{Option}
use Rattle.std.specs.FinMap.{get}
use Rattle.bl_outside.specs.Folders.{Files}
use Rattle.bl_outside.specs.declared.refusals.Outside.{Outside}
use Rattle.bl_outside.specs.declared.refusals.Outside.TheVariants.{Failed, NoMemory as out_of_memory}
use Rattle.bl_rows.specs.declared.file.FileBytes.{FileBytes}
use Rattle.bl_rows.specs.declared.file.FileRefusal.{FileRefusal}
use Rattle.bl_rows.specs.declared.file.FileRefusal.TheVariants.{Missing, TooLarge, ReadFault, NoMemory}

-- the most bytes that a file may have
abbrev pub file_limit : ℕ
file_limit = 268435456

abbrev pub IsSmall : List ℕ → Type 0
IsSmall bytes = length bytes ≤ file_limit

-- The answer for the file at the path, where the files are told.
abbrev pub ReadsWhole : Option Files → List ℕ → Result FileBytes FileRefusal → Type 0
ReadsWhole None path _ = Unit {0}
ReadsWhole (Some files) path (Ok file) = get files path ≡ Some file.bytes
ReadsWhole (Some files) path (Err Missing) = get files path ≡ None
ReadsWhole (Some files) path (Err TooLarge) =
    (bytes : List ℕ) × (get files path ≡ Some bytes) × (file_limit < length bytes)
ReadsWhole (Some files) path (Err ReadFault) = Unit {0}
ReadsWhole (Some files) path (Err NoMemory) = Unit {0}

-- The refusal by which a folder's own one is passed on.
abbrev pub refused_by : Outside → FileRefusal
refused_by Failed = ReadFault
refused_by out_of_memory = NoMemory
