-- A file that is read, and how far.
use Rattle.std.specs.Prelude.{◌≡◌, ◌≤◌, false, ℕ, ◌+◌, List, ◌∷◌, ◌++◌, map, drop, length, sum, None, Some}
use Rattle.std.specs.declared.option.Option.{Option}
use Rattle.std.specs.List.{All}
use Rattle.bl_outside.specs.Folders.{Files}
use Rattle.bl_value.specs.ValidColumns.{IsColumns}
use Rattle.bl_header.specs.Headers.{IsMeaning}
use Rattle.bl_rows.specs.Contents.{Fields, contents}
use Rattle.bl_rows.specs.Digests.{digest_after}
use Rattle.bl_rows.specs.File.{IsSmall}
use Rattle.bl_rows.specs.RowReaders.{Stands}
use Rattle.bl_job.specs.Batched.{AreValidRows}
use Rattle.bl_chain.specs.BatchSizes.{field_bytes, most_rows}
use Rattle.bl_chain.specs.Folders.{digest_of, is_compressed, rows_behind}
use Rattle.bl_load.specs.Gathering.{IsEnough, most_field_bytes}
use Rattle.bl_load.specs.SourceFiles.{HasBytes, file_path}
use Rattle.bl_load.specs.declared.open_file.OpenFile.{OpenFile}

-- The file has this header and these records. `taken` of them were handed out; rows of the next ones wait, and the rest
-- is left to be read.
pub record IsOpen (header : Fields) (records : List Fields) (file : OpenFile) : Type 0 where
  pub left : List Fields
  pub stands : Stands file.reader (header ∷ records) (file.taken + length file.rows) left
  pub meaning : IsMeaning header file.columns
  pub columns : IsColumns file.columns
  pub enough : file.taken + length file.rows ≤ length records
  pub digest_is : file.digest ≡ digest_of (digest_after (header ∷ records) file.taken)
  pub rows_are : drop file.taken (rows_behind file.columns (header ∷ records) 0 records) ≡ file.rows ++ rows_behind file.columns (header ∷ records) (file.taken + length file.rows) left
  pub sizes_are : drop file.taken (map field_bytes records) ≡ file.sizes ++ map field_bytes left
  pub lengths : length file.sizes ≡ length file.rows
  pub few : length file.rows ≤ most_rows
  pub valid : AreValidRows file.rows
  pub bounded : All (λ size. size ≤ most_field_bytes) file.sizes

-- A batch need not look behind the rows that wait.
abbrev pub IsFilled : List Fields → OpenFile → Type 0
IsFilled left file = IsEnough (length file.rows) (sum file.sizes) left

-- It is of some file.
abbrev pub IsSomeOpen : OpenFile → Type 0
IsSomeOpen file = (header : Fields) × (records : List Fields) × IsOpen header records file

-- what is held, if anything is
abbrev pub IsHeld : Option OpenFile → Type 0
IsHeld None = Unit {0}
IsHeld (Some file) = IsSomeOpen file

-- It is the file that the folder has at its path.
pub record IsFreshFile (files : Files) (file : OpenFile) : Type 0 where
  pub bytes : List ℕ
  pub has : HasBytes files file.source file.name bytes
  pub plain : is_compressed (file_path file.source file.name) ≡ false
  pub small : IsSmall bytes
  pub header : Fields
  pub records : List Fields
  pub contents_are : contents bytes ≡ header ∷ records
  pub is : IsOpen header records file

-- What is held is as these files have it: nothing, or a file with the bytes that stand at its path.
abbrev pub IsFresh : Files → Option OpenFile → Type 0
IsFresh files None = Unit {0}
IsFresh files (Some file) = IsFreshFile files file
