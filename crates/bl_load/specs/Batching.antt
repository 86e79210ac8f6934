-- The next rows of an open file.
use Rattle.std.specs.Prelude.{◌≡◌, ℕ, List, [], take}
use Rattle.bl_value.specs.declared.row.DigestRow.{DigestRow}
use Rattle.bl_rows.specs.Contents.{Fields}
use Rattle.bl_chain.specs.Folders.{read_table}
use Rattle.bl_chain.specs.NextEntries.{next_batch}
use Rattle.bl_load.specs.OpenFiles.{IsFilled, IsOpen}
use Rattle.bl_load.specs.declared.open_file.OpenFile.{OpenFile}

-- it is the same file
pub record IsSameFile (old new : OpenFile) : Type 0 where
  pub source : new.source ≡ old.source
  pub name : new.name ≡ old.name
  pub columns : new.columns ≡ old.columns

-- Rows wait, enough for a batch.
pub record IsRefilled (header : Fields) (records : List Fields) (old new : OpenFile) : Type 0 where
  pub is : IsOpen header records new
  pub filled : IsFilled is.left new
  pub taken : new.taken ≡ old.taken
  pub same : IsSameFile old new

-- The first so many rows that waited are handed out.
pub record HandsOut (header : Fields) (records : List Fields) (old : OpenFile) (count : ℕ) (new : OpenFile) (rows : List DigestRow) : Type 0 where
  pub is : IsOpen header records new
  pub rows_are : rows ≡ take count old.rows
  pub same : IsSameFile old new

-- The rows of the next batch are handed out.
pub record TakesNext (header : Fields) (records : List Fields) (old new : OpenFile) (rows : List DigestRow) : Type 0 where
  pub is : IsOpen header records new
  pub rows_are : rows ≡ next_batch (read_table [] old.columns header records) old.taken
  pub same : IsSameFile old new
