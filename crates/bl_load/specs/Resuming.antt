-- A file that goes on.
use Rattle.std.specs.Prelude.{◌≡◌, ◌≢◌, ◌≤◌, ◌<◌, ℕ, Bool, true, false, List, [], ◌∷◌, take, drop, length}
use Rattle.bl_outside.specs.Folders.{Files}
use Rattle.bl_rows.specs.RowReaders.{Stands}
use Rattle.bl_rows.specs.declared.row_reader.RowReader.{RowReader}
use Rattle.bl_header.specs.Headers.{IsMeaning, IsRefusal, column_of}
use Rattle.bl_header.specs.declared.refusal.HeaderRefusal.{HeaderRefusal}
use Rattle.bl_header.specs.declared.refusal.HeaderRefusal.TheVariants.{NoMemory}
use Rattle.bl_value.specs.ValidColumns.{IsColumns}
use Rattle.bl_rows.specs.Contents.{Fields}
use Rattle.bl_value.specs.declared.log_code.LogCode.TheVariants.{Header}
use Rattle.bl_files.specs.declared.feed_kind.FeedKind.{FeedKind}
use Rattle.bl_files.specs.declared.feed_kind.FeedKind.TheVariants as kind
use Rattle.bl_files.specs.declared.feed.Feed.{Feed}
use Rattle.bl_world.specs.Makings.{digest_behind}
use Rattle.bl_chain.specs.Tables.{Table}
use Rattle.bl_chain.specs.Folders.{IsContentTable, empty_table, kind_of}
use Rattle.bl_load.specs.OpenFiles.{IsFreshFile, IsOpen, IsSomeOpen}
use Rattle.bl_load.specs.SourceFiles.{IsFileAt}
use Rattle.bl_load.specs.declared.content.Content.{Content}
use Rattle.bl_load.specs.declared.content.Content.TheVariants.{Empty, Refused, Read}
use Rattle.bl_load.specs.declared.open_file.OpenFile.{OpenFile}
use Rattle.bl_load.specs.declared.resuming.Resumed.{Resumed}
use Rattle.bl_load.specs.declared.resuming.Resumed.TheVariants.{Fault, Modified, Completed, Open}

-- What a file's records say of it, the header first.
abbrev pub IsContent : List Fields → Content → Type 0
IsContent [] Empty = Unit {0}
IsContent [] (Refused column) = ⊥
IsContent [] (Read columns) = ⊥
IsContent (header ∷ records) Empty = ⊥
IsContent (header ∷ records) (Refused column) = (refusal : HeaderRefusal) × (refusal ≢ NoMemory) × IsRefusal header refusal × (column ≡ column_of refusal)
IsContent (header ∷ records) (Read columns) = IsMeaning header columns

-- it is that of this refusal, which isn't want of memory
abbrev pub IsRefusedBy : HeaderRefusal → Content → Type 0
IsRefusedBy refusal content = (content ≡ Refused (column_of refusal)) × (refusal ≢ NoMemory)

-- what the file is about; one without any record stands among the vertex files
abbrev pub kind_in : Content → FeedKind
kind_in Empty = kind.Vertex
kind_in (Refused column) = kind.Refused Header column
kind_in (Read columns) = kind_of columns.side

abbrev pub HasColumns : Content → Type 0
HasColumns Empty = Unit {0}
HasColumns (Refused column) = Unit {0}
HasColumns (Read columns) = IsColumns columns

-- The file is still the one that the feed was begun with: of the same kind, with the records that were taken, and with
-- the digest behind them.
pub record IsStill (feed : Feed) (table : Table) : Type 0 where
  pub kind : table.found.kind ≡ feed.kind
  pub enough : feed.taken ≤ length table.rows
  pub digest : digest_behind table.found.digest (take feed.taken table.rows) ≡ feed.digest

-- it is another one, whatever its name
abbrev pub IsOtherContent : List Fields → Feed → Type 0
IsOtherContent all feed = (name : List ℕ) (table : Table) → IsContentTable name all table → ¬ IsStill feed table

-- The open file stands where the feed does, and nothing waits.
pub record IsOpenAt (all : List Fields) (feed : Feed) (file : OpenFile) : Type 0 where
  pub header : Fields
  pub records : List Fields
  pub all_are : all ≡ header ∷ records
  pub is : IsOpen header records file
  pub kind_is : kind_of file.columns.side ≡ feed.kind
  pub taken_is : file.taken ≡ feed.taken
  pub digest_is : file.digest ≡ feed.digest

-- What a file with these records is to the feed.
abbrev pub ResumesContent : List Fields → Feed → Resumed → Type 0
ResumesContent all feed Fault = ⊥
ResumesContent all feed Modified = IsOtherContent all feed
ResumesContent all feed Completed = (all ≡ []) × IsStill feed (empty_table feed.name) × (feed.taken ≡ 0)
ResumesContent all feed (Open file) = IsOpenAt all feed file

-- So many records were taken, or there are fewer.
abbrev pub Skips : List Fields → List Fields → ℕ → RowReader → Bool → Type 0
Skips all left count reader true = (count ≤ length left) × Stands reader all count (drop count left)
Skips all left count reader false = length left < count

-- ---- a file of a source

-- the open file is that of this name at this path
abbrev pub OpensFile : List ℕ → List ℕ → Resumed → Type 0
OpensFile source name Fault = Unit {0}
OpensFile source name Modified = Unit {0}
OpensFile source name Completed = Unit {0}
OpensFile source name (Open file) = (file.source ≡ source) × (file.name ≡ name)

-- none is open
abbrev pub IsNoFile : Resumed → Type 0
IsNoFile Fault = Unit {0}
IsNoFile Modified = Unit {0}
IsNoFile Completed = Unit {0}
IsNoFile (Open file) = ⊥

abbrev pub IsFault : Resumed → Type 0
IsFault Fault = Unit {0}
IsFault Modified = ⊥
IsFault Completed = ⊥
IsFault (Open file) = ⊥

-- of whatever file, and it stands where the feed does
abbrev pub IsSomeResumed : Feed → Resumed → Type 0
IsSomeResumed feed Fault = Unit {0}
IsSomeResumed feed Modified = Unit {0}
IsSomeResumed feed Completed = Unit {0}
IsSomeResumed feed (Open file) = IsSomeOpen file × (file.taken ≡ feed.taken)

-- The open file stands where the feed does.
pub record IsAtFeed (path : List ℕ) (feed : Feed) (file : OpenFile) : Type 0 where
  pub source : file.source ≡ path
  pub name : file.name ≡ feed.name
  pub kind : kind_of file.columns.side ≡ feed.kind
  pub taken : file.taken ≡ feed.taken
  pub digest : file.digest ≡ feed.digest

-- What the file of this name at the path is to the feed, where the files are told.
abbrev pub Resumes : Files → List ℕ → Feed → Resumed → Type 0
Resumes files path feed Fault = Unit {0}
Resumes files path feed Modified = (table : Table) → IsFileAt files path feed.name table → ¬ IsStill feed table
Resumes files path feed Completed = (table : Table) × IsFileAt files path feed.name table × IsStill feed table × (feed.taken ≡ length table.rows)
Resumes files path feed (Open file) = IsFreshFile files file × IsAtFeed path feed file
