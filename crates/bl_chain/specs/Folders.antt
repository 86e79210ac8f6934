-- The files of a load, as a folder tells them.
use Rattle.std.specs.Prelude.{◌≡◌, ◌≢◌, ◌↔◌, ℕ, ◌+◌, ◌<◌, nat_eq, Bool, true, false, ◌||◌, codes, List, [], ◌∷◌, ◌++◌, map, length, Some, None, Contains, ◌⊎◌}
use Rattle.std.specs.List.{ends_with}
use Rattle.std.specs.List.Sorted.{IsStrictlySortedBy}
use Rattle.std.specs.FinMap.{get}
use Rattle.bl_outside.specs.Folders.{Files, HasInside, IsNameIn, Lists, ListsNames}
use Rattle.bl_outside.specs.declared.listing.Listing.{Listing}
use Rattle.bl_outside.specs.declared.listing.Listing.TheVariants.{Missing, OneFile, Names}
use Rattle.bl_outside.specs.declared.digest.Digest.{Digest}
use Rattle.bl_value.specs.declared.column.Columns.{Columns}
use Rattle.bl_value.specs.declared.column.Side.{Side}
use Rattle.bl_value.specs.declared.column.Side.TheVariants as side
use Rattle.bl_value.specs.declared.log_code.LogCode.TheVariants.{Header, Compressed, FileTooLarge}
use Rattle.bl_value.specs.declared.row.DigestRow.{DigestRow}
use Rattle.bl_header.specs.Headers.{IsMeaning, IsRefusal, column_of}
use Rattle.bl_header.specs.declared.refusal.HeaderRefusal.{HeaderRefusal}
use Rattle.bl_header.specs.declared.refusal.HeaderRefusal.TheVariants.{NoMemory}
use Rattle.bl_rows.specs.Contents.{Fields, contents}
use Rattle.bl_rows.specs.Digests.{digest_after, header_digest}
use Rattle.bl_rows.specs.File.{IsSmall, file_limit}
use Rattle.bl_rows.specs.FirstFaults.{record_row}
use Rattle.bl_files.specs.Carried.{feed_cmp, new_feed}
use Rattle.bl_files.specs.Sources.{path_of}
use Rattle.bl_files.specs.declared.feed_kind.FeedKind.{FeedKind}
use Rattle.bl_files.specs.declared.feed_kind.FeedKind.TheVariants as kind
use Rattle.bl_chain.specs.Tables.{AreTables, Table}
use Rattle.bl_chain.specs.BatchSizes.{field_bytes}

-- ---- folders

-- What a folder tells: the files of each source of loads.
abbrev pub Folder : Type 1
Folder = List ℕ → List Table → Type 0

-- a source has one list of files at most, which are as the files of a load always are
pub record IsFolder (folder : Folder) : Type 0 where
  pub one : (source : List ℕ) (a b : List Table) → folder source a → folder source b → a ≡ b
  pub sound : (source : List ℕ) (tables : List Table) → folder source tables → AreTables tables

-- ---- one file

abbrev pub digest_of : List ℕ → Digest
digest_of bytes = record { bytes = bytes }

-- The rows of a file's records, so many of which stand before these, each with the digest behind it.
abbrev pub rows_behind : Columns → List Fields → ℕ → List Fields → List DigestRow
rows_behind columns all before [] = []
rows_behind columns all before (fields ∷ records) =
    record { row = record_row columns fields; digest = digest_of (digest_after all (before + 1)) } ∷ rows_behind columns all (before + 1) records

abbrev pub kind_of : Side → FeedKind
kind_of side.Vertex = kind.Vertex
kind_of side.Edge = kind.Edge

-- the name says that the file is compressed
abbrev pub is_compressed : List ℕ → Bool
is_compressed path = ends_with nat_eq path (codes ".gz") || ends_with nat_eq path (codes ".bz2")

-- a file that is refused, of which no row is known
abbrev pub refused_table : List ℕ → FeedKind → List ℕ → Table
refused_table name refused digest = record { found = record { name = name; kind = refused; digest = digest_of digest }; rows = []; sizes = [] }

-- a file without a record
abbrev pub empty_table : List ℕ → Table
empty_table name = record { found = record { name = name; kind = kind.Vertex; digest = digest_of (header_digest []) }; rows = []; sizes = [] }

-- a file whose header means these columns
abbrev pub read_table : List ℕ → Columns → Fields → List Fields → Table
read_table name columns header records =
    record {
      found = record { name = name; kind = kind_of columns.side; digest = digest_of (digest_after (header ∷ records) 0) };
      rows = rows_behind columns (header ∷ records) 0 records;
      sizes = map field_bytes records;
    }

-- by the records, the header first
abbrev pub IsContentTable : List ℕ → List Fields → Table → Type 0
IsContentTable name [] table = table ≡ empty_table name
IsContentTable name (header ∷ records) table =
    ((columns : Columns) × IsMeaning header columns × (table ≡ read_table name columns header records))
    ⊎ ((refusal : HeaderRefusal) × (refusal ≢ NoMemory) × IsRefusal header refusal
    × (table ≡ refused_table name (kind.Refused Header (column_of refusal)) (digest_after (header ∷ records) 0)))

-- by the bytes; the digest of a file that is too large is that of no record
abbrev pub IsPlainTable : List ℕ → List ℕ → Table → Type 0
IsPlainTable name bytes table =
    ((file_limit < length bytes) × (table ≡ refused_table name (kind.Refused FileTooLarge 0) (header_digest [])))
    ⊎ (IsSmall bytes × IsContentTable name (contents bytes) table)

-- The file at this path, which has this name in its load. One that is compressed isn't read.
abbrev pub IsFileTable : List ℕ → List ℕ → List ℕ → Table → Type 0
IsFileTable path name bytes table =
    ((is_compressed path ≡ true) × (table ≡ refused_table name (kind.Refused Compressed 0) (header_digest [])))
    ⊎ ((is_compressed path ≡ false) × IsPlainTable name bytes table)

-- ---- told files

-- it is a file that lies directly in the folder at the path
abbrev pub IsInside : Files → List ℕ → Table → Type 0
IsInside files path table =
    (name : List ℕ) × (bytes : List ℕ)
    × IsNameIn files path name
    × (get files (path ++ 47 ∷ name) ≡ Some bytes)
    × IsFileTable (path ++ 47 ∷ name) name bytes table

-- The files at a path: one file, whose name is empty, or just those that lie directly in the folder there, in order.
abbrev pub AreTablesAt : Files → List ℕ → List Table → Type 0
AreTablesAt files path tables =
    ((bytes : List ℕ) × (get files path ≡ Some bytes) × (table : Table) × IsFileTable path [] bytes table × (tables ≡ table ∷ []))
    ⊎ ((get files path ≡ None)
    × HasInside files path
    × IsStrictlySortedBy feed_cmp (map (λ table. new_feed table.found) tables)
    × ((table : Table) → Contains tables table ↔ IsInside files path table))

-- The files of a source.
abbrev pub AreTablesOf : Files → List ℕ → List Table → Type 0
AreTablesOf files source tables = (path : List ℕ) × (path_of source ≡ Some path) × AreTablesAt files path tables

-- Told files are a folder.
abbrev pub FilesAreFolders : Type 0
FilesAreFolders = (files : Files) → IsFolder (AreTablesOf files)

-- ---- listings

-- These are the names of the files, one of each.
pub record HaveNames (tables : List Table) (names : List (List ℕ)) : Type 0 where
  pub many : length tables ≡ length names
  pub each : (name : List ℕ) → Contains names name ↔ ((table : Table) × Contains tables table × (table.found.name ≡ name))

-- What is listed at a path is what is there: nothing, one file, or the files of these names.
abbrev pub ListsTables : Files → List ℕ → Listing → Type 0
ListsTables files path Missing = (tables : List Table) → ¬ AreTablesAt files path tables
ListsTables files path OneFile = (table : Table) × AreTablesAt files path (table ∷ [])
ListsTables files path (Names names) = (tables : List Table) × AreTablesAt files path tables × HaveNames tables names

abbrev pub ListingsAreTables : Type 0
ListingsAreTables = (files : Files) (path : List ℕ) (listing : Listing) → ListsNames listing → Lists (Some files) path listing → ListsTables files path listing
