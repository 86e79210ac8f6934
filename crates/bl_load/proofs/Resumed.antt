-- What a file is to the feed that was begun with it.
use Rattle.std.specs.Prelude.{◌≡◌, ◌≢◌, ◌≤◌, ◌<◌, ℕ, zero, suc, ◌+◌, Bool, true, false, List, [], ◌∷◌, ◌++◌, map, take, drop, length, refl}
use Rattle.std.proofs.Common.{sym, ap, subst, ◌∙◌, arith, inl, inr}
use Rattle.std.proofs.lemmas.Bool.{true≢false}
use Rattle.std.proofs.lemmas.List.{drop-map, drop_all, length-drop}
use Rattle.std.proofs.lemmas.List.Elements.{All-nil}
use Rattle.std.specs.declared.result.Result.{Result}
use Rattle.std.specs.Prelude.{IfOk}
use Rattle.std.proofs.lemmas.Result.{IfOk-weaker}
use Rattle.bl_outside.specs.declared.refusals.NoMemory.{NoMemory as NoRoom}
use Rattle.bl_outside.specs.declared.digest.Digest.{Digest}
use Rattle.bl_outside.specs.Folders.{Files}
use Rattle.bl_value.specs.ValidRows.{IsRow}
use Rattle.bl_value.specs.ValidColumns.{IsColumns}
use Rattle.bl_value.specs.declared.row.DigestRow.{DigestRow}
use Rattle.bl_value.specs.declared.column.Columns.{Columns}
use Rattle.bl_value.specs.declared.log_code.LogCode.{LogCode}
use Rattle.bl_value.specs.declared.log_code.LogCode.TheVariants.{Header, Compressed, FileTooLarge}
use Rattle.bl_header.specs.Headers.{IsMeaning, IsRefusal, column_of}
use Rattle.bl_header.specs.declared.refusal.HeaderRefusal.{HeaderRefusal}
use Rattle.bl_header.specs.declared.refusal.HeaderRefusal.TheVariants.{NoMemory}
use Rattle.bl_rows.specs.Contents.{Fields, contents, rows_of}
use Rattle.bl_rows.specs.Digests.{digest_after, header_digest}
use Rattle.bl_rows.specs.File.{IsSmall}
use Rattle.bl_rows.specs.RowReaders.{Stands}
use Rattle.bl_rows.specs.declared.row_reader.RowReader.{RowReader}
use Rattle.bl_files.specs.declared.feed.Feed.{Feed}
use Rattle.bl_files.specs.declared.feed_kind.FeedKind.{FeedKind}
use Rattle.bl_files.specs.declared.feed_kind.FeedKind.TheVariants as kind
use Rattle.bl_world.specs.Makings.{digest_behind}
use Rattle.bl_chain.specs.Tables.{Table, is_unread}
use Rattle.bl_chain.specs.BatchSizes.{field_bytes}
use Rattle.bl_chain.specs.Folders.{IsContentTable, IsFileTable, digest_of, empty_table, is_compressed, kind_of, read_table, refused_table, rows_behind}
use Rattle.bl_chain.proofs.OneFolder.{one_content}
use Rattle.std.specs.List.{All}
use Rattle.bl_load.specs.Gathering.{most_field_bytes}
use Rattle.bl_load.specs.OpenFiles.{IsFreshFile, IsOpen}
use Rattle.bl_load.specs.Resuming.{IsAtFeed, IsContent, IsFault, IsOpenAt, IsOtherContent, IsSomeResumed, IsStill, OpensFile, Resumes, ResumesContent}
use Rattle.bl_load.specs.SourceFiles.{HasBytes, IsFileAt, file_path}
use Rattle.bl_load.specs.declared.content.Content.{Content}
use Rattle.bl_load.specs.declared.content.Content.TheVariants.{Empty, Refused, Read}
use Rattle.bl_load.specs.declared.open_file.OpenFile.{OpenFile}
use Rattle.bl_load.specs.declared.resuming.Resumed.{Resumed}
use Rattle.bl_load.specs.declared.resuming.Resumed.TheVariants.{Fault, Modified, Completed, Open}
use Rattle.bl_load.proofs.RowLists.{digest_behind-rows, drop-rows, length-rows}
use Rattle.bl_load.proofs.SourceBytes.{one_bytes, plain_table, table_at}

-- ---- a file that isn't read

-- a feed that is read isn't that of a file that isn't
pub not_refused : (feed : Feed) (name : List ℕ) (code : LogCode) (column : ℕ) (digest : List ℕ) (table : Table) → is_unread feed.kind ≡ false → table ≡ refused_table name (kind.Refused code column) digest → ¬ IsStill feed table
not_refused feed name code column digest table read is still =
    true≢false (ap (λ (t : Table). is_unread t.found.kind) (sym is) ∙ ap is_unread still.kind ∙ read)

pub compressed_other : (files : Files) (path : List ℕ) (feed : Feed) → is_unread feed.kind ≡ false → is_compressed (file_path path feed.name) ≡ true → (table : Table) → IsFileAt files path feed.name table → ¬ IsStill feed table
compressed_other files path feed read compressed table at = by at.table_is where
  by : IsFileTable (file_path path feed.name) feed.name at.bytes table → ¬ IsStill feed table
  by (inl x) = not_refused feed feed.name Compressed 0 (header_digest []) table read x.1
  by (inr x) = absurd (true≢false (sym compressed ∙ x.0))

pub large_other : (files : Files) (path bytes : List ℕ) (feed : Feed) → is_unread feed.kind ≡ false → is_compressed (file_path path feed.name) ≡ false → HasBytes files path feed.name bytes → 268435456 < length bytes → (table : Table) → IsFileAt files path feed.name table → ¬ IsStill feed table
large_other files path bytes feed read plain has large table at =
    by (subst (λ b. IsFileTable (file_path path feed.name) feed.name b table) (one_bytes files path feed.name at.bytes bytes at.has has) at.table_is) where
      by : IsFileTable (file_path path feed.name) feed.name bytes table → ¬ IsStill feed table
      by (inl x) = absurd (true≢false (sym x.0 ∙ plain))
      by (inr (x, inl y)) = not_refused feed feed.name FileTooLarge 0 (header_digest []) table read y.1
      by (inr (x, inr y)) = absurd (omega (arith, y.0, large))

-- ---- a header that is refused

pub refused_other : (all : List Fields) (column : ℕ) (feed : Feed) → is_unread feed.kind ≡ false → IsContent all (Refused column) → IsOtherContent all feed
refused_other [] column feed read is = absurd is
refused_other (header ∷ records) column feed read is = λ name table table_is.
    not_refused feed name Header (column_of is.0) (digest_after (header ∷ records) 0) table read
    (one_content name (header ∷ records) table (refused_table name (kind.Refused Header (column_of is.0)) (digest_after (header ∷ records) 0)) table_is (inr (is.0, is.1, is.2, refl)))

-- ---- a file with a header

pub read_only : (header : Fields) (records : List Fields) (columns : Columns) (name : List ℕ) (table : Table) → IsMeaning header columns → IsContentTable name (header ∷ records) table → table ≡ read_table name columns header records
read_only header records columns name table means is = one_content name (header ∷ records) table (read_table name columns header records) is (inl (columns, means, refl))

-- it is another file, where what it is read as isn't still the feed's
pub read_other : (header : Fields) (records : List Fields) (columns : Columns) (feed : Feed) → IsMeaning header columns → ((name : List ℕ) → ¬ IsStill feed (read_table name columns header records)) → IsOtherContent (header ∷ records) feed
read_other header records columns feed means not name table is still = not name (subst (λ t. IsStill feed t) (read_only header records columns name table means is) still)

pub kind_other : (header : Fields) (records : List Fields) (columns : Columns) (feed : Feed) → ¬ (kind_of columns.side ≡ feed.kind) → (name : List ℕ) → ¬ IsStill feed (read_table name columns header records)
kind_other header records columns feed not name still = not still.kind

pub few_other : (header : Fields) (records : List Fields) (columns : Columns) (feed : Feed) → length records < feed.taken → (name : List ℕ) → ¬ IsStill feed (read_table name columns header records)
few_other header records columns feed few name still =
    let e : length (rows_behind columns (header ∷ records) 0 records) ≡ length records = length-rows columns (header ∷ records) 0 records in
    let enough : feed.taken ≤ length (rows_behind columns (header ∷ records) 0 records) = still.enough in
    absurd (omega arith)

pub digest_at_feed : (header : Fields) (records : List Fields) (columns : Columns) (taken : ℕ) → taken ≤ length records → digest_behind (digest_of (digest_after (header ∷ records) 0)) (take taken (rows_behind columns (header ∷ records) 0 records)) ≡ digest_of (digest_after (header ∷ records) taken)
digest_at_feed header records columns taken within =
    let e : 0 + taken ≡ taken = omega arith in
    digest_behind-rows columns (header ∷ records) 0 taken records within ∙ ap (λ k. digest_of (digest_after (header ∷ records) k)) e

pub same_digest : (digest : Digest) (bytes : List ℕ) → digest.bytes ≡ bytes → digest ≡ digest_of bytes
same_digest digest bytes is = ap (λ b. record { bytes = b }) is

pub digest_other : (header : Fields) (records : List Fields) (columns : Columns) (feed : Feed) (digest : Digest) → digest.bytes ≡ digest_after (header ∷ records) feed.taken → ¬ (digest ≡ feed.digest) → (name : List ℕ) → ¬ IsStill feed (read_table name columns header records)
digest_other header records columns feed digest is not name still =
    let e : length (rows_behind columns (header ∷ records) 0 records) ≡ length records = length-rows columns (header ∷ records) 0 records in
    let enough : feed.taken ≤ length (rows_behind columns (header ∷ records) 0 records) = still.enough in
    let within : feed.taken ≤ length records = omega arith in
    not (same_digest digest (digest_after (header ∷ records) feed.taken) is ∙ sym (digest_at_feed header records columns feed.taken within) ∙ still.digest)

-- the file as it is opened
pub opened : (header : Fields) (records : List Fields) (file : OpenFile) (feed : Feed) (digest : Digest) → Stands file.reader (header ∷ records) feed.taken (drop feed.taken records) → IsMeaning header file.columns → IsColumns file.columns → feed.taken ≤ length records
    → kind_of file.columns.side ≡ feed.kind → digest.bytes ≡ digest_after (header ∷ records) feed.taken → digest ≡ feed.digest → file.taken ≡ feed.taken → file.digest ≡ feed.digest → file.rows ≡ [] → file.sizes ≡ [] → IsOpenAt (header ∷ records) feed file
opened header records file feed digest stands means columns within kind_is digest_is same taken_is file_digest no_rows no_sizes =
    let all : List Fields = header ∷ records in
    let none : length file.rows ≡ 0 = ap (λ l. length l) no_rows in
    let place : feed.taken ≡ file.taken + length file.rows = omega arith in
    let from : 0 + file.taken ≡ file.taken + length file.rows = omega arith in
    let left_is : drop feed.taken records ≡ drop file.taken records = ap (λ k. drop k records) (sym taken_is) in
    record {
      header = header;
      records = records;
      all_are = refl;
      is = record {
        left = drop feed.taken records;
        stands = subst (λ k. Stands file.reader all k (drop feed.taken records)) place stands;
        meaning = means;
        columns = columns;
        enough = omega arith;
        digest_is = file_digest ∙ sym same ∙ same_digest digest (digest_after all feed.taken) digest_is ∙ ap (λ k. digest_of (digest_after all k)) (sym taken_is);
        rows_are =
            drop-rows file.columns all 0 file.taken records
            ∙ (λ i. rows_behind file.columns all (from i) (sym left_is i))
            ∙ ap (λ l. l ++ rows_behind file.columns all (file.taken + length file.rows) (drop feed.taken records)) (sym no_rows);
        sizes_are = drop-map field_bytes file.taken records ∙ ap (λ l. map field_bytes l) (sym left_is) ∙ ap (λ l. l ++ map field_bytes (drop feed.taken records)) (sym no_sizes);
        lengths = ap (λ l. length l) no_sizes ∙ sym none;
        few = omega arith;
        valid = subst (λ l. All (λ (r : DigestRow). IsRow r.row) l) (sym no_rows) (All-nil (λ (r : DigestRow). IsRow r.row));
        bounded = subst (λ l. All (λ size. size ≤ most_field_bytes) l) (sym no_sizes) (All-nil (λ size. size ≤ most_field_bytes));
      };
      kind_is = kind_is;
      taken_is = taken_is;
      digest_is = file_digest;
    }

-- an open file is still the feed's
pub still_open : (header : Fields) (records : List Fields) (file : OpenFile) (feed : Feed) (name : List ℕ) → IsOpen header records file → kind_of file.columns.side ≡ feed.kind → file.taken ≡ feed.taken → file.digest ≡ feed.digest → IsStill feed (read_table name file.columns header records)
still_open header records file feed name is kind_is taken_is digest_is =
    let all : List Fields = header ∷ records in
    let e : length (rows_behind file.columns all 0 records) ≡ length records = length-rows file.columns all 0 records in
    let enough : file.taken + length file.rows ≤ length records = is.enough in
    let within : feed.taken ≤ length records = omega arith in
    record {
      kind = kind_is;
      enough = omega arith;
      digest = digest_at_feed header records file.columns feed.taken within ∙ ap (λ k. digest_of (digest_after all k)) (sym taken_is) ∙ sym is.digest_is ∙ digest_is;
    }

-- ---- a file without any record

pub empty_still : (feed : Feed) (digest : Digest) → kind.Vertex ≡ feed.kind → feed.taken ≡ 0 → digest.bytes ≡ digest_after [] 0 → digest ≡ feed.digest → IsStill feed (empty_table feed.name)
unfolding digest_after
empty_still feed digest kind_is taken_is digest_is same =
    record {
      kind = kind_is;
      enough = subst (λ k. k ≤ 0) (sym taken_is) (omega arith);
      digest = ap (λ k. digest_behind (digest_of (header_digest [])) (take k [])) taken_is ∙ sym (same_digest digest (header_digest []) digest_is) ∙ same;
    }

none_taken : (k : ℕ) → k ≤ 0 → k ≡ 0
none_taken k h = omega arith

pub empty_other : (feed : Feed) (digest : Digest) → digest.bytes ≡ digest_after [] 0 → ¬ ((kind.Vertex ≡ feed.kind) × (feed.taken ≡ 0) × (digest ≡ feed.digest)) → IsOtherContent [] feed
unfolding digest_after
empty_other feed digest digest_is not name table table_is still =
    let here : IsStill feed (empty_table name) = subst (λ t. IsStill feed t) table_is still in
    let none : feed.taken ≡ 0 = none_taken feed.taken here.enough in
    not (here.kind, none, same_digest digest (header_digest []) digest_is ∙ ap (λ k. digest_behind (digest_of (header_digest [])) (take k [])) (sym none) ∙ here.digest)

-- ---- at a path

pub resumes_at : (files : Files) (path bytes : List ℕ) (feed : Feed) (resumed : Resumed) → HasBytes files path feed.name bytes → is_compressed (file_path path feed.name) ≡ false → IsSmall bytes → ResumesContent (contents bytes) feed resumed → OpensFile path feed.name resumed → Resumes files path feed resumed
resumes_at files path bytes feed Fault has plain small is opens = absurd is
resumes_at files path bytes feed Modified has plain small is opens = λ table at. is feed.name table (plain_table files path feed.name bytes table has plain small at)
resumes_at files path bytes feed Completed has plain small is opens =
    (empty_table feed.name, table_at files path feed.name bytes (empty_table feed.name) has plain small (subst (λ all. IsContentTable feed.name all (empty_table feed.name)) (sym is.0) refl), is.1, is.2)
resumes_at files path bytes feed (Open file) has plain small is opens = (
  record {
    bytes = bytes;
    has = subst (λ p. HasBytes files p file.name bytes) (sym opens.0) (subst (λ n. HasBytes files path n bytes) (sym opens.1) has);
    plain = (λ i. is_compressed (file_path (opens.0 i) (opens.1 i))) ∙ plain;
    small = small;
    header = is.header;
    records = is.records;
    contents_are = is.all_are;
    is = is.is;
  },
  record { source = opens.0; name = opens.1; kind = is.kind_is; taken = is.taken_is; digest = is.digest_is },
)

-- ---- by what the header says

pub empty_resumed : (all : List Fields) (feed : Feed) (reader : RowReader) (resumed : Resumed) → IsContent all Empty → Stands reader all 0 (rows_of all) → (Stands reader [] 0 [] → ResumesContent [] feed resumed) → ResumesContent all feed resumed
empty_resumed [] feed reader resumed is stands gives = gives stands
empty_resumed (header ∷ records) feed reader resumed is stands gives = absurd is

pub read_resumed : (all : List Fields) (feed : Feed) (reader : RowReader) (columns : Columns) (result : Result Resumed NoRoom) → IsContent all (Read columns) → Stands reader all 0 (rows_of all)
    → ((header : Fields) (records : List Fields) → Stands reader (header ∷ records) 0 records → IsMeaning header columns → IfOk result (ResumesContent (header ∷ records) feed)) → IfOk result (ResumesContent all feed)
read_resumed [] feed reader columns result is stands gives = absurd is
read_resumed (header ∷ records) feed reader columns result is stands gives = gives header records stands is

some_by : (all : List Fields) (feed : Feed) (resumed : Resumed) → ResumesContent all feed resumed → IsSomeResumed feed resumed
some_by all feed Fault is = absurd is
some_by all feed Modified is = tt
some_by all feed Completed is = tt
some_by all feed (Open file) is = ((is.header, is.records, is.is), is.taken_is)

pub some_resumed : (all : List Fields) (feed : Feed) (result : Result Resumed NoRoom) → IfOk result (ResumesContent all feed) → IfOk result (IsSomeResumed feed)
some_resumed all feed result is = IfOk-weaker result (ResumesContent all feed) (IsSomeResumed feed) (some_by all feed) is

pub not_fault : {P : Type 0} (all : List Fields) (feed : Feed) (resumed : Resumed) → ResumesContent all feed resumed → IsFault resumed → P
not_fault all feed Fault is fault = absurd is
not_fault all feed Modified is fault = absurd fault
not_fault all feed Completed is fault = absurd fault
not_fault all feed (Open file) is fault = absurd fault
