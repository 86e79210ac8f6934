-- What is prepared of a file that goes on.
use Rattle.std.specs.Prelude.{◌≡◌, ◌≢◌, ◌==◌, ℕ, true, false, List, [], ◌∷◌, length, refl, Some, None, Ok, Err, IfOk, OnErr}
use Rattle.std.specs.declared.result.Result.{Result}
use Rattle.std.proofs.lemmas.Bool.{eqb-true, true≢false}
use Rattle.bl_outside.specs.declared.refusals.NoMemory.{NoMemory as NoRoom}
use Rattle.std.specs.declared.option.Option.{Option}
use Rattle.std.proofs.Common.{sym, ap, subst, ◌∙◌, arith, inl}
use Rattle.bl_outside.specs.Folders.{Files}
use Rattle.bl_value.specs.declared.row.DigestRow.{DigestRow}
use Rattle.bl_rows.specs.Contents.{Fields, contents}
use Rattle.bl_files.specs.Sources.{path_of}
use Rattle.bl_files.specs.declared.feed.Feed.{Feed}
use Rattle.bl_files.specs.declared.feed_end.FeedEnd.{FeedEnd}
use Rattle.bl_files.specs.declared.feed_end.FeedEnd.TheVariants as end
use Rattle.bl_chain.specs.Tables.{Table}
use Rattle.bl_chain.specs.Folders.{IsContentTable, is_compressed, read_table}
use Rattle.bl_chain.specs.NextEntries.{next_batch}
use Rattle.bl_chain.proofs.OneFolder.{some_same}
use Rattle.bl_load.specs.Batching.{TakesNext}
use Rattle.bl_load.specs.OpenFiles.{IsFresh, IsFreshFile, IsOpen}
use Rattle.bl_load.specs.Prepares.{GoesOnWith, IsEndAt, IsEndFor, IsForFile, IsForFileAt, is_fault}
use Rattle.bl_load.specs.Resuming.{IsAtFeed, IsStill}
use Rattle.bl_load.specs.SourceFiles.{HasBytes, IsFileAt, IsFileOf, file_path}
use Rattle.bl_load.specs.declared.open_file.OpenFile.{OpenFile}
use Rattle.bl_load.specs.declared.prepared.Prepared.{Prepared}
use Rattle.bl_load.specs.declared.prepared.Prepared.TheVariants.{Nothing, Plan, Rows, End}
use Rattle.bl_load.proofs.RowLists.{length-rows}
use Rattle.bl_load.proofs.Resumed.{still_open}
use Rattle.bl_load.proofs.SourceBytes.{table_at}

-- the open file as its rows
abbrev table_of : List ℕ → OpenFile → Fields → List Fields → Table
table_of name file header records = read_table name file.columns header records

at_path : (files : Files) (path : List ℕ) (feed : Feed) (file : OpenFile) (fresh : IsFreshFile files file) → IsAtFeed path feed file → IsFileAt files path feed.name (table_of feed.name file fresh.header fresh.records)
at_path files path feed file fresh at =
    let is : IsOpen fresh.header fresh.records file = fresh.is in
    table_at files path feed.name fresh.bytes (table_of feed.name file fresh.header fresh.records)
    (subst (λ p. HasBytes files p feed.name fresh.bytes) at.source (subst (λ n. HasBytes files file.source n fresh.bytes) at.name fresh.has))
    (sym (λ i. is_compressed (file_path (at.source i) (at.name i))) ∙ fresh.plain) fresh.small
    (subst (λ all. IsContentTable feed.name all (table_of feed.name file fresh.header fresh.records)) (sym fresh.contents_are) (inl (file.columns, is.meaning, refl)))

still : (files : Files) (path : List ℕ) (feed : Feed) (file : OpenFile) (fresh : IsFreshFile files file) → IsAtFeed path feed file → IsStill feed (table_of feed.name file fresh.header fresh.records)
still files path feed file fresh at = still_open fresh.header fresh.records file feed feed.name fresh.is at.kind at.taken at.digest

pub for_file : (files : Files) (path : List ℕ) (feed : Feed) (file : OpenFile) (held : Option OpenFile) (prepared : Prepared) (fresh : IsFreshFile files file) → IsAtFeed path feed file → GoesOnWith fresh.header fresh.records file held prepared → IsForFileAt files path feed prepared
for_file files path feed file held Nothing fresh at goes = absurd goes
for_file files path feed file held (Plan planned) fresh at goes = absurd goes
for_file files path feed file held (Rows rows) fresh at goes =
    let takes : TakesNext fresh.header fresh.records file goes.0 rows = goes.2 in (
      table_of feed.name file fresh.header fresh.records,
      at_path files path feed file fresh at,
      still files path feed file fresh at,
      takes.rows_are ∙ ap (λ k. next_batch (table_of feed.name file fresh.header fresh.records) k) at.taken,
      goes.3,
    )
for_file files path feed file held (End how) fresh at goes =
    subst (λ e. IsEndAt files path feed e) (sym goes.0) (
      table_of feed.name file fresh.header fresh.records,
      at_path files path feed file fresh at,
      still files path feed file fresh at,
      sym at.taken ∙ goes.1 ∙ sym (length-rows file.columns (fresh.header ∷ fresh.records) 0 fresh.records),
    )

pub fresh_after : (files : Files) (file : OpenFile) (held : Option OpenFile) (prepared : Prepared) (fresh : IsFreshFile files file) → GoesOnWith fresh.header fresh.records file held prepared → IsFresh files held
fresh_after files file held Nothing fresh goes = absurd goes
fresh_after files file held (Plan planned) fresh goes = absurd goes
fresh_after files file held (Rows rows) fresh goes =
    let new : OpenFile = goes.0 in
    let takes : TakesNext fresh.header fresh.records file new rows = goes.2 in
    subst (λ h. IsFresh files h) (sym goes.1) (record {
      bytes = fresh.bytes;
      has = subst (λ p. HasBytes files p new.name fresh.bytes) (sym takes.same.source) (subst (λ n. HasBytes files file.source n fresh.bytes) (sym takes.same.name) fresh.has);
      plain = (λ i. is_compressed (file_path (takes.same.source i) (takes.same.name i))) ∙ fresh.plain;
      small = fresh.small;
      header = fresh.header;
      records = fresh.records;
      contents_are = fresh.contents_are;
      is = takes.is;
    })
fresh_after files file held (End how) fresh goes = subst (λ h. IsFresh files h) (sym goes.2) tt

-- ---- of a source

pub of_source : (files : Files) (source path : List ℕ) (feed : Feed) (prepared : Prepared) → path_of source ≡ Some path → IsForFileAt files path feed prepared → IsForFile files source feed prepared
of_source files source path feed Nothing is for = absurd for
of_source files source path feed (Plan planned) is for = absurd for
of_source files source path feed (Rows rows) is for = (for.0, (path, is, for.1), for.2, for.3, for.4)
of_source files source path feed (End end.Completed) is for = (for.0, (path, is, for.1), for.2, for.3)
of_source files source path feed (End end.Modified) is for = λ table of. for table (subst (λ p. IsFileAt files p feed.name table) (some_same of.0 path (sym of.1 ∙ is)) of.2)
of_source files source path feed (End end.ReadError) is for = tt
of_source files source path feed (End (end.Stopped log)) is for = absurd for

pub of_no_source : (files : Files) (source : List ℕ) (feed : Feed) → path_of source ≡ None → IsForFile files source feed (End end.Modified)
of_no_source files source feed none table of = let e = sym none ∙ of.1 in absurd (cc)

-- ---- an open file goes on

pub empty_rows : (rows : List DigestRow) → (length rows == 0) ≡ true → rows ≡ []
empty_rows [] is = refl
empty_rows (row ∷ rows) is = let none : length (row ∷ rows) ≡ 0 = eqb-true (length (row ∷ rows)) 0 is in absurd (omega arith)

pub some_rows : (rows : List DigestRow) → (length rows == 0) ≡ false → rows ≢ []
some_rows rows is none = true≢false (sym (ap (λ l. length l == 0) none) ∙ is)

pub no_fault : (header : Fields) (records : List Fields) (file : OpenFile) (held : Option OpenFile) (prepared : Prepared) → GoesOnWith header records file held prepared → is_fault prepared ≡ false
no_fault header records file held Nothing goes = absurd goes
no_fault header records file held (Plan planned) goes = absurd goes
no_fault header records file held (Rows rows) goes = refl
no_fault header records file held (End how) goes = ap (λ e. is_fault (End e)) goes.0

pub fresh_result : (files : Files) (file : OpenFile) (held : Option OpenFile) (result : Result Prepared NoRoom) (fresh : IsFreshFile files file) → IfOk result (GoesOnWith fresh.header fresh.records file held) → OnErr result (held ≡ None) → IsFresh files held
fresh_result files file held (Ok prepared) fresh goes none = fresh_after files file held prepared fresh goes
fresh_result files file held (Err why) fresh goes none = subst (λ h. IsFresh files h) (sym none) tt
