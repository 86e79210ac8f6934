-- A file that goes on is one of those that are told of its source.
use Rattle.std.specs.Prelude.{◌≡◌, ℕ, false, List, [], ◌∷◌, ◌++◌, None, Some, refl, Contains}
use Rattle.std.specs.FinMap.{get}
use Rattle.std.specs.Str.{IsUtf8}
use Rattle.std.proofs.Common.{sym, subst, inl, inr}
use Rattle.std.proofs.lemmas.Bool.{true≢false}
use Rattle.bl_outside.specs.Folders.{Files, IsNameIn}
use Rattle.bl_value.specs.declared.row.DigestRow.{DigestRow}
use Rattle.bl_files.specs.declared.feed.Feed.{Feed}
use Rattle.bl_files.specs.declared.feed_end.FeedEnd.{FeedEnd}
use Rattle.bl_files.specs.declared.feed_end.FeedEnd.TheVariants as end
use Rattle.bl_chain.specs.Tables.{Table}
use Rattle.bl_chain.specs.Folders.{AreTablesAt, AreTablesOf, IsFileTable, IsInside}
use Rattle.bl_chain.specs.NextEntries.{IsDecidedEnd, IsNextRows}
use Rattle.bl_chain.specs.Turns.{GoesOn}
use Rattle.bl_chain.proofs.OneFolder.{file_named}
use Rattle.bl_load.specs.Prepares.{AreRowsFor, IsEndFor, is_fault}
use Rattle.bl_load.specs.Resuming.{IsStill}
use Rattle.bl_load.specs.SourceFiles.{IsFileAt}
use Rattle.bl_load.specs.declared.prepared.Prepared.TheVariants.{End}
use Rattle.bl_load.proofs.ToldTables.{only, tables_with}

goes_on : (tables : List Table) (feed : Feed) (table : Table) → Contains tables table → table.found.name ≡ feed.name → IsStill feed table → GoesOn tables feed table
goes_on tables feed table there name still = record { there = there; name = name; kind = still.kind; enough = still.enough; digest = still.digest }

-- ---- rows

pub rows_next : (files : Files) (source : List ℕ) (feed : Feed) (rows : List DigestRow) → AreRowsFor files source feed rows → (tables : List Table) × AreTablesOf files source tables × IsNextRows tables feed rows
rows_next files source feed rows h =
    let of = h.1 in
    let told = tables_with files of.0 feed.name h.0 of.2 in
    (told.0, (of.0, of.1, told.1), (h.0, goes_on told.0 feed h.0 told.2 told.3 h.2, h.3, h.4))

-- ---- an end

inside_file : (files : Files) (path name bytes : List ℕ) (table : Table) → get files path ≡ None → IsNameIn files path name → get files (path ++ 47 ∷ name) ≡ Some bytes → IsFileTable (path ++ 47 ∷ name) name bytes table → IsUtf8 name → IsFileAt files path name table
inside_file files path [] bytes table none is has table_is text = absurd (is.named refl)
inside_file files path (byte ∷ name) bytes table none is has table_is text = record { bytes = bytes; has = (none, text, is.flat, has); table_is = table_is }

-- one of the files of a source is the one of its name, where that is a text
file_at : (files : Files) (path : List ℕ) (tables : List Table) → AreTablesAt files path tables → (table : Table) → Contains tables table → IsUtf8 table.found.name → IsFileAt files path table.found.name table
file_at files path tables (inl x) table h text =
    let one : IsFileAt files path [] x.2 = record { bytes = x.0; has = x.1; table_is = x.3 } in
    subst (λ t. IsFileAt files path t.found.name t) (only x.2 table (subst (λ l. Contains l table) x.4 h)) (subst (λ n. IsFileAt files path n x.2) (sym (file_named path [] x.0 x.2 x.3).name_is) one)
file_at files path tables (inr x) table h text =
    let is : IsInside files path table = (x.3 table).0 h in
    let name : table.found.name ≡ is.0 = (file_named (path ++ 47 ∷ is.0) is.0 is.1 table is.4).name_is in
    subst (λ n. IsFileAt files path n table) (sym name) (inside_file files path is.0 is.1 table x.0 is.2 is.3 is.4 (subst IsUtf8 name text))

pub end_decided : (files : Files) (source : List ℕ) (feed : Feed) → IsUtf8 feed.name → (how : FeedEnd) → is_fault (End how) ≡ false → IsEndFor files source feed how → IsDecidedEnd (AreTablesOf files) source feed how
end_decided files source feed text end.Completed sound h =
    let of = h.1 in
    let told = tables_with files of.0 feed.name h.0 of.2 in
    (told.0, (of.0, of.1, told.1), (h.0, goes_on told.0 feed h.0 told.2 told.3 h.2, h.3))
end_decided files source feed text end.Modified sound h =
    λ tables told table goes.
    h table (told.0, told.1, subst (λ n. IsFileAt files told.0 n table) goes.name (file_at files told.0 tables told.2 table goes.there (subst (λ n. IsUtf8 n) (sym goes.name) text)))
    (record { kind = goes.kind; enough = goes.enough; digest = goes.digest })
end_decided files source feed text end.ReadError sound h = absurd (true≢false sound)
end_decided files source feed text (end.Stopped log) sound h = absurd h
