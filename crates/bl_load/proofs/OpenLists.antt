-- An open file takes rows in, and hands rows out.
use Rattle.std.specs.Prelude.{◌≡◌, ◌≤◌, ◌<◌, ◌⊎◌, ◌^◌, ℕ, ◌+◌, ◌-◌, List, [], ◌∷◌, ◌++◌, map, take, drop, length, sum, refl}
use Rattle.std.specs.List.{All}
use Rattle.std.proofs.Common.{sym, ap, subst, ◌∙◌, arith, inl, inr, append_assoc}
use Rattle.std.proofs.lemmas.List.{map-append, length-append, length-drop, length-map, length-take-le, drop-drop, drop-append-le, take-append-le}
use Rattle.std.proofs.lemmas.List.Elements.{All-append, All-cons, All-drop, All-head, All-nil, All-tail, All-take}
use Rattle.std.proofs.lemmas.List.Sums.{sum_by-append}
use Rattle.bl_outside.specs.declared.digest.Digest.{Digest}
use Rattle.bl_value.specs.ValidRows.{IsRow}
use Rattle.bl_value.specs.declared.row.Row.{Row}
use Rattle.bl_value.specs.declared.row.DigestRow.{DigestRow}
use Rattle.bl_value.specs.declared.column.Columns.{Columns}
use Rattle.bl_rows.specs.Contents.{Fields}
use Rattle.bl_rows.specs.Digests.{digest_after}
use Rattle.bl_rows.specs.FirstFaults.{record_row}
use Rattle.bl_rows.specs.RowReaders.{Stands}
use Rattle.bl_rows.specs.declared.row_reader.RowReader.{RowReader}
use Rattle.bl_job.specs.Batched.{AreValidRows}
use Rattle.bl_world.specs.Makings.{digest_behind}
use Rattle.bl_chain.specs.BatchSizes.{field_bytes, most_bytes, most_rows, no_rows}
use Rattle.bl_chain.specs.Folders.{digest_of, read_table, rows_behind}
use Rattle.bl_chain.specs.NextEntries.{batch_from, next_batch}
use Rattle.bl_load.specs.Gathering.{Gathers, GathersEnough, IsEnough, digest_rows, digests_behind, most_field_bytes}
use Rattle.bl_load.specs.OpenFiles.{IsFilled, IsOpen}
use Rattle.bl_load.specs.Batching.{HandsOut, IsRefilled, IsSameFile, TakesNext}
use Rattle.bl_load.specs.declared.gathering.Gathered.{Gathered}
use Rattle.bl_load.specs.declared.open_file.OpenFile.{OpenFile}
use Rattle.bl_load.proofs.RowLists.{digest_behind-rows, digest_rows-are, drop-rows, length-digests, length-rows, rows-append}
use Rattle.bl_load.proofs.Batches.{batch_of_enough}

-- ---- rows are taken in

valid_rows : (rows : List Row) (digests : List Digest) → All IsRow rows → AreValidRows (digest_rows rows digests)
valid_rows [] digests all = All-nil (λ (r : DigestRow). IsRow r.row)
valid_rows (row ∷ rows) [] all = All-nil (λ (r : DigestRow). IsRow r.row)
valid_rows (row ∷ rows) (digest ∷ digests) all =
    All-cons (λ (r : DigestRow). IsRow r.row) (record { row = row; digest = digest }) (digest_rows rows digests) (All-head IsRow row rows all) (valid_rows rows digests (All-tail IsRow row rows all))

-- the file with what was gathered
abbrev pub grown : OpenFile → RowReader → List DigestRow → List ℕ → OpenFile
grown old reader rows sizes = record old { reader = reader; rows = old.rows ++ rows; sizes = old.sizes ++ sizes }

enough_more : (bytes : ℕ) (old : OpenFile) (got : Gathered) (rows : List DigestRow) (left : List Fields) → bytes ≤ sum old.sizes → length (old.rows ++ rows) ≡ length old.rows + length got.records → IsEnough (length old.rows + length got.records) (bytes + sum got.sizes) left → IsEnough (length (old.rows ++ rows)) (sum (old.sizes ++ got.sizes)) left
enough_more bytes old got rows left less count (inl none) = inl none
enough_more bytes old got rows left less count (inr (inl many)) = inr (inl (omega arith))
enough_more bytes old got rows left less count (inr (inr large)) =
    let e : sum (old.sizes ++ got.sizes) ≡ sum old.sizes + sum got.sizes = sum_by-append (λ n. n) old.sizes got.sizes in inr (inr (omega arith))

pub refilled : (header : Fields) (records : List Fields) (old : OpenFile) (reader : RowReader) (got : Gathered) (rows : List Row) (them : List DigestRow) (bytes : ℕ) (is : IsOpen header records old)
    → bytes ≤ sum old.sizes → GathersEnough (header ∷ records) (old.taken + length old.rows) is.left (length old.rows) bytes reader got
    → rows ≡ map (record_row old.columns) got.records → All IsRow rows → them ≡ digest_rows rows got.digests → IsRefilled header records old (grown old reader them got.sizes)
refilled header records old reader got rows them bytes is less gathers rows_are all them_are =
    let all_records : List Fields = header ∷ records in
    let n : ℕ = old.taken + length old.rows in
    let g : Gathers all_records n is.left reader got = gathers.0 in
    let few : length old.rows + length got.records ≤ most_rows = gathers.1 in
    let are : them ≡ rows_behind old.columns all_records n got.records = them_are ∙ (λ i. digest_rows (rows_are i) (g.digests_are i)) ∙ digest_rows-are old.columns all_records n got.records in
    let them_length : length them ≡ length got.records = ap (λ l. length l) are ∙ length-rows old.columns all_records n got.records in
    let count : length (old.rows ++ them) ≡ length old.rows + length got.records = length-append old.rows them ∙ ap (λ k. length old.rows + k) them_length in
    let place : n + length got.records ≡ old.taken + length (old.rows ++ them) = omega arith in
    let left_length : length is.left ≡ length got.records + length g.rest = ap (λ l. length l) g.are ∙ length-append got.records g.rest in
    let left_is : length is.left ≡ length (header ∷ records) - (n + 1) = ap (λ l. length l) is.stands.left_is ∙ length-drop (n + 1) (header ∷ records) in
    let sizes_length : length got.sizes ≡ length got.records = ap (λ l. length l) g.sizes_are ∙ length-map got.records field_bytes in
    let was_enough : n ≤ length records = is.enough in
    record {
      is = record {
        left = g.rest;
        stands = subst (λ k. Stands reader all_records k g.rest) place g.stands;
        meaning = is.meaning;
        columns = is.columns;
        enough = omega arith;
        digest_is = is.digest_is;
        rows_are =
            is.rows_are
            ∙ ap (λ l. old.rows ++ rows_behind old.columns all_records n l) g.are
            ∙ ap (λ l. old.rows ++ l) (rows-append old.columns all_records n got.records g.rest)
            ∙ sym (append_assoc old.rows (rows_behind old.columns all_records n got.records) (rows_behind old.columns all_records (n + length got.records) g.rest))
            ∙ ap (λ l. (old.rows ++ l) ++ rows_behind old.columns all_records (n + length got.records) g.rest) (sym are)
            ∙ ap (λ k. (old.rows ++ them) ++ rows_behind old.columns all_records k g.rest) place;
        sizes_are =
            is.sizes_are
            ∙ ap (λ l. old.sizes ++ map field_bytes l) g.are
            ∙ ap (λ l. old.sizes ++ l) (map-append field_bytes got.records g.rest)
            ∙ sym (append_assoc old.sizes (map field_bytes got.records) (map field_bytes g.rest))
            ∙ ap (λ l. (old.sizes ++ l) ++ map field_bytes g.rest) (sym g.sizes_are);
        lengths = length-append old.sizes got.sizes ∙ (λ i. is.lengths i + sizes_length i) ∙ sym count;
        few = subst (λ k. k ≤ most_rows) (sym count) few;
        valid = All-append (λ (r : DigestRow). IsRow r.row) old.rows them is.valid (subst AreValidRows (sym them_are) (valid_rows rows got.digests all));
        bounded = All-append (λ size. size ≤ most_field_bytes) old.sizes got.sizes is.bounded g.bounded;
      };
      filled = enough_more bytes old got them g.rest less count gathers.2;
      taken = refl;
      same = record { source = refl; name = refl; columns = refl };
    }

-- ---- rows are handed out

abbrev pub shrunk : OpenFile → ℕ → OpenFile
shrunk old count =
    record old { rows = drop count old.rows; sizes = drop count old.sizes; taken = old.taken + count; digest = digest_behind old.digest (take count old.rows) }

pub handed_out : (header : Fields) (records : List Fields) (old : OpenFile) (count : ℕ) → IsOpen header records old → count ≤ length old.rows → HandsOut header records old count (shrunk old count) (take count old.rows)
handed_out header records old count is within =
    let all_records : List Fields = header ∷ records in
    let n : ℕ = old.taken + length old.rows in
    let was_enough : n ≤ length records = is.enough in
    let rest : length (drop count old.rows) ≡ length old.rows - count = length-drop count old.rows in
    let rest_sizes : length (drop count old.sizes) ≡ length old.sizes - count = length-drop count old.sizes in
    let place : n ≡ old.taken + count + length (drop count old.rows) = omega arith in
    let lengths : length old.sizes ≡ length old.rows = is.lengths in
    let front : take count old.rows ≡ take count (rows_behind old.columns all_records (0 + old.taken) (drop old.taken records)) =
    sym (take-append-le count old.rows (rows_behind old.columns all_records n is.left) within)
    ∙ ap (λ l. take count l) (sym is.rows_are ∙ drop-rows old.columns all_records 0 old.taken records) in
    let left_length : length (drop old.taken records) ≡ length records - old.taken = length-drop old.taken records in
    let taken_is : 0 + old.taken ≡ old.taken = omega arith in
    let digests : digest_behind old.digest (take count old.rows) ≡ digest_of (digest_after all_records (0 + old.taken + count)) =
    (λ i. digest_behind ((is.digest_is ∙ ap (λ k. digest_of (digest_after all_records k)) (sym taken_is)) i) (front i))
    ∙ digest_behind-rows old.columns all_records (0 + old.taken) count (drop old.taken records) (omega arith) in
    record {
      is = record {
        left = is.left;
        stands = subst (λ k. Stands old.reader all_records k is.left) place is.stands;
        meaning = is.meaning;
        columns = is.columns;
        enough = subst (λ k. k ≤ length records) place was_enough;
        digest_is = digests ∙ ap (λ k. digest_of (digest_after all_records (k + count))) taken_is;
        rows_are =
            sym (drop-drop count old.taken (rows_behind old.columns all_records 0 records))
            ∙ ap (λ l. drop count l) is.rows_are
            ∙ drop-append-le count old.rows (rows_behind old.columns all_records n is.left) within
            ∙ ap (λ k. drop count old.rows ++ rows_behind old.columns all_records k is.left) place;
        sizes_are =
            sym (drop-drop count old.taken (map field_bytes records))
            ∙ ap (λ l. drop count l) is.sizes_are
            ∙ drop-append-le count old.sizes (map field_bytes is.left) (omega arith);
        lengths = omega arith;
        few = (let few : length old.rows ≤ most_rows = is.few in omega arith);
        valid = All-drop (λ (r : DigestRow). IsRow r.row) count old.rows is.valid;
        bounded = All-drop (λ size. size ≤ most_field_bytes) count old.sizes is.bounded;
      };
      rows_are = refl;
      same = record { source = refl; name = refl; columns = refl };
    }

-- ---- the next rows

none_left : (columns : Columns) (all : List Fields) (before : ℕ) (left : List Fields) (rows bytes : ℕ) → IsEnough rows bytes left → (rows_behind columns all before left ≡ []) ⊎ ((most_rows ≤ rows) ⊎ (most_bytes ≤ bytes))
none_left columns all before left rows bytes (inl none) = inl (ap (λ l. rows_behind columns all before l) none)
none_left columns all before left rows bytes (inr more) = inr more

-- a batch of the file is one of the rows that wait
pub next_waiting : (header : Fields) (records : List Fields) (old new : OpenFile) (refill : IsRefilled header records old new) → next_batch (read_table [] old.columns header records) old.taken ≡ batch_from no_rows new.rows new.sizes
next_waiting header records old new refill =
    let is : IsOpen header records new = refill.is in
    let all_records : List Fields = header ∷ records in
    sym (λ i. batch_from no_rows (drop (refill.taken i) (rows_behind (refill.same.columns i) all_records 0 records)) (drop (refill.taken i) (map field_bytes records)))
    ∙ (λ i. batch_from no_rows (is.rows_are i) (is.sizes_are i))
    ∙ batch_of_enough new.rows (rows_behind new.columns all_records (new.taken + length new.rows) is.left) new.sizes (map field_bytes is.left) is.lengths
    (none_left new.columns all_records (new.taken + length new.rows) is.left (length new.rows) (sum new.sizes) refill.filled)

-- ---- the same, by what each field became

pub refilled_as : (header : Fields) (records : List Fields) (old : OpenFile) (reader : RowReader) (got : Gathered) (rows : List Row) (them new_rows : List DigestRow) (new_sizes : List ℕ) (bytes : ℕ) (is : IsOpen header records old)
    → bytes ≤ sum old.sizes → GathersEnough (header ∷ records) (old.taken + length old.rows) is.left (length old.rows) bytes reader got
    → rows ≡ map (record_row old.columns) got.records → All IsRow rows → them ≡ digest_rows rows got.digests → new_rows ≡ old.rows ++ them → new_sizes ≡ old.sizes ++ got.sizes
    → IsRefilled header records old (record old { reader = reader; rows = new_rows; sizes = new_sizes })
refilled_as header records old reader got rows them new_rows new_sizes bytes is less gathers rows_are all them_are new_rows_are new_sizes_are =
    let path : grown old reader them got.sizes ≡ record old { reader = reader; rows = new_rows; sizes = new_sizes } = sym (λ i. record old { reader = reader; rows = new_rows_are i; sizes = new_sizes_are i }) in
    subst (λ n. IsRefilled header records old n) path (refilled header records old reader got rows them bytes is less gathers rows_are all them_are)

pub handed_as : (header : Fields) (records : List Fields) (old : OpenFile) (count : ℕ) (out new_rows : List DigestRow) (new_sizes : List ℕ) (new_taken : ℕ) (new_digest : Digest) → IsOpen header records old → count ≤ length old.rows
    → new_rows ≡ drop count old.rows → new_sizes ≡ drop count old.sizes → new_taken ≡ old.taken + count → new_digest ≡ digest_behind old.digest (take count old.rows) → out ≡ take count old.rows
    → HandsOut header records old count (record old { rows = new_rows; sizes = new_sizes; taken = new_taken; digest = new_digest }) out
handed_as header records old count out new_rows new_sizes new_taken new_digest is within rows_are sizes_are taken_is digest_is out_is =
    let path : shrunk old count ≡ record old { rows = new_rows; sizes = new_sizes; taken = new_taken; digest = new_digest } = sym (λ i. record old { rows = rows_are i; sizes = sizes_are i; taken = taken_is i; digest = digest_is i }) in
    subst (λ n. HandsOut header records old count n out) path (subst (λ o. HandsOut header records old count (shrunk old count) o) (sym out_is) (handed_out header records old count is within))

-- ---- what comes next

pub takes_next : (header : Fields) (records : List Fields) (old filled new : OpenFile) (count : ℕ) (out : List DigestRow) (refill : IsRefilled header records old filled) → batch_from no_rows filled.rows filled.sizes ≡ take count filled.rows → HandsOut header records filled count new out → TakesNext header records old new out
takes_next header records old filled new count out refill cut hands =
    record {
      is = hands.is;
      rows_are = hands.rows_are ∙ sym cut ∙ sym (next_waiting header records old filled refill);
      same = record {
        source = hands.same.source ∙ refill.same.source;
        name = hands.same.name ∙ refill.same.name;
        columns = hands.same.columns ∙ refill.same.columns;
      };
    }

-- so many rows fit behind those that were taken
pub few_taken : (header : Fields) (records : List Fields) (old filled : OpenFile) (count : ℕ) (out : List DigestRow) (refill : IsRefilled header records old filled) → count ≤ length filled.rows → out ≡ take count filled.rows → old.taken + length out < 2 ^ 40
few_taken header records old filled count out refill within is =
    let open_file : IsOpen header records filled = refill.is in
    let enough : filled.taken + length filled.rows ≤ length records = open_file.enough in
    let few : length (header ∷ records) ≤ 268435457 = open_file.stands.few in
    let same : filled.taken ≡ old.taken = refill.taken in
    let count_is : length out ≡ count = ap (λ l. length l) is ∙ length-take-le count filled.rows within in
    omega arith

-- where none comes next all were taken
pub none_next : (header : Fields) (records : List Fields) (old : OpenFile) (is : IsOpen header records old) → [] ≡ next_batch (read_table [] old.columns header records) old.taken → old.taken ≡ length records
none_next header records old is none =
    let all_records : List Fields = header ∷ records in
    let rows_length : length (drop old.taken (rows_behind old.columns all_records 0 records)) ≡ length records - old.taken = length-drop old.taken (rows_behind old.columns all_records 0 records) ∙ ap (λ n. n - old.taken) (length-rows old.columns all_records 0 records) in
    let sizes_length : length (drop old.taken (map field_bytes records)) ≡ length records - old.taken = length-drop old.taken (map field_bytes records) ∙ ap (λ n. n - old.taken) (length-map records field_bytes) in
    let no_more : length records - old.taken ≡ 0 = by (drop old.taken (rows_behind old.columns all_records 0 records)) (drop old.taken (map field_bytes records)) (length records - old.taken) rows_length sizes_length none in
    let enough : old.taken + length old.rows ≤ length records = is.enough in
    omega arith where
      by : (rows : List DigestRow) (sizes : List ℕ) (n : ℕ) → length rows ≡ n → length sizes ≡ n → [] ≡ batch_from no_rows rows sizes → n ≡ 0
      by [] sizes n h k none = sym h
      by (row ∷ rows) [] n h k none = sym k
      by (row ∷ rows) (size ∷ sizes) n h k none = absurd (cc)
