-- Rows of records, one after another.
use Rattle.std.specs.Prelude.{◌≡◌, ◌≤◌, ℕ, zero, suc, ◌+◌, ◌-◌, List, [], ◌∷◌, ◌++◌, map, take, drop, length, slice_get, Some, refl}
use Rattle.std.proofs.Common.{ap, ◌∙◌, arith}
use Rattle.std.proofs.lemmas.Option.{same_Some}
use Rattle.bl_outside.specs.declared.digest.Digest.{Digest}
use Rattle.bl_value.specs.declared.column.Columns.{Columns}
use Rattle.bl_value.specs.declared.row.DigestRow.{DigestRow}
use Rattle.bl_rows.specs.Contents.{Fields}
use Rattle.bl_rows.specs.Digests.{digest_after}
use Rattle.bl_rows.specs.FirstFaults.{record_row}
use Rattle.bl_world.specs.Makings.{digest_behind}
use Rattle.bl_chain.specs.Folders.{digest_of, rows_behind}
use Rattle.bl_load.specs.Gathering.{digest_rows, digests_behind}

abbrev the_row : Columns → List Fields → ℕ → Fields → DigestRow
the_row columns all before fields = record { row = record_row columns fields; digest = digest_of (digest_after all (before + 1)) }

pub length-rows : (columns : Columns) (all : List Fields) (before : ℕ) (records : List Fields) → length (rows_behind columns all before records) ≡ length records
length-rows columns all before [] = refl
length-rows columns all before (fields ∷ records) = ap (λ n. suc n) (length-rows columns all (before + 1) records)

pub length-digests : (all : List Fields) (before : ℕ) (records : List Fields) → length (digests_behind all before records) ≡ length records
length-digests all before [] = refl
length-digests all before (fields ∷ records) = ap (λ n. suc n) (length-digests all (before + 1) records)

pub drop-rows : (columns : Columns) (all : List Fields) (before k : ℕ) (records : List Fields) → drop k (rows_behind columns all before records) ≡ rows_behind columns all (before + k) (drop k records)
drop-rows columns all before zero records = let e : before ≡ before + 0 = omega arith in ap (λ n. rows_behind columns all n records) e
drop-rows columns all before (suc k) [] = refl
drop-rows columns all before (suc k) (fields ∷ records) =
    let e : before + 1 + k ≡ before + suc k = omega arith in
    drop-rows columns all (before + 1) k records ∙ ap (λ n. rows_behind columns all n (drop k records)) e

pub rows-append : (columns : Columns) (all : List Fields) (before : ℕ) (xs ys : List Fields) → rows_behind columns all before (xs ++ ys) ≡ rows_behind columns all before xs ++ rows_behind columns all (before + length xs) ys
rows-append columns all before [] ys = let e : before ≡ before + 0 = omega arith in ap (λ n. rows_behind columns all n ys) e
rows-append columns all before (x ∷ xs) ys =
    let e : before + 1 + length xs ≡ before + suc (length xs) = omega arith in
    ap (λ l. the_row columns all before x ∷ l) (rows-append columns all (before + 1) xs ys ∙ ap (λ n. rows_behind columns all (before + 1) xs ++ rows_behind columns all n ys) e)

pub digests-push : (all : List Fields) (before : ℕ) (xs : List Fields) (y : Fields) → digests_behind all before (xs ++ y ∷ []) ≡ digests_behind all before xs ++ digest_of (digest_after all (before + length xs + 1)) ∷ []
digests-push all before [] y = let e : before ≡ before + 0 = omega arith in ap (λ n. digest_of (digest_after all (n + 1)) ∷ []) e
digests-push all before (x ∷ xs) y =
    let e : before + 1 + length xs ≡ before + suc (length xs) = omega arith in
    ap (λ l. digest_of (digest_after all (before + 1)) ∷ l) (digests-push all (before + 1) xs y ∙ ap (λ n. digests_behind all (before + 1) xs ++ digest_of (digest_after all (n + 1)) ∷ []) e)

pub digest_rows-are : (columns : Columns) (all : List Fields) (before : ℕ) (records : List Fields) → digest_rows (map (record_row columns) records) (digests_behind all before records) ≡ rows_behind columns all before records
digest_rows-are columns all before [] = refl
digest_rows-are columns all before (fields ∷ records) = ap (λ l. the_row columns all before fields ∷ l) (digest_rows-are columns all (before + 1) records)

pub digest_behind-rows : (columns : Columns) (all : List Fields) (before k : ℕ) (records : List Fields) → k ≤ length records → digest_behind (digest_of (digest_after all before)) (take k (rows_behind columns all before records)) ≡ digest_of (digest_after all (before + k))
digest_behind-rows columns all before zero records within = let e : before ≡ before + 0 = omega arith in ap (λ n. digest_of (digest_after all n)) e
digest_behind-rows columns all before (suc k) [] within = absurd (omega arith)
digest_behind-rows columns all before (suc k) (fields ∷ records) within =
    let e : before + 1 + k ≡ before + suc k = omega arith in
    digest_behind-rows columns all (before + 1) k records (omega arith) ∙ ap (λ n. digest_of (digest_after all n)) e

-- the digest behind rows is that of the last
pub last_digest : (before : Digest) (rows : List DigestRow) (row : DigestRow) → Some row ≡ slice_get rows (length rows - 1) → row.digest ≡ digest_behind before rows
last_digest before [] row is = absurd (cc)
last_digest before (x ∷ []) row is = ap (λ (r : DigestRow). r.digest) (same_Some row x is)
last_digest before (x ∷ (y ∷ rest)) row is =
    let one : length (x ∷ (y ∷ rest)) - 1 ≡ suc (length rest) = omega arith in
    let two : length rest ≡ length (y ∷ rest) - 1 = omega arith in
    last_digest x.digest (y ∷ rest) row (is ∙ ap (λ k. slice_get (x ∷ (y ∷ rest)) k) one ∙ ap (λ k. slice_get (y ∷ rest) k) two)
