-- Records that are read one after another.
use Rattle.std.specs.Prelude.{◌≡◌, ◌≤◌, ◌<◌, ◌^◌, ℕ, ◌+◌, List, [], ◌∷◌, ◌++◌, map, length, sum, refl, Some, None}
use Rattle.std.specs.List.{All}
use Rattle.std.proofs.Common.{sym, ap, subst, ◌∙◌, arith, append_assoc}
use Rattle.std.proofs.lemmas.List.{length-append, map-append}
use Rattle.std.proofs.lemmas.List.Elements.{All-push}
use Rattle.std.proofs.lemmas.Option.{same_Some}
use Rattle.bl_outside.specs.declared.digest.Digest.{Digest}
use Rattle.bl_rows.specs.Contents.{Fields, IsShort}
use Rattle.bl_rows.specs.Digests.{digest_after}
use Rattle.bl_rows.specs.RowReaders.{GivesRow, Stands}
use Rattle.bl_rows.specs.declared.row_reader.RowReader.{RowReader}
use Rattle.bl_rows.proofs.RowsLeft.{GaveRow, gave_row, none_left}
use Rattle.bl_chain.specs.BatchSizes.{field_bytes}
use Rattle.bl_chain.specs.Folders.{digest_of}
use Rattle.bl_load.specs.Gathering.{Gathers, digests_behind, most_field_bytes}
use Rattle.bl_load.specs.declared.gathering.Gathered.{Gathered}
use Rattle.bl_load.proofs.Bounds.{field_bound}
use Rattle.bl_load.proofs.Resumed.{same_digest}
use Rattle.bl_load.proofs.RowLists.{digests-push}

pub short_row : (all left : List Fields) (taken : ℕ) (after : RowReader) (fields : Fields) → GivesRow all taken left after (Some fields) → IsShort fields
short_row all [] taken after fields gives = absurd (cc (gives.0))
short_row all (row ∷ left) taken after fields gives = subst IsShort (sym (same_Some fields row gives.0)) gives.1

pub gathered_end : (all : List Fields) (before : ℕ) (left : List Fields) (reader after : RowReader) (got : Gathered) (inv : Gathers all before left reader got) → GivesRow all (before + length got.records) inv.rest after None → (them : Gathers all before left after got) × (them.rest ≡ [])
gathered_end all before left reader after got inv gives =
    let none : inv.rest ≡ [] = none_left all inv.rest (before + length got.records) after gives in
    let ended : GivesRow all (before + length got.records) [] after None = subst (λ r. GivesRow all (before + length got.records) r after None) none gives in (
      record {
        rest = [];
        are = inv.are ∙ ap (λ r. got.records ++ r) none;
        stands = ended.1;
        digests_are = inv.digests_are;
        sizes_are = inv.sizes_are;
        bounded = inv.bounded;
      },
      refl,
    )

pub gathered_more : (all : List Fields) (before : ℕ) (left : List Fields) (reader after : RowReader) (got new : Gathered) (fields : Fields) (digest : Digest) (size : ℕ) (inv : Gathers all before left reader got)
    → GivesRow all (before + length got.records) inv.rest after (Some fields)
    → ((rest : List Fields) → Stands after all (before + length got.records + 1) rest → digest.bytes ≡ digest_after all (before + length got.records + 1))
    → size ≡ field_bytes fields → new.records ≡ got.records ++ fields ∷ [] → new.digests ≡ got.digests ++ digest ∷ [] → new.sizes ≡ got.sizes ++ size ∷ []
    → Gathers all before left after new
gathered_more all before left reader after got new fields digest size inv gives digest_is size_is records_are digests_are sizes_are =
    let gave : GaveRow all inv.rest (before + length got.records) after fields = gave_row all inv.rest (before + length got.records) after fields gives in
    let short : IsShort fields = short_row all inv.rest (before + length got.records) after fields gives in
    let count : length new.records ≡ length got.records + 1 = ap (λ l. length l) records_are ∙ length-append got.records (fields ∷ []) in
    let place : before + length got.records + 1 ≡ before + length new.records = omega arith in
    let bound : size ≤ most_field_bytes = subst (λ n. n ≤ most_field_bytes) (sym size_is) (field_bound fields short) in
    record {
      rest = gave.rest;
      are = inv.are ∙ ap (λ r. got.records ++ r) gave.is ∙ sym (append_assoc got.records (fields ∷ []) gave.rest) ∙ ap (λ l. l ++ gave.rest) (sym records_are);
      stands = subst (λ k. Stands after all k gave.rest) place gave.stands;
      digests_are =
          digests_are
          ∙ (λ i. inv.digests_are i ++ same_digest digest (digest_after all (before + length got.records + 1)) (digest_is gave.rest gave.stands) i ∷ [])
          ∙ sym (digests-push all before got.records fields)
          ∙ ap (λ l. digests_behind all before l) (sym records_are);
      sizes_are =
          sizes_are
          ∙ (λ i. inv.sizes_are i ++ size_is i ∷ [])
          ∙ sym (map-append field_bytes got.records (fields ∷ []))
          ∙ ap (λ l. map field_bytes l) (sym records_are);
      bounded = subst (λ l. All (λ n. n ≤ most_field_bytes) l) (sym sizes_are) (All-push (λ n. n ≤ most_field_bytes) got.sizes size inv.bounded bound);
    }

pub short_bytes : (fields : Fields) → IsShort fields → field_bytes fields < 2 ^ 64
short_bytes fields short = let b : field_bytes fields ≤ most_field_bytes = field_bound fields short in omega arith
