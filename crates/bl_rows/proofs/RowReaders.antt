-- Where a reader of rows stands, before and after one of them.
use Rattle.std.proofs.Common.{◌≡◌, ◌∙◌, ◌<◌, ◌≤◌, ◌+◌, ◌-◌, ◌++◌, ◌^◌, ℕ, None, Some, List, [], ◌∷◌, length, drop, get_or, min, refl, sym, ap, add-one, arith, true, false}
use Rattle.std.proofs.lemmas.List.{drop_more, length-drop}
use Rattle.sha2.specs.Sha256.{sha256}
use Rattle.bl_rows.specs.Contents.{Fields, rows_of}
use Rattle.bl_rows.specs.Digests.{digest_after, record_text}
use Rattle.bl_rows.specs.RecordReaders.{GivesNext}
use Rattle.bl_rows.specs.RowReaders.{GivesRow, Stands}
use Rattle.bl_rows.specs.declared.row_reader.RowReader.{RowReader}

-- the first of what is left stands there in the whole
first-left : (all : List Fields) (i : ℕ) (row : Fields) (left : List Fields) → row ∷ left ≡ drop i all → (i < length all) × (row ≡ get_or all i []) × (left ≡ drop (i + 1) all)
first-left all i row left is =
    let within : i < length all = omega (arith, ap length is, length-drop i all) in
    let first = is ∙ drop_more all i [] within in
    (within, cc first, cc first)

digest-more : (all : List Fields) (taken : ℕ) → digest_after all (taken + 1) ≡ sha256 (digest_after all taken ++ record_text (get_or all (taken + 1) []))
unfolding digest_after
digest-more all taken = rw (add-one taken) refl

-- a reader that finds no record had none left
pub gives-no-row : (it after : RowReader) (all : List Fields) (taken : ℕ) (left : List Fields) → Stands it all taken left → GivesNext left after.left None
    → after.header ≡ it.header → after.is_empty ≡ it.is_empty → after.taken ≡ it.taken → after.digest ≡ it.digest → GivesRow all taken left after None
gives-no-row it after all taken [] stands gives header empty count digest = (
  refl,
  record {
    header_is = header ∙ stands.header_is;
    header_short = stands.header_short;
    empty_is = empty ∙ stands.empty_is;
    count_is = count ∙ stands.count_is;
    digest_is = digest ∙ stands.digest_is;
    left_is = stands.left_is;
    has_left = gives.1;
    few = stands.few;
  },
)
gives-no-row it after all taken (row ∷ left) stands gives header empty count digest = cc gives.0

-- a reader that finds a record has the others left
pub gives-row : (it after : RowReader) (all : List Fields) (taken : ℕ) (left : List Fields) (fields : Fields) → Stands it all taken left → GivesNext left after.left (Some fields)
    → after.header ≡ it.header → after.is_empty ≡ it.is_empty → after.taken ≡ min (it.taken + 1) (2 ^ 64 - 1)
    → after.digest ≡ sha256 (it.digest ++ record_text fields) → GivesRow all taken left after (Some fields)
gives-row it after all taken [] fields stands gives header empty count digest = cc gives.0
gives-row it after all taken (row ∷ left) fields stands gives header empty count digest =
    let (within, first, rest) = first-left all (taken + 1) row left stands.left_is in
    let same : fields ≡ row = cc gives.0 in (
      gives.0,
      gives.2,
      record {
        header_is = header ∙ stands.header_is;
        header_short = stands.header_short;
        empty_is = empty ∙ stands.empty_is;
        count_is = omega (arith, count, stands.count_is, stands.few, within);
        digest_is = digest ∙ (λ i. sha256 (stands.digest_is i ++ record_text ((same ∙ first) i))) ∙ sym (digest-more all taken);
        left_is = rest;
        has_left = gives.1;
        few = stands.few;
      },
    )

-- a reader of a file without a record
pub starts-empty : (it : RowReader) (all : List Fields) → GivesNext all it.left None → length all ≤ 268435457
    → it.header ≡ [] → it.is_empty ≡ true → it.taken ≡ 0 → it.digest ≡ sha256 [] → Stands it all 0 (rows_of all)
unfolding digest_after
starts-empty it [] gives few header empty count digest =
    record {
      header_is = header;
      header_short = record { few = omega arith; each = λ k d none. absurd (omega (arith, none)) };
      empty_is = empty;
      count_is = count;
      digest_is = digest;
      left_is = refl;
      has_left = gives.1;
      few = few;
    }
starts-empty it (first ∷ rows) gives few header empty count digest = cc gives.0

-- a reader behind the header
pub starts-behind : (it : RowReader) (all : List Fields) (fields : Fields) → GivesNext all it.left (Some fields) → length all ≤ 268435457
    → it.header ≡ fields → it.is_empty ≡ false → it.taken ≡ 0 → it.digest ≡ sha256 (record_text fields) → Stands it all 0 (rows_of all)
unfolding digest_after
starts-behind it [] fields gives few header empty count digest = cc gives.0
starts-behind it (first ∷ rows) fields gives few header empty count digest =
    let same : fields ≡ first = cc gives.0 in
    record {
      header_is = header ∙ same;
      header_short = gives.2;
      empty_is = empty;
      count_is = count;
      digest_is = digest ∙ ap (λ f. sha256 (record_text f)) same;
      left_is = refl;
      has_left = gives.1;
      few = few;
    }
