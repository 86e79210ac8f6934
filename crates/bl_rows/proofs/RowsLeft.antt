-- What a reader of rows has left.
use Rattle.std.specs.Prelude.{◌≡◌, ℕ, ◌+◌, List, [], ◌∷◌, None, Some, refl}
use Rattle.std.proofs.Common.{sym, ap}
use Rattle.std.proofs.lemmas.Option.{same_Some}
use Rattle.bl_rows.specs.Contents.{Fields}
use Rattle.bl_rows.specs.RowReaders.{GivesRow, Stands}
use Rattle.bl_rows.specs.declared.row_reader.RowReader.{RowReader}

-- a reader that gave none had none left
pub none_left : (all left : List Fields) (taken : ℕ) (after : RowReader) → GivesRow all taken left after None → left ≡ []
none_left all [] taken after gives = refl
none_left all (row ∷ left) taken after gives = absurd (cc (gives.0))

-- the first of the records that were left, and where the reader stands behind it
pub record GaveRow (all left : List Fields) (taken : ℕ) (after : RowReader) (fields : Fields) : Type 0 where
  pub rest : List Fields
  pub is : left ≡ fields ∷ rest
  pub stands : Stands after all (taken + 1) rest

pub gave_row : (all left : List Fields) (taken : ℕ) (after : RowReader) (fields : Fields) → GivesRow all taken left after (Some fields) → GaveRow all left taken after fields
gave_row all [] taken after fields gives = absurd (cc (gives.0))
gave_row all (row ∷ left) taken after fields gives = record {
  rest = left;
  is = ap (λ first. first ∷ left) (sym (same_Some fields row gives.0));
  stands = gives.2;
}
