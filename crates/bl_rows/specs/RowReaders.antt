-- Where a reader of rows stands.
use Rattle.std.specs.Prelude.{◌≡◌, ◌≤◌, ◌+◌, ℕ, List, [], ◌∷◌, drop, length, Option, Some, None}
use Rattle.bl_rows.specs.Contents.{Fields, IsShort, has_no_record, header_of}
use Rattle.bl_rows.specs.File.{file_limit}
use Rattle.bl_rows.specs.Digests.{digest_after}
use Rattle.bl_rows.specs.RecordReaders.{HasLeft}
use Rattle.bl_rows.specs.declared.row_reader.RowReader.{RowReader}

-- The reader is of a file with these records, the header first. So many were taken behind the
-- header, and these are left.
pub record Stands (reader : RowReader) (all : List Fields) (taken : ℕ) (left : List Fields) : Type 0
  where
    pub header_is : reader.header ≡ header_of all
    pub header_short : IsShort (header_of all)
    pub empty_is : reader.is_empty ≡ has_no_record all
    pub count_is : reader.taken ≡ taken
    pub digest_is : reader.digest ≡ digest_after all taken
    pub left_is : left ≡ drop (taken + 1) all
    pub has_left : HasLeft reader.left left
    pub few : length all ≤ file_limit + 1

-- The answer of a reader that stood so: the first record that is left, or none where none is.
abbrev pub GivesRow : List Fields → ℕ → List Fields → RowReader → Option Fields → Type 0
GivesRow all taken [] after answer = (answer ≡ None) × Stands after all taken []
GivesRow all taken (row ∷ left) after answer =
    (answer ≡ Some row) × IsShort row × Stands after all (taken + 1) left
