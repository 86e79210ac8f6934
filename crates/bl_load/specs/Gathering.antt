-- Records that are read one after another.
use Rattle.std.specs.Prelude.{◌≡◌, ◌⊎◌, ◌≤◌, ℕ, ◌+◌, List, [], ◌∷◌, ◌++◌, map, length, sum}
use Rattle.std.specs.List.{All, zip}
use Rattle.bl_outside.specs.declared.digest.Digest.{Digest}
use Rattle.bl_value.specs.declared.row.Row.{Row}
use Rattle.bl_value.specs.declared.row.DigestRow.{DigestRow}
use Rattle.bl_rows.specs.Contents.{Fields, IsShort}
use Rattle.bl_rows.specs.Digests.{digest_after}
use Rattle.bl_rows.specs.RowReaders.{Stands}
use Rattle.bl_rows.specs.declared.row_reader.RowReader.{RowReader}
use Rattle.bl_chain.specs.BatchSizes.{field_bytes, most_bytes, most_rows}
use Rattle.bl_chain.specs.Folders.{digest_of}
use Rattle.bl_load.specs.declared.gathering.Gathered.{Gathered}

-- the reader is of some file
abbrev pub IsReading : RowReader → Type 0
IsReading reader = (all : List Fields) × (taken : ℕ) × (left : List Fields) × Stands reader all taken left

-- the digests behind these records, so many of which stand before them
abbrev pub digests_behind : List Fields → ℕ → List Fields → List Digest
digests_behind all before [] = []
digests_behind all before (fields ∷ records) = digest_of (digest_after all (before + 1)) ∷ digests_behind all (before + 1) records

-- each row with its digest
abbrev pub digest_rows : List Row → List Digest → List DigestRow
digest_rows rows digests = map (λ pair. record { row = pair.0; digest = pair.1 }) (zip rows digests)

-- so many bytes the fields of one record may have: fewer than 2^32 fields of fewer than 2^32 bytes
abbrev pub most_field_bytes : ℕ
most_field_bytes = 18446744065119617025

-- The records that came next, of those that were left.
pub record Gathers (all : List Fields) (before : ℕ) (left : List Fields) (reader : RowReader) (got : Gathered) : Type 0 where
  pub rest : List Fields
  pub are : left ≡ got.records ++ rest
  pub stands : Stands reader all (before + length got.records) rest
  pub digests_are : got.digests ≡ digests_behind all before got.records
  pub sizes_are : got.sizes ≡ map field_bytes got.records
  pub bounded : All (λ size. size ≤ most_field_bytes) got.sizes

-- None is left, or there are as many rows or bytes as a batch may have.
abbrev pub IsEnough : ℕ → ℕ → List Fields → Type 0
IsEnough rows bytes left = (left ≡ []) ⊎ ((most_rows ≤ rows) ⊎ (most_bytes ≤ bytes))

-- The same, and they are enough, together with so many rows and bytes.
abbrev pub GathersEnough : List Fields → ℕ → List Fields → ℕ → ℕ → RowReader → Gathered → Type 0
GathersEnough all before left rows bytes reader got =
    (them : Gathers all before left reader got) × (rows + length got.records ≤ most_rows) × IsEnough (rows + length got.records) (bytes + sum got.sizes) them.rest
