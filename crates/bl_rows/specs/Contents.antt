-- The records of a CSV file (RFC 4180).
use Rattle.std.specs.Prelude.{ℕ, ◌<◌, ◌^◌, Bool, true, false, List, [], ◌∷◌, length}
use Rattle.std.specs.List.{All}
use Rattle.csv.specs.Reading.{default_config, records, strip_bom}

-- The fields of a record, each as its bytes.
abbrev pub Fields : Type 0
Fields = List (List ℕ)

-- The records of a file, the header first. One byte order mark at the front is dropped, an empty
-- line is no record, and records may differ in length.
unfoldable pub contents : List ℕ → List Fields
contents bytes = records default_config (strip_bom bytes)

-- The first record. A file without any has a header of no field.
abbrev pub header_of : List Fields → Fields
header_of [] = []
header_of (header ∷ rows) = header

-- The records behind the header, which are counted from 1.
abbrev pub rows_of : List Fields → List Fields
rows_of [] = []
rows_of (header ∷ rows) = rows

abbrev pub has_no_record : List Fields → Bool
has_no_record [] = true
has_no_record (header ∷ rows) = false

-- A record with fewer than 2^32 fields, each of fewer than 2^32 bytes.
pub record IsShort (fields : Fields) : Type 0 where
  pub few : length fields < 2 ^ 32
  pub each : All (λ field. length field < 2 ^ 32) fields
