-- The digest of a file's records, by SHA-256 (FIPS 180-4).
use Rattle.std.specs.Prelude.{ℕ, zero, suc, List, [], ◌∷◌, ◌++◌, length, get_or, flat_map}
use Rattle.std.specs.Int.{w32, to_be_bytes}
use Rattle.sha2.specs.Sha256.{sha256}
use Rattle.bl_rows.specs.Contents.{Fields, contents}

-- A field's length as four bytes, the highest first, and its bytes.
abbrev pub field_text : List ℕ → List ℕ
field_text field = to_be_bytes w32 (length field) ++ field

-- The canonical text of a record: the number of its fields as four bytes, and the fields.
unfoldable pub record_text : Fields → List ℕ
record_text fields = to_be_bytes w32 (length fields) ++ flat_map field_text fields

-- The digest of the header, and of no bytes where there is no record.
abbrev pub header_digest : List Fields → List ℕ
header_digest [] = sha256 []
header_digest (header ∷ rows) = sha256 (record_text header)

-- The digest after so many of a file's records, the header first among them and not counted: that
-- of the digest before, followed by the record's text.
unfoldable pub digest_after : List Fields → ℕ → List ℕ
digest_after all zero = header_digest all
digest_after all (suc k) = sha256 (digest_after all k ++ record_text (get_or all (suc k) []))

-- The same of the file with these bytes.
abbrev pub digest_at : List ℕ → ℕ → List ℕ
digest_at bytes k = digest_after (contents bytes) k
