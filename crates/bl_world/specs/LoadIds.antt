-- The id of a load: a UUID of version 4 (RFC 9562) made of a salt, which ends in the load's number.
use Rattle.std.specs.Prelude.{ℕ, List, ◌++◌, take, drop}
use Rattle.std.specs.Int.{w64, w128, to_be_bytes, from_be_bytes}
use Rattle.uuid.specs.Parts.{with_variant, with_version}
use Rattle.uuid.specs.Text.{hyphenated_text, lower}
use Rattle.uuid.specs.declared.Variant.TheVariants.{RFC4122}
use Rattle.uuid.specs.declared.Version.TheVariants.{Random}

-- the first ten bytes of the salt and the six bytes of the number, with version and variant set
abbrev pub load_id : ℕ → ℕ → List ℕ
load_id salt number = with_version (with_variant (take 10 (to_be_bytes w128 salt) ++ drop 2 (to_be_bytes w64 number)) RFC4122) Random

abbrev pub load_id_text : ℕ → ℕ → List ℕ
load_id_text salt number = hyphenated_text lower (load_id salt number)

-- the same as a number
abbrev pub load_number : ℕ → ℕ → ℕ
load_number salt number = from_be_bytes w128 (load_id salt number)
