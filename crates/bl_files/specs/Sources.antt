-- The source of a load: the text `s3://`, a bucket, then nothing, or a slash and a key.
use Rattle.std.specs.Prelude.{ℕ, ◌==◌, ◌-◌, nat_le, nat_eq, Bool, not, ◌&&◌, ◌||◌, if◌then◌else◌, codes, option_map, List, [], ◌∷◌, ◌++◌, length, take, drop, slice_index, None, Some}
use Rattle.std.specs.declared.option.Option.{Option}
use Rattle.std.specs.List.{list_all, list_any, starts_with, ends_with, before_first, after_first}
use Rattle.std.specs.Str.{is_utf8}
use Rattle.std.specs.Cmp.Lexicographic.{pointwise}

abbrev pub is_slash : ℕ → Bool
is_slash byte = byte == 47

abbrev pub is_letter_or_digit : ℕ → Bool
is_letter_or_digit byte = (nat_le 97 byte && nat_le byte 122) || (nat_le 48 byte && nat_le byte 57)

abbrev pub is_bucket_byte : ℕ → Bool
is_bucket_byte byte = is_letter_or_digit byte || (byte == 46 || byte == 45)

-- The first byte is a letter or a digit.
abbrev pub begins_well : List ℕ → Bool
begins_well bucket = is_letter_or_digit (slice_index bucket 0)

-- A bucket has 1 to 63 of the characters a to z, 0 to 9, `.` and `-`, and begins with a letter or
-- digit.
abbrev pub is_bucket : List ℕ → Bool
is_bucket bucket = nat_le (length bucket) 63 &&
    (begins_well bucket && list_all is_bucket_byte bucket)

-- the parts of a text between its slashes, the bytes of the first of which may have begun
abbrev pub parts_from : List ℕ → List ℕ → List (List ℕ)
parts_from begun [] = begun ∷ []
parts_from begun (byte ∷ rest) =
    if is_slash byte then begun ∷ parts_from [] rest else parts_from (begun ++ byte ∷ []) rest

abbrev pub parts : List ℕ → List (List ℕ)
parts text = parts_from [] text

-- A part is not empty, none of `.` and `..`, and has no byte 0.
abbrev pub is_part : List ℕ → Bool
is_part part =
    not (length part == 0) && (not (pointwise nat_eq part (codes ".")) &&
    (not (pointwise nat_eq part (codes "..")) && not (list_any (λ byte. nat_eq byte 0) part)))

-- One slash at the end of a key is dropped.
abbrev pub kept_key : List ℕ → List ℕ
kept_key key = if ends_with nat_eq key (47 ∷ []) then take (length key - 1) key else key

-- A key has at most 1,024 bytes, counted with the slash that is dropped.
abbrev pub is_key : List ℕ → Bool
is_key key = nat_le (length key) 1024 &&
    (length (kept_key key) == 0 || list_all is_part (parts (kept_key key)))

-- the bucket, and the key behind a slash where there is one
abbrev pub joined : List ℕ → List ℕ → List ℕ
joined bucket [] = bucket
joined bucket (byte ∷ key) = bucket ++ 47 ∷ (byte ∷ key)

-- a path is a text
abbrev pub if_text : List ℕ → Option (List ℕ)
if_text path = if is_utf8 path then Some path else None

-- the path of a source without `s3://`, which a folder is asked for
abbrev pub path_behind : List ℕ → Option (List ℕ)
path_behind rest =
    if is_bucket (before_first is_slash rest) && is_key (after_first is_slash rest)
    then if_text (joined (before_first is_slash rest) (kept_key (after_first is_slash rest)))
    else None

abbrev pub path_of : List ℕ → Option (List ℕ)
path_of source = if starts_with nat_eq source (codes "s3://") then path_behind (drop 5 source)
    else None

-- A source is kept without one slash at its end.
abbrev pub kept_source : List ℕ → Option (List ℕ)
kept_source source = option_map (λ path. codes "s3://" ++ path) (path_of source)

-- A key has at most 1,024 bytes, and is empty or made of such parts.
abbrev pub is_kept_key : List ℕ → Bool
is_kept_key key = nat_le (length key) 1024 && (length key == 0 || list_all is_part (parts key))

-- a bucket, then nothing, or a slash and a key that isn't empty
abbrev pub is_kept_path : List ℕ → Bool
is_kept_path path = is_bucket (before_first is_slash path) &&
    (is_kept_key (after_first is_slash path) && not (ends_with nat_eq path (47 ∷ [])))

-- A source as it is kept: a text `s3://`, a bucket, and a key without a slash at its end where
-- there is one.
abbrev pub is_kept_source : List ℕ → Bool
is_kept_source source = is_utf8 source &&
    (starts_with nat_eq source (codes "s3://") && is_kept_path (drop 5 source))
