-- The two parts of a request's target.
use Rattle.std.specs.Prelude.{ℕ, ◌==◌, Bool, List, map}
use Rattle.std.specs.List.{after_first, before_first}
use Rattle.std.specs.Str.Lossy.{utf8_lossy}
use Rattle.form_urlencoded.specs.Form.{decode, raw_pairs}

-- `?`
abbrev pub is_mark : ℕ → Bool
is_mark byte = byte == 63

-- the path is what stands before the first `?`
abbrev pub path_of : List ℕ → List ℕ
path_of target = before_first is_mark target

-- the query is what follows it
abbrev pub query_of : List ℕ → List ℕ
query_of target = after_first is_mark target

-- a name and its value as they are meant; bytes that are no UTF-8 become U+FFFD
abbrev pub meant : List ℕ × List ℕ → List ℕ × List ℕ
meant pair = (utf8_lossy (decode pair.0), utf8_lossy (decode pair.1))

-- the parameters of a query in their order
abbrev pub parameters : List ℕ → List (List ℕ × List ℕ)
parameters query = map meant (raw_pairs query)
