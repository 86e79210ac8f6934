-- Texts that can be kept: those of values, and the names of files.
use Rattle.std.specs.Prelude.{ℕ, ◌<◌, ◌^◌, List, length}
use Rattle.std.specs.Str.{IsUtf8}

-- UTF-8, with a length that four bytes can hold.
pub record IsShortText (text : List ℕ) : Type 0 where
  pub utf8 : IsUtf8 text
  pub short : length text < 2 ^ 32
