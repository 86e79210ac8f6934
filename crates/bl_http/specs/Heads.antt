-- The head of a request at the front of some bytes (RFC 9112, sections 2 to 5). What a head is, the
-- grammar of `httparse` says.
use Rattle.std.specs.Prelude.{◌⊎◌, ◌<◌, ◌≤◌, ℕ, List, length, take, drop}
use Rattle.httparse.specs.Grammar.{
  HasNoRequest,
  MayBecomeRequest,
  NeverHasRequest,
  ReadsRequest,
  RequestHead,
  print_request,
}
use Rattle.httparse.specs.Spans.{RequestExceeds, RequestOverflows}

-- the most bytes of a head
abbrev pub head_limit : ℕ
head_limit = 16384

-- the most fields of a head
abbrev pub field_limit : ℕ
field_limit = 64

-- the bytes in which a head is looked for
abbrev pub front_of : List ℕ → List ℕ
front_of bytes = take head_limit bytes

-- what stands behind a head at the front
abbrev pub behind : RequestHead → List ℕ → List ℕ
behind head bytes = drop (length (print_request head)) bytes

-- The bytes begin with this head, and it isn't too large.
pub record HasHead (bytes : List ℕ) (head : RequestHead) : Type 0 where
  pub reads : ReadsRequest bytes head (behind head bytes)
  pub small : length (print_request head) ≤ head_limit
  pub few : length head.fields ≤ field_limit

-- No front of the bytes is a head, and no bytes can follow that make one.
abbrev pub IsHopeless : List ℕ → Type 0
IsHopeless bytes = NeverHasRequest (front_of bytes)

-- A front of the bytes and an empty line are a head of too many fields, and so is every head that
-- the bytes can become.
pub record HasTooManyFields (bytes : List ℕ) : Type 0 where
  pub exceeds : RequestExceeds field_limit (front_of bytes)
  pub overflows : RequestOverflows field_limit (front_of bytes)

-- No head has ended, and one can still come.
pub record IsOpen (bytes : List ℕ) : Type 0 where
  pub none : HasNoRequest bytes
  pub some : MayBecomeRequest bytes

-- The head has too many fields, or has not ended where it must.
abbrev pub IsTooLarge : List ℕ → Type 0
IsTooLarge bytes = HasTooManyFields bytes ⊎ ((head_limit ≤ length bytes) × IsOpen (front_of bytes))

-- The bytes end inside a head.
abbrev pub IsUnfinished : List ℕ → Type 0
IsUnfinished bytes = (length bytes < head_limit) × IsOpen bytes
