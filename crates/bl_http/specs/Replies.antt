-- The text of a reply.
use Rattle.std.specs.Prelude.{
  ℕ,
  Bool,
  ◌||◌,
  ◌==◌,
  if◌then◌else◌,
  List,
  [],
  ◌∷◌,
  ◌++◌,
  codes,
  decimal,
  length,
  Option,
  None,
  Some,
  unwrap_or,
}
use Rattle.http.specs.StatusCode.{code_digits, reason_phrase}

-- the statuses that are sent
abbrev pub is_sent : ℕ → Bool
is_sent status =
    status == 200 || (status == 400 || (status == 404 || (status == 405 || (status == 413
    || (status == 431 || (status == 500 || status == 501))))))

-- a line of the head
abbrev pub line : List ℕ → List ℕ
line text = text ++ 13 ∷ 10 ∷ []

-- the reason phrase of a status
unfoldable pub phrase_of : ℕ → List ℕ
phrase_of status = unwrap_or (reason_phrase status) []

unfoldable pub status_line : ℕ → List ℕ
status_line status = line (codes "HTTP/1.1 " ++ code_digits status ++ codes " " ++ phrase_of status)

unfoldable pub type_line : List ℕ
type_line = line (codes "content-type: application/json")

unfoldable pub length_line : ℕ → List ℕ
length_line size = line (codes "content-length: " ++ decimal size)

unfoldable pub allow_line : Option (List ℕ) → List ℕ
allow_line None = []
allow_line (Some methods) = line (codes "allow: " ++ methods)

unfoldable pub close_line : Bool → List ℕ
close_line close = if close then line (codes "connection: close") else []

-- a reply with a body of JSON
abbrev pub reply_of : ℕ → Option (List ℕ) → List ℕ → Bool → List ℕ
reply_of status allow body close =
    status_line status ++ type_line ++ length_line (length body) ++ allow_line allow
    ++ close_line close ++ line [] ++ body
