-- What the fields of a head say of the body and of the connection.
use Rattle.std.specs.Prelude.{
  ℕ,
  Bool,
  ◌&&◌,
  ◌||◌,
  ◌==◌,
  nat_eq,
  nat_le,
  nat_lt,
  if◌then◌else◌,
  List,
  [],
  ◌∷◌,
  codes,
  length,
  map,
  Result,
  Ok,
  Err,
}
use Rattle.std.specs.Char.{is_ascii_digit, to_ascii_lowercase}
use Rattle.std.specs.Cmp.Lexicographic.{pointwise}
use Rattle.std.specs.List.{list_all, list_any}
use Rattle.std.specs.Str.Parse.{digits_value}
use Rattle.form_urlencoded.specs.Form.{split}
use Rattle.httparse.specs.Grammar.{RequestHead, trim_ows}
use Rattle.httparse.specs.Spans.{name_and_value}
use Rattle.bl_http.specs.declared.refusal.HeadRefusal.{HeadRefusal}
use Rattle.bl_http.specs.declared.refusal.HeadRefusal.TheVariants.{
  BadLength,
  BodyTooLarge,
  TransferEncoding,
}

-- the most bytes of a body
abbrev pub body_limit : ℕ
body_limit = 1048576

-- a field: its name, and its value without spaces and tabs at its ends
abbrev pub Field : Type 0
Field = List ℕ × List ℕ

-- the fields of a head
abbrev pub fields_of : RequestHead → List Field
fields_of head = map name_and_value head.fields

-- the letters are the same but for their case
abbrev pub are_alike : List ℕ → List ℕ → Bool
are_alike a b = pointwise nat_eq (map to_ascii_lowercase a) (map to_ascii_lowercase b)

-- the values of the fields of a name
abbrev pub values_of : List ℕ → List Field → List (List ℕ)
values_of name [] = []
values_of name (field ∷ fields) =
    if are_alike field.0 name then field.1 ∷ values_of name fields else values_of name fields

-- a number of 1 to 20 digits
abbrev pub is_number : List ℕ → Bool
is_number text = nat_lt 0 (length text) && (nat_le (length text) 20 && list_all is_ascii_digit text)

-- the length that the values of `content-length` declare
abbrev pub declared_length : List (List ℕ) → Result ℕ HeadRefusal
declared_length [] = Ok 0
declared_length (value ∷ []) = if is_number value then Ok (digits_value 10 value) else Err BadLength
declared_length (value ∷ other ∷ others) = Err BadLength

-- there is a field of this name
abbrev pub is_there : List ℕ → List Field → Bool
is_there name fields = list_any (λ (field : Field). are_alike field.0 name) fields

-- the length, unless it is too large or the body comes encoded
abbrev pub plain_length : Result ℕ HeadRefusal → Bool → Result ℕ HeadRefusal
plain_length (Err refusal) encoded = Err refusal
plain_length (Ok length) encoded =
    if nat_lt body_limit length then Err BodyTooLarge
    else (if encoded then Err TransferEncoding else Ok length)

-- the length of the body that the fields ask for, or the first refusal
abbrev pub body_length : List Field → Result ℕ HeadRefusal
body_length fields =
    plain_length (declared_length (values_of (codes "content-length") fields))
    (is_there (codes "transfer-encoding") fields)

-- the word is `close`
abbrev pub is_close : List ℕ → Bool
is_close word = are_alike (trim_ows word) (codes "close")

-- one of the words between the commas is
abbrev pub says_close : List ℕ → Bool
says_close value = list_any is_close (split 44 value)

-- the field `connection` says it
abbrev pub ends_connection : Field → Bool
ends_connection field = are_alike field.0 (codes "connection") && says_close field.1

-- the connection ends with this request
abbrev pub closes : ℕ → List Field → Bool
closes minor fields = minor == 0 || list_any ends_connection fields
