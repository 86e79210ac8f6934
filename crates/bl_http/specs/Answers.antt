-- The answer to the bytes of one request.
use Rattle.std.specs.Prelude.{◌≡◌, ◌⊎◌, ◌<◌, ◌≤◌, ℕ, List, [], length, take, drop, Ok, Err}
use Rattle.httparse.specs.Grammar.{RequestHead}
use Rattle.bl_http.specs.Fields.{body_length, fields_of}
use Rattle.bl_http.specs.Heads.{HasHead, IsHopeless, IsTooLarge, IsUnfinished, behind}
use Rattle.bl_http.specs.Requests.{request_of}
use Rattle.bl_http.specs.declared.asked.Asked.{Asked}
use Rattle.bl_http.specs.declared.asked.Asked.TheVariants.{End, Got, Refused, TooLong, Torn}
use Rattle.bl_http.specs.declared.refusal.HeadRefusal.{HeadRefusal}
use Rattle.bl_http.specs.declared.refusal.HeadRefusal.TheVariants.{
  BadHead,
  BadLength,
  BodyTooLarge,
  HeadTooLarge,
  TransferEncoding,
}
use Rattle.bl_http.specs.declared.request.Request.{Request}

-- The bytes begin with this head, whose fields are refused so.
abbrev pub RefusesFields : List ℕ → HeadRefusal → Type 0
RefusesFields bytes refusal =
    (head : RequestHead) × HasHead bytes head × (body_length (fields_of head) ≡ Err refusal)

-- The bytes begin with a head that is refused so.
abbrev pub IsRefused : List ℕ → HeadRefusal → Type 0
IsRefused bytes BadHead = IsHopeless bytes
IsRefused bytes HeadTooLarge = IsTooLarge bytes
IsRefused bytes BadLength = RefusesFields bytes BadLength
IsRefused bytes BodyTooLarge = RefusesFields bytes BodyTooLarge
IsRefused bytes TransferEncoding = RefusesFields bytes TransferEncoding

-- The bytes are this request and then the rest.
pub record IsRequest (bytes : List ℕ) (request : Request) (rest : List ℕ) : Type 0 where
  pub head : RequestHead
  pub size : ℕ
  pub has : HasHead bytes head
  pub asks : body_length (fields_of head) ≡ Ok size
  pub whole : size ≤ length (behind head bytes)
  pub is : request ≡ request_of head (take size (behind head bytes))
  pub rest_is : rest ≡ drop size (behind head bytes)

-- The bytes end inside a request's body.
pub record LacksBody (bytes : List ℕ) : Type 0 where
  pub head : RequestHead
  pub size : ℕ
  pub has : HasHead bytes head
  pub asks : body_length (fields_of head) ≡ Ok size
  pub short : length (behind head bytes) < size

-- The bytes end inside a request.
abbrev pub IsTorn : List ℕ → Type 0
IsTorn bytes = IsUnfinished bytes ⊎ LacksBody bytes

-- The answer to these bytes, and what is left of them. They are all there is where the input ended,
-- and all that may be taken where the limit was reached.
abbrev pub IsAnswer : (ended full : Type 0) → List ℕ → Asked → List ℕ → Type 0
IsAnswer ended full bytes (Got request) rest = IsRequest bytes request rest
IsAnswer ended full bytes (Refused refusal) rest = IsRefused bytes refusal × (rest ≡ bytes)
IsAnswer ended full bytes End rest = ended × (bytes ≡ []) × (rest ≡ bytes)
IsAnswer ended full bytes Torn rest = ended × (0 < length bytes) × IsTorn bytes × (rest ≡ bytes)
IsAnswer ended full bytes TooLong rest = full × IsTorn bytes × (rest ≡ bytes)
