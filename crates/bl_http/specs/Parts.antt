-- What is kept of a head that was found.
use Rattle.std.specs.Prelude.{◌≡◌, ℕ, List, [], ◌∷◌, length, Ok}
use Rattle.httparse.specs.Grammar.{RequestHead, print_request}
use Rattle.httparse.specs.Spans.{IsWithin, span_bytes}
use Rattle.bl_http.specs.Answers.{IsRefused}
use Rattle.bl_http.specs.Fields.{body_length, closes, fields_of}
use Rattle.bl_http.specs.Heads.{HasHead, IsUnfinished}
use Rattle.bl_http.specs.declared.fields.Values.{Values}
use Rattle.bl_http.specs.declared.fields.Values.TheVariants.{Many, None as nothing, One}
use Rattle.bl_http.specs.declared.head.Found.{Found}
use Rattle.bl_http.specs.declared.head.Found.TheVariants.{Head, Refused, Unfinished}
use Rattle.bl_http.specs.declared.head.HeadParts.{HeadParts}

-- These are the parts of this head, and places in the bytes that begin with it.
pub record IsPartsOf (bytes : List ℕ) (parts : HeadParts) (head : RequestHead) : Type 0 where
  pub has : HasHead bytes head
  pub size : parts.size ≡ length (print_request head)
  pub method_within : IsWithin parts.size parts.method
  pub method : span_bytes bytes parts.method ≡ head.method
  pub target_within : IsWithin parts.size parts.target
  pub target : span_bytes bytes parts.target ≡ head.target
  pub body : body_length (fields_of head) ≡ Ok parts.body
  pub close : parts.close ≡ closes head.minor (fields_of head)

-- the parts of some head
abbrev pub IsParts : List ℕ → HeadParts → Type 0
IsParts bytes parts = (head : RequestHead) × IsPartsOf bytes parts head

-- what was found at the front of the bytes
abbrev pub Finds : List ℕ → Found → Type 0
Finds bytes (Head parts) = IsParts bytes parts
Finds bytes (Refused refusal) = IsRefused bytes refusal
Finds bytes Unfinished = IsUnfinished bytes

-- none, one or more values were found
abbrev pub AreValues : Values → List (List ℕ) → Type 0
AreValues nothing found = found ≡ []
AreValues (One value) found = found ≡ value.now ∷ []
AreValues Many found = (a : List ℕ) × (b : List ℕ) × (others : List (List ℕ)) × (found ≡ a ∷ b ∷ others)
