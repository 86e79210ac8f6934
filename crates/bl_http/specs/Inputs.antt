-- The requests of an input, and how it ends.
use Rattle.std.specs.Prelude.{
  ◌≡◌,
  ◌+◌,
  ◌-◌,
  ℕ,
  Bool,
  true,
  false,
  nat_le,
  List,
  [],
  ◌∷◌,
  ◌++◌,
  length,
  take,
}
use Rattle.bl_http.specs.Answers.{IsAnswer}
use Rattle.bl_http.specs.Buffers.{BufferRecord, input_limit}
use Rattle.bl_http.specs.declared.asked.Asked.{Asked}
use Rattle.bl_http.specs.declared.asked.Asked.TheVariants.{
  End,
  Got,
  Refused,
  TooLong as too_long,
  Torn as torn,
}
use Rattle.bl_http.specs.declared.asked.Ending.{Ending}
use Rattle.bl_http.specs.declared.asked.Ending.TheVariants as ending
use Rattle.bl_http.specs.declared.request.Request.{Request}

-- The bytes that are still to be read, and whether the limit cuts the input behind them.
pub record Ahead : Type 0 where
  pub bytes : List ℕ
  pub cut : Bool

-- what is ahead of a buffer over these bytes
abbrev pub ahead : BufferRecord → List ℕ → Ahead
ahead buffer left = record {
  bytes = buffer.bytes ++ take (input_limit - buffer.taken) left;
  cut = nat_le input_limit (buffer.taken + length left);
}

-- what is ahead of a new buffer over a whole input
abbrev pub input : List ℕ → Ahead
input bytes = record { bytes = take input_limit bytes; cut = nat_le input_limit (length bytes) }

-- The answer to what is ahead, and what is ahead after it.
pub record Asks (now : Ahead) (asked : Asked) (next : Ahead) : Type 0 where
  pub answer : IsAnswer (now.cut ≡ false) (now.cut ≡ true) now.bytes asked next.bytes
  pub cut : next.cut ≡ now.cut

-- the answer that ends an input so, where no request closes it
abbrev pub EndsBy : Ending → Asked → Type 0
EndsBy ending.Closed asked = ⊥
EndsBy ending.End asked = asked ≡ End
EndsBy ending.Torn asked = asked ≡ torn
EndsBy ending.TooLong asked = asked ≡ too_long
EndsBy (ending.Refused refusal) asked = asked ≡ Refused refusal

-- after a request that closes nothing is read
abbrev pub GoesOn : Bool → List Request → Ending → Type 0 → Type 0
GoesOn true requests end others = (requests ≡ []) × (end ≡ ending.Closed)
GoesOn false requests end others = others

-- What is ahead are these requests, and then it ends so.
abbrev pub IsInput : Ahead → List Request → Ending → Type 0
IsInput now [] end = (asked : Asked) × (next : Ahead) × Asks now asked next × EndsBy end asked
IsInput now (request ∷ requests) end =
    (next : Ahead) × Asks now (Got request) next
    × GoesOn request.close requests end (IsInput next requests end)
