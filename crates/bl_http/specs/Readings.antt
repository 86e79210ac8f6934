-- What one call of `read_request` does.
use Rattle.std.specs.Prelude.{◌≡◌, ◌≢◌, ◌<◌, ℕ, List, [], length, Option}
use Rattle.bl_http.specs.Answers.{IsAnswer}
use Rattle.bl_http.specs.Buffers.{BufferRecord, IsAtEnd, IsAtLimit, Moves, input_limit}
use Rattle.bl_http.specs.declared.asked.Asked.{Asked}
use Rattle.bl_http.specs.declared.asked.Asked.TheVariants.{End, Got, Refused, TooLong, Torn}

-- It moves bytes, and answers those that it then holds.
pub record ReadsOne
    (left now : Option (List ℕ)) (old new : BufferRecord) (asked : Asked) : Type 0 where
  pub held : BufferRecord
  pub moves : Moves left now old held
  pub answer : IsAnswer (IsAtEnd now held) (IsAtLimit held) held.bytes asked new.bytes
  pub taken : new.taken ≡ held.taken

-- The answer where the bytes that are held are no whole request, and no more are to come.
abbrev pub IsCutShort : BufferRecord → Asked → Type 0
IsCutShort held (Got request) = ⊥
IsCutShort held (Refused refusal) = ⊥
IsCutShort held End = (held.bytes ≡ []) × (held.taken ≢ input_limit)
IsCutShort held Torn = (0 < length held.bytes) × (held.taken ≢ input_limit)
IsCutShort held TooLong = IsAtLimit held
