-- What is held between a source and its requests.
use Rattle.std.specs.Prelude.{◌≡◌, ◌+◌, ◌^◌, ◌<◌, ◌≤◌, ℕ, List, [], ◌++◌, length, take, drop, vec_len, Option, None, Some}
use Rattle.bl_http.specs.declared.buffer.Buffer.TheInside.{Inside}

-- the most bytes that are taken of one input
abbrev pub input_limit : ℕ
input_limit = 2 ^ 40

-- The bytes taken and not yet used, and the number of bytes taken.
pub record BufferRecord : Type 0 where
  pub bytes : List ℕ
  pub taken : ℕ

-- what stands from one place to the other
abbrev pub part : List ℕ → ℕ → ℕ → List ℕ
part bytes from to = drop from (take to bytes)

abbrev pub held_in : Inside → BufferRecord
held_in it = record { bytes = part it.room.items it.from it.to; taken = it.taken }

-- The places are in their order, and no more is held than was taken, nor taken than may be.
pub record IsInOrder (it : Inside) : Type 0 where
  pub places : it.from ≤ it.to
  pub room : it.to ≤ vec_len it.room
  pub held : it.to ≤ it.from + it.taken
  pub limit : it.taken ≤ input_limit

abbrev pub empty_buffer : BufferRecord
empty_buffer = record { bytes = []; taken = 0 }

-- The source gave these bytes, where it tells what it has left.
abbrev pub Gave : Option (List ℕ) → Option (List ℕ) → List ℕ → Type 0
Gave None now more = now ≡ None
Gave (Some left) now more = (rest : List ℕ) × (now ≡ Some rest) × (left ≡ more ++ rest)

-- Bytes went from the source to the end of the buffer, and nothing else befell either.
pub record Moves (left now : Option (List ℕ)) (old new : BufferRecord) : Type 0 where
  pub more : List ℕ
  pub gave : Gave left now more
  pub bytes : new.bytes ≡ old.bytes ++ more
  pub taken : new.taken ≡ old.taken + length more

-- The source has nothing left, where it tells it.
abbrev pub HasEnded : Option (List ℕ) → Type 0
HasEnded None = Unit {0}
HasEnded (Some left) = left ≡ []

-- A call of `take` gave so many bytes, which went to the end of what is held in the room.
pub record Grows
    (left now : Option (List ℕ)) (old new : List ℕ) (to count : ℕ) : Type 0 where
  pub more : List ℕ
  pub gave : Gave left now more
  pub held : take (to + count) new ≡ take to old ++ more
  pub size : length more ≡ count
  pub ended : count ≡ 0 → HasEnded now

-- No more bytes are to come, and the limit isn't reached.
abbrev pub IsAtEnd : Option (List ℕ) → BufferRecord → Type 0
IsAtEnd left buffer = (buffer.taken < input_limit) × HasEnded left

-- All bytes were taken that may be.
abbrev pub IsAtLimit : BufferRecord → Type 0
IsAtLimit buffer = buffer.taken ≡ input_limit

-- No more is held than was taken, nor taken than may be.
pub record IsWithin (buffer : BufferRecord) : Type 0 where
  pub held : length buffer.bytes ≤ buffer.taken
  pub limit : buffer.taken ≤ input_limit
