-- The frames of a journal's file, as bytes.
use Rattle.std.specs.Prelude.{◌≡◌, ◌≢◌, ◌⊎◌, ℕ, suc, zero, ◌+◌, ◌&&◌, ◌==◌, nat_lt, nat_le, if◌then◌else◌, Bool, List, [], ◌∷◌, ◌++◌, length, take, drop, None, Some}
use Rattle.std.specs.Int.{w32, to_be_bytes, from_be_bytes}
use Rattle.std.specs.declared.option.Option.{Option}

-- NEPTLOAD-JRNL-1
abbrev pub head : List ℕ
head = 78 ∷ 69 ∷ 80 ∷ 84 ∷ 76 ∷ 79 ∷ 65 ∷ 68 ∷ 45 ∷ 74 ∷ 82 ∷ 78 ∷ 76 ∷ 45 ∷ 49 ∷ []

-- a new file: the head and a closed gate
abbrev pub new_file : List ℕ
new_file = 78 ∷ 69 ∷ 80 ∷ 84 ∷ 76 ∷ 79 ∷ 65 ∷ 68 ∷ 45 ∷ 74 ∷ 82 ∷ 78 ∷ 76 ∷ 45 ∷ 49 ∷ 0 ∷ []

-- what stands behind the gate of a frame: the length, the body and the next gate, closed
abbrev pub behind_gate : List ℕ → List ℕ
behind_gate body = to_be_bytes w32 (length body) ++ body ++ 0 ∷ []

-- the number that the first four bytes are, 0 where there are fewer
abbrev pub number : List ℕ → ℕ
number (a ∷ b ∷ c ∷ d ∷ rest) = from_be_bytes w32 (a ∷ b ∷ c ∷ d ∷ [])
number rest = 0

-- What is met from a gate on: the bodies of the frames, and the place of the gate that is no
-- journal, if there is one.
abbrev pub Found : Type 0
Found = List (List ℕ) × Option ℕ

abbrev pub prefixed : List (List ℕ) → Found → Found
prefixed done found = (done ++ found.0, found.1)

-- behind an open gate stand a length that isn't 0, a body of this length and a next gate
abbrev pub is_frame : List ℕ → ℕ → Bool
is_frame rest n = nat_lt 0 n && nat_lt (4 + n) (length rest)

abbrev pub body_of : List ℕ → ℕ → List ℕ
body_of rest n = take n (drop 4 rest)

-- the frames from a place on, where this many bytes are left before the next gate
abbrev pub frames_from : ℕ → ℕ → List ℕ → Found
frames_from place skip [] = ([], None)
frames_from place (suc skip) (byte ∷ rest) = frames_from (place + 1) skip rest
frames_from place zero (gate ∷ rest) =
    if gate == 1 then (if is_frame rest (number rest)
    then prefixed (body_of rest (number rest) ∷ [])
    (frames_from (place + 1) (4 + number rest) rest) else ([], Some place)) else ([], None)

-- the frames from the gate at a place on
abbrev pub frames_at : ℕ → List ℕ → Found
frames_at place content = frames_from place 0 (drop place content)

-- the first place at which the bytes differ from those that are expected
abbrev pub first_difference : ℕ → List ℕ → List ℕ → Option ℕ
first_difference place [] bytes = None
first_difference place (x ∷ expected) [] = Some place
first_difference place (x ∷ expected) (b ∷ bytes) =
    if x == b then first_difference (place + 1) expected bytes else Some place

abbrev pub frames_behind_head : Option ℕ → List ℕ → Found
frames_behind_head (Some place) image = ([], Some place)
frames_behind_head None image = frames_at 15 image

-- The frames of a file. One of at most 16 bytes has none, whatever its bytes are: it isn't
-- finished, or nothing was added.
abbrev pub frames : List ℕ → Found
frames image = if nat_le (length image) 16 then ([], None)
    else frames_behind_head (first_difference 0 head image) image

-- an image with just these frames
abbrev pub HasFrames : List ℕ → List (List ℕ) → Type 0
HasFrames image bodies = frames image ≡ (bodies, None)

-- with the body or without it
abbrev pub WithOrWithout : List (List ℕ) → List ℕ → List ℕ → Type 0
WithOrWithout bodies body image = HasFrames image bodies ⊎ HasFrames image (bodies ++ body ∷ [])

-- an image that stands for what one stood for before
abbrev pub AsBefore : (List ℕ → Type 0) → List ℕ → Type 0
AsBefore left image = (earlier : List ℕ) × left earlier × (frames image ≡ frames earlier)

-- the head and a closed gate, and no more
abbrev pub IsEmptyJournal : List ℕ → Type 0
IsEmptyJournal content = (gate : ℕ) × (content ≡ head ++ gate ∷ []) × (gate ≢ 1)

-- the length behind an open gate
abbrev pub length_behind : List ℕ → Option ℕ
length_behind [] = None
length_behind (gate ∷ rest) = if gate == 1 then Some (number rest) else None
