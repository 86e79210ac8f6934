-- A slot's file, as bytes.
use Rattle.std.specs.Prelude.{◌≡◌, ◌⊎◌, ℕ, ◌+◌, ◌-◌, ◌&&◌, ◌==◌, nat_lt, nat_le, if◌then◌else◌, Bool, List, [], ◌∷◌, ◌++◌, length, take, drop, slice_index, None, Some, Result, Ok, Err}
use Rattle.std.specs.Int.{w32, w64, to_be_bytes, from_be_bytes}
use Rattle.std.specs.declared.option.Option.{Option}
use Rattle.bl_snapshot.specs.declared.snapshot.Snapshot.{Snapshot}

-- NEPTLOAD-SNAP-1
abbrev pub head : List ℕ
head = 78 ∷ 69 ∷ 80 ∷ 84 ∷ 76 ∷ 79 ∷ 65 ∷ 68 ∷ 45 ∷ 83 ∷ 78 ∷ 65 ∷ 80 ∷ 45 ∷ 49 ∷ []

-- a new file: the head and a closed gate
abbrev pub new_file : List ℕ
new_file = 78 ∷ 69 ∷ 80 ∷ 84 ∷ 76 ∷ 79 ∷ 65 ∷ 68 ∷ 45 ∷ 83 ∷ 78 ∷ 65 ∷ 80 ∷ 45 ∷ 49 ∷ 0 ∷ []

-- the number that the first four bytes are, 0 where there are fewer
abbrev pub number_4 : List ℕ → ℕ
number_4 (a ∷ b ∷ c ∷ d ∷ rest) = from_be_bytes w32 (a ∷ b ∷ c ∷ d ∷ [])
number_4 rest = 0

-- the number that the first eight bytes are, 0 where there are fewer
abbrev pub number_8 : List ℕ → ℕ
number_8 (a ∷ b ∷ c ∷ d ∷ e ∷ f ∷ g ∷ h ∷ rest) =
    from_be_bytes w64 (a ∷ b ∷ c ∷ d ∷ e ∷ f ∷ g ∷ h ∷ [])
number_8 rest = 0

-- the first place at which the bytes differ from those that are expected
abbrev pub first_difference : ℕ → List ℕ → List ℕ → Option ℕ
first_difference place [] bytes = None
first_difference place (x ∷ expected) [] = Some place
first_difference place (x ∷ expected) (b ∷ bytes) =
    if x == b then first_difference (place + 1) expected bytes else Some place

-- behind the head: the length of the body behind an open gate, or none behind a closed one
abbrev pub length_at_gate : Option ℕ → List ℕ → Result (Option ℕ) ℕ
length_at_gate (Some place) front = Err place
length_at_gate None front = if slice_index front 15 == 1 then Ok (Some (number_4 (drop 16 front)))
    else Ok None

-- what the first bytes of a file say: the length of an open slot's body, none of a closed one's, or
-- the place at which it is no slot
abbrev pub open_length : List ℕ → Result (Option ℕ) ℕ
open_length front = length_at_gate (first_difference 0 head front) front

-- a body of this length has room for its two numbers, and ends within the file
abbrev pub fits : ℕ → ℕ → Bool
fits size n = nat_le 16 n && nat_le (20 + n) size

-- from the bytes of the two numbers and of what is behind them
abbrev pub snapshot_of : List ℕ → List ℕ → Snapshot
snapshot_of numbers body = record {
  entries = number_8 numbers;
  place = number_8 (drop 8 numbers);
  body = body;
}

-- the snapshot in a file whose body has this length
abbrev pub snapshot_at : ℕ → List ℕ → Snapshot
snapshot_at n image = snapshot_of (take 16 (drop 20 image)) (take (n - 16) (drop 36 image))

abbrev pub in_slot : Result (Option ℕ) ℕ → List ℕ → Result (Option Snapshot) ℕ
in_slot (Err place) image = Err place
in_slot (Ok None) image = Ok None
in_slot (Ok (Some n)) image = if fits (length image) n then Ok (Some (snapshot_at n image))
    else Err 15

-- What a file holds as a slot: a snapshot where it is open, none where it is closed, or the place
-- at which it is no slot. One of at most 16 bytes is closed, whatever its bytes are.
abbrev pub slot_in : List ℕ → Result (Option Snapshot) ℕ
slot_in image = if nat_le (length image) 16 then Ok None
    else in_slot (open_length (take 20 image)) image

-- what stands behind the gate of an open slot: the length, the two numbers and the body
abbrev pub behind_gate : Snapshot → List ℕ
behind_gate s = to_be_bytes w32 (16 + length s.body)
    ++ (to_be_bytes w64 s.entries ++ (to_be_bytes w64 s.place ++ s.body))

-- an image of a slot that is closed, or holds this
abbrev pub ClosedOr : Option Snapshot → List ℕ → Type 0
ClosedOr found image = (slot_in image ≡ Ok None) ⊎ (slot_in image ≡ Ok found)

-- the number of entries that is kept of a slot, where it is open
abbrev pub entries_of : Option Snapshot → Option ℕ
entries_of None = None
entries_of (Some s) = Some s.entries

-- of what two slots hold the one with more entries. The left one counts where the numbers are equal
abbrev pub newer : Option Snapshot → Option Snapshot → Option Snapshot
newer None right = right
newer (Some l) None = Some l
newer (Some l) (Some r) = if nat_lt l.entries r.entries then Some r else Some l
