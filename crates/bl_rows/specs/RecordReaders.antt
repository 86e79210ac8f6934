-- Where a reader of records stands.
use Rattle.std.specs.Prelude.{◌≡◌, ◌+◌, ℕ, Bool, true, false, List, [], ◌∷◌, length, Option, Some, None}
use Rattle.std.specs.Io.Cursor.{cursor_remaining}
use Rattle.std.specs.declared.alloc.Global.{Global}
use Rattle.std.specs.declared.io.Cursor.{Cursor}
use Rattle.std.specs.declared.vec.Vec.{Vec}
use Rattle.csv.specs.Machine.{Read, next_record}
use Rattle.csv.specs.Reading.{Ready, default_config, is_flexible, reader_config, reader_state, reader_trim, records_from, source_of}
use Rattle.csv.specs.declared.parser.State.{State}
use Rattle.csv.specs.declared.reader.Reader.{Reader}
use Rattle.csv.specs.declared.reader.Trim.TheVariants as trim
use Rattle.bl_rows.specs.Contents.{Fields, IsShort}
use Rattle.bl_rows.specs.File.{IsSmall}
use Rattle.bl_rows.specs.declared.records.RecordReader.{RecordReader}
use Rattle.bl_rows.specs.declared.records.RecordReader.TheInside.{Inside}

-- A reader of CSV that owns the bytes it reads.
abbrev pub Held : Type 0
Held = Reader (Cursor (Vec ℕ Global))

-- The reader takes records of any length as they are, and is in this state before these bytes.
pub record StandsAt (reader : Held) (state : State) (left : List ℕ) : Type 0 where
  pub config : reader_config reader ≡ default_config
  pub untrimmed : reader_trim reader ≡ trim.None
  pub flexible : is_flexible reader ≡ true
  pub ready : Ready reader
  pub state_is : reader_state reader ≡ state
  pub left_is : source_of (cursor_remaining (λ v. Some v.items)) reader ≡ Some left

-- What taking a record does, where this is the next one.
abbrev pub Takes : Option Read → Bool → Fields → Held → Type 0
Takes None found row after = found ≡ false
Takes (Some next) found row after = (found ≡ true) × (row ≡ next.0) × StandsAt after next.1 next.2

-- The same wherever the reader stands before it.
abbrev pub TakesNext : Held → Bool → Fields → Held → Type 0
TakesNext before found row after =
    (state : State) (left : List ℕ) → StandsAt before state left →
    Takes (next_record default_config state [] [] left) found row after

-- The records of these bytes, from a state on.
unfoldable pub records_after : State → List ℕ → List Fields
records_after state left = records_from default_config (length left + 1) state left

-- what a source of bytes has from a state on
abbrev pub rows_in : Option (List ℕ) → State → List Fields
rows_in None state = []
rows_in (Some left) state = records_after state left

-- the records that are left, of a reader that may have ended
abbrev pub rows_left : Bool → Held → List Fields
rows_left true reader = []
rows_left false reader = rows_in (source_of (cursor_remaining (λ v. Some v.items)) reader)
    (reader_state reader)

abbrev pub left_unless : Bool → List Fields → Option (List Fields)
left_unless true rows = None
left_unless false rows = Some rows

-- The records that are left. Nothing is known of a reader that ran out of memory.
abbrev pub records_left : Inside → Option (List Fields)
records_left it = left_unless it.lost (rows_left it.ended it.reader)

-- These records are left of a reader that may have ended.
abbrev pub HasLeftBy : Bool → Held → List Fields → Type 0
HasLeftBy true reader rows = rows ≡ []
HasLeftBy false reader rows = (state : State) × (left : List ℕ) × StandsAt reader state left
    × (rows ≡ records_after state left) × IsSmall left

abbrev pub IsSoundUnless : Bool → Bool → Held → Type 0
IsSoundUnless true ended reader = Unit {0}
IsSoundUnless false ended reader = HasLeftBy ended reader (rows_left ended reader)

-- A reader that didn't run out of memory stands before what is left, of a file that is small.
abbrev pub IsSound : Inside → Type 0
IsSound it = IsSoundUnless it.lost it.ended it.reader

-- these records are left
abbrev pub HasLeft : RecordReader → List Fields → Type 0
HasLeft it rows = it ≡ Some rows

-- The answer of a reader that had these records left: the first of them, with the rest left.
abbrev pub GivesNext : List Fields → RecordReader → Option Fields → Type 0
GivesNext [] after answer = (answer ≡ None) × HasLeft after []
GivesNext (row ∷ rows) after answer = (answer ≡ Some row) × HasLeft after rows × IsShort row
