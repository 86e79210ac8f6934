-- What reading the text of an event gives.
use Rattle.std.specs.Prelude.{◌≡◌, ◌⊎◌, ℕ, ◌<◌, ◌≤◌, ◌^◌, List, Some, Result, Ok, Err}
use Rattle.std.specs.Str.{IsUtf8}
use Rattle.serde_json.specs.Data.{Data}
use Rattle.serde_json.specs.Read.{read}
use Rattle.bl_value.specs.Valid.{IsChange}
use Rattle.bl_change.specs.EventText.{event_data, event_text}
use Rattle.bl_change.specs.declared.event.Event.{Event}
use Rattle.bl_change.specs.declared.refusal.EventRefusal.{EventRefusal}
use Rattle.bl_change.specs.declared.refusal.EventRefusal.TheVariants.{NotJson, NotAnEvent, NoMemory}

-- An event whose parts are in their ranges: numbers from 1, texts of their lengths, and the value
-- in the range of its type.
pub record IsEvent (event : Event) : Type 0 where
  pub commit : 1 ≤ event.commit
  pub commit_fits : event.commit < 2 ^ 64
  pub op : 1 ≤ event.op
  pub op_fits : event.op < 2 ^ 64
  pub moment : event.moment < 2 ^ 64
  pub change : IsChange event.change

-- A text has a value: it is UTF-8 (RFC 3629) and JSON (RFC 8259) of at most 127 levels.
pub record IsJson (text : List ℕ) : Type 0 where
  pub utf8 : IsUtf8 text
  pub value : (value : Data) × (read text ≡ Some value)

-- the event in its ranges that has this text, or why there is none
abbrev pub Reads : List ℕ → Result Event EventRefusal → Type 0
Reads text (Ok event) = IsEvent event × (text ≡ event_text event)
Reads text (Err NotJson) = IsJson text → ⊥
Reads text (Err NotAnEvent) = IsJson text
    × ((event : Event) → IsEvent event → text ≡ event_text event → ⊥)
Reads text (Err NoMemory) = Unit {0}

-- the text of an event is JSON, and its value is the event's
abbrev pub TextsAreJson : Type 0
TextsAreJson = (event : Event) → IsEvent event →
    IsUtf8 (event_text event) × (read (event_text event) ≡ Some (event_data event))

-- no two events have one text
abbrev pub EachHasItsText : Type 0
EachHasItsText = (a b : Event) → IsEvent a → IsEvent b → event_text a ≡ event_text b → a ≡ b

-- what is read from the text of an event is that event, or memory ran out
abbrev pub EachIsReadBack : Type 0
EachIsReadBack = (event : Event) → IsEvent event → (result : Result Event EventRefusal) →
    Reads (event_text event) result → (result ≡ Ok event) ⊎ (result ≡ Err NoMemory)
