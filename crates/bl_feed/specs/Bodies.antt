-- Bodies of replies: compact JSON (RFC 8259) with the members of each object in byte order of their names.
use Rattle.std.specs.Prelude.{ℕ, ◌-◌, codes, map, option_map, slice_get, None, Some, List, length}
use Rattle.std.specs.declared.option.Option.{Option}
use Rattle.std.specs.Int.{w128, from_be_bytes, to_be_bytes}
use Rattle.serde_json.specs.Data.{Data, null, number, unsigned, string, array, object, no_members, member}
use Rattle.serde_json.specs.View.{items_of}
use Rattle.serde_json.specs.Written.{compact_text}
use Rattle.uuid.specs.Text.{hyphenated_text, lower, parsed}
use Rattle.bl_change.specs.EventText.{event_data, place_data}
use Rattle.bl_change.specs.declared.event.Event.{Event}

-- the text of a load id: a UUID (RFC 9562) in lower case
abbrev pub id_text : ℕ → List ℕ
id_text id = hyphenated_text lower (to_be_bytes w128 id)

-- the id that a text names, in one of the forms of RFC 9562 and of Microsoft
abbrev pub id_of : List ℕ → Option ℕ
id_of text = option_map (from_be_bytes w128) (parsed text)

abbrev pub problem_data : List ℕ → List ℕ → Data
problem_data code message = object (member (codes "code") (string code) (member (codes "detailedMessage") (string message) no_members))

-- the body of a refusal
abbrev pub problem_text : List ℕ → List ℕ → List ℕ
problem_text code message = compact_text (problem_data code message)

-- a body of success
abbrev pub success_data : Data → Data
success_data payload = object (member (codes "payload") payload (member (codes "status") (string (codes "200 OK")) no_members))

-- the body of a load that was taken on
abbrev pub submitted_text : ℕ → List ℕ
submitted_text id = compact_text (success_data (object (member (codes "loadId") (string (id_text id)) no_members)))

-- the body of a load that was cancelled
abbrev pub cancelled_text : List ℕ
cancelled_text = codes "{\"status\":\"200 OK\"}"

abbrev pub ids_data : List ℕ → Data
ids_data ids = object (member (codes "loadIds") (array (items_of (map (λ id. string (id_text id)) ids))) no_members)

-- the body of a list of loads
abbrev pub list_text : List ℕ → List ℕ
list_text ids = compact_text (success_data (ids_data ids))

abbrev pub last_of : List Event → Option Event
last_of events = slice_get events (length events - 1)

abbrev pub place_of : Option Event → Data
place_of None = null
place_of (Some event) = place_data event.commit event.op

abbrev pub moment_of : Option Event → ℕ
moment_of None = 0
moment_of (Some event) = event.moment

abbrev pub records_data : List Event → Data
records_data events = array (items_of (map event_data events))

-- events, with the place and the moment of the last of them
abbrev pub page_data : List Event → Data
page_data events =
    object (member (codes "format") (string (codes "PG_JSON")) (member (codes "lastEventId") (place_of (last_of events))
    (member (codes "lastTrxTimestamp") (number (unsigned (moment_of (last_of events))))
    (member (codes "records") (records_data events) (member (codes "totalRecords") (number (unsigned (length events))) no_members)))))

-- the body of a page of the stream
abbrev pub page_text : List Event → List ℕ
page_text events = compact_text (page_data events)
