-- The text of an event (Neptune User Guide, "Property graph change records", PG_JSON): compact JSON
-- (RFC 8259) with the members of each object in byte order of their names.
use Rattle.std.specs.Prelude.{ℕ, Bool, true, false, codes, List}
use Rattle.serde_json.specs.Data.{Data, boolean, number, unsigned, string, object, Members, no_members, member}
use Rattle.serde_json.specs.Written.{compact_text}
use Rattle.bl_value.specs.Json.{value_data}
use Rattle.bl_value.specs.declared.value.Value.{Value}
use Rattle.bl_value.specs.declared.value.Value.TheVariants.{Bool as a_bool, Byte, Short, Int, Long, Str, Date}
use Rattle.bl_value.specs.declared.column.Side.{Side}
use Rattle.bl_value.specs.declared.column.Side.TheVariants.{Vertex, Edge}
use Rattle.bl_value.specs.declared.change.Change.{Change}
use Rattle.bl_value.specs.declared.change.Change.TheVariants.{AddLabel, AddEdge, AddValue, RemoveValue}
use Rattle.bl_change.specs.declared.event.Event.{Event}

-- the name of a value's type
abbrev pub data_type : Value → List ℕ
data_type (a_bool b) = codes "Boolean"
data_type (Byte n) = codes "Byte"
data_type (Short n) = codes "Short"
data_type (Int n) = codes "Int"
data_type (Long n) = codes "Long"
data_type (Str text) = codes "String"
data_type (Date seconds) = codes "Date"

-- a value with its type
abbrev pub typed_data : Value → Data
typed_data value = object (member (codes "dataType") (string (data_type value))
    (member (codes "value") (value_data value) no_members))

-- the kind of a record about a property
abbrev pub property_type : Side → List ℕ
property_type Vertex = codes "vp"
property_type Edge = codes "ep"

-- a record about an element that isn't an edge's own
abbrev pub element_data : List ℕ → List ℕ → List ℕ → Data → Data
element_data kind id key value =
    object (member (codes "id") (string id)
    (member (codes "key") (string key)
    (member (codes "type") (string kind) (member (codes "value") value no_members))))

-- an edge, with its ends
abbrev pub edge_data : List ℕ → List ℕ → List ℕ → Data → Data
edge_data id from to label =
    object (member (codes "from") (string from)
    (member (codes "id") (string id) (member (codes "key") (string (codes "label"))
    (member (codes "to") (string to)
    (member (codes "type") (string (codes "e")) (member (codes "value") label no_members))))))

abbrev pub change_data : Change → Data
change_data (AddLabel id label) =
    element_data (codes "vl") id (codes "label") (typed_data (Str label))
change_data (AddEdge id label from to) = edge_data id from to (typed_data (Str label))
change_data (AddValue side id key value) =
    element_data (property_type side) id key (typed_data value)
change_data (RemoveValue side id key value) =
    element_data (property_type side) id key (typed_data value)

abbrev pub op_name : Change → List ℕ
op_name (AddLabel id label) = codes "ADD"
op_name (AddEdge id label from to) = codes "ADD"
op_name (AddValue side id key value) = codes "ADD"
op_name (RemoveValue side id key value) = codes "REMOVE"

-- The member is there on the last event of a commit alone.
abbrev pub with_last : Bool → Members → Members
with_last true members = member (codes "isLastOp") (boolean true) members
with_last false members = members

-- where an event stands in the stream
abbrev pub place_data : ℕ → ℕ → Data
place_data commit op = object (member (codes "commitNum") (number (unsigned commit))
    (member (codes "opNum") (number (unsigned op)) no_members))

abbrev pub record_data : ℕ → Data → Data → Bool → List ℕ → Data
record_data moment change place last op =
    object (member (codes "commitTimestamp") (number (unsigned moment))
    (member (codes "data") change (member (codes "eventId") place
    (with_last last (member (codes "op") (string op) no_members)))))

abbrev pub event_data : Event → Data
event_data event =
    record_data event.moment (change_data event.change) (place_data event.commit event.op)
    event.last (op_name event.change)

abbrev pub event_text : Event → List ℕ
event_text event = compact_text (event_data event)
