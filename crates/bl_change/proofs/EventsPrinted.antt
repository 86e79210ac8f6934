-- The text of an event is read as the value of the event.
use Rattle.std.proofs.Common.{◌≡◌, ℕ, suc, ◌<◌, ◌^◌, Bool as Truth, true, false, List, codes, refl, arith, Some}
use Rattle.std.specs.Prelude.{Ok, Err, if◌then◌else◌}
use Rattle.std.specs.Str.{IsUtf8, is_utf8}
use Rattle.std.proofs.lemmas.Str.{IsUtf8-from_is_utf8}
use Rattle.json.proofs.Printed.Utf8.{IsUtf8-are_ascii, are_ascii}
use Rattle.serde_json.specs.Data.{Data, number, unsigned, string, member, no_members}
use Rattle.serde_json.specs.Read.{read}
use Rattle.bl_value.specs.Cells.{text_cell}
use Rattle.bl_value.specs.Dates.{date_text}
use Rattle.bl_value.specs.Json.{value_data}
use Rattle.bl_value.specs.Valid.{IsChange, IsValue}
use Rattle.bl_value.specs.declared.cell.CellRefusal.TheVariants.{NotUtf8}
use Rattle.bl_value.specs.declared.change.Change.{Change}
use Rattle.bl_value.specs.declared.change.Change.TheVariants.{AddLabel, AddEdge, AddValue, RemoveValue}
use Rattle.bl_value.specs.declared.column.Side.{Side}
use Rattle.bl_value.specs.declared.column.Side.TheVariants.{Vertex, Edge}
use Rattle.bl_value.specs.declared.value.Value.{Value}
use Rattle.bl_value.specs.declared.value.Value.TheVariants.{Bool, Byte, Short, Int, Long, Str, Date}
use Rattle.bl_value.specs.declared.value_type.ValueType.TheVariants as type
use Rattle.bl_value.proofs.DateTexts.{read_back}
use Rattle.bl_change.specs.EventText.{change_data, data_type, edge_data, element_data, event_data, event_text, op_name, place_data, property_type, record_data, typed_data, with_last}
use Rattle.bl_change.specs.EventTexts.{IsEvent}
use Rattle.bl_change.specs.declared.event.Event.{Event}
use Rattle.bl_change.proofs.JsonTexts.{IsPrinted, boolean_printed, integer_printed, no_more, object_printed, one_more, read_printed, string_printed, unsigned_printed}

-- a cell that has a value is UTF-8
cell_utf8 : (text : List ℕ) (test : Truth) (value : Value) → is_utf8 text ≡ test → (if test then text_cell type.Date text else Err NotUtf8) ≡ Ok value → IsUtf8 text
cell_utf8 text true value is read = IsUtf8-from_is_utf8 text is
cell_utf8 text false value is read = absurd cc

value_printed : (levels : ℕ) (value : Value) → IsValue value → IsPrinted levels (value_data value)
value_printed levels (Bool b) fits = boolean_printed levels b
value_printed levels (Byte n) fits = integer_printed levels n (omega arith)
value_printed levels (Short n) fits = integer_printed levels n (omega arith)
value_printed levels (Int n) fits = integer_printed levels n (omega arith)
value_printed levels (Long n) fits = integer_printed levels n (omega arith)
value_printed levels (Str text) fits = string_printed levels text fits.utf8
value_printed levels (Date seconds) fits =
    string_printed levels (date_text seconds) (cell_utf8 (date_text seconds) (is_utf8 (date_text seconds)) (Date seconds) refl (read_back seconds fits))

type_utf8 : (value : Value) → IsUtf8 (data_type value)
type_utf8 (Bool b) = IsUtf8-are_ascii _ refl
type_utf8 (Byte n) = IsUtf8-are_ascii _ refl
type_utf8 (Short n) = IsUtf8-are_ascii _ refl
type_utf8 (Int n) = IsUtf8-are_ascii _ refl
type_utf8 (Long n) = IsUtf8-are_ascii _ refl
type_utf8 (Str text) = IsUtf8-are_ascii _ refl
type_utf8 (Date seconds) = IsUtf8-are_ascii _ refl

name : (text : List ℕ) → are_ascii text ≡ true → IsUtf8 text
name text is = IsUtf8-are_ascii text is

typed_printed : (levels : ℕ) (value : Value) → IsValue value → IsPrinted (suc levels) (typed_data value)
typed_printed levels value fits =
    let is = value_printed levels value fits in
    object_printed levels (member (codes "dataType") (string (data_type value)) (member (codes "value") (value_data value) no_members)) (rw (is.same) refl)
    (one_more levels (codes "dataType") _ _ (name (codes "dataType") refl) (string_printed levels (data_type value) (type_utf8 value))
    (one_more levels (codes "value") _ _ (name (codes "value") refl) is (no_more levels)))

element_printed : (levels : ℕ) (kind id key : List ℕ) (value : Data) → IsUtf8 kind → IsUtf8 id → IsUtf8 key → IsPrinted levels value → IsPrinted (suc levels) (element_data kind id key value)
element_printed levels kind id key value kind_is id_is key_is is =
    object_printed levels (member (codes "id") (string id) (member (codes "key") (string key) (member (codes "type") (string kind) (member (codes "value") value no_members)))) (rw (is.same) refl)
    (one_more levels (codes "id") _ _ (name (codes "id") refl) (string_printed levels id id_is)
    (one_more levels (codes "key") _ _ (name (codes "key") refl) (string_printed levels key key_is)
    (one_more levels (codes "type") _ _ (name (codes "type") refl) (string_printed levels kind kind_is)
    (one_more levels (codes "value") _ _ (name (codes "value") refl) is (no_more levels)))))

edge_printed : (levels : ℕ) (id from to : List ℕ) (label : Data) → IsUtf8 id → IsUtf8 from → IsUtf8 to → IsPrinted levels label → IsPrinted (suc levels) (edge_data id from to label)
edge_printed levels id from to label id_is from_is to_is is =
    object_printed levels
    (member (codes "from") (string from) (member (codes "id") (string id) (member (codes "key") (string (codes "label"))
    (member (codes "to") (string to) (member (codes "type") (string (codes "e")) (member (codes "value") label no_members)))))) (rw (is.same) refl)
    (one_more levels (codes "from") _ _ (name (codes "from") refl) (string_printed levels from from_is)
    (one_more levels (codes "id") _ _ (name (codes "id") refl) (string_printed levels id id_is)
    (one_more levels (codes "key") _ _ (name (codes "key") refl) (string_printed levels (codes "label") (name (codes "label") refl))
    (one_more levels (codes "to") _ _ (name (codes "to") refl) (string_printed levels to to_is)
    (one_more levels (codes "type") _ _ (name (codes "type") refl) (string_printed levels (codes "e") (name (codes "e") refl))
    (one_more levels (codes "value") _ _ (name (codes "value") refl) is (no_more levels)))))))

label_value : (text : List ℕ) → IsUtf8 text → IsPrinted 1 (typed_data (Str text))
label_value text utf8 =
    object_printed 0 (member (codes "dataType") (string (codes "String")) (member (codes "value") (string text) no_members)) refl
    (one_more 0 (codes "dataType") _ _ (name (codes "dataType") refl) (string_printed 0 (codes "String") (name (codes "String") refl))
    (one_more 0 (codes "value") _ _ (name (codes "value") refl) (string_printed 0 text utf8) (no_more 0)))

side_utf8 : (side : Side) → IsUtf8 (property_type side)
side_utf8 Vertex = name (codes "vp") refl
side_utf8 Edge = name (codes "ep") refl

change_printed : (change : Change) → IsChange change → IsPrinted 2 (change_data change)
change_printed (AddLabel id label) fits =
    element_printed 1 (codes "vl") id (codes "label") _ (name (codes "vl") refl) (fits.0).utf8 (name (codes "label") refl) (label_value label (fits.1).utf8)
change_printed (AddEdge id label from to) fits = edge_printed 1 id from to _ (fits.0).utf8 (fits.1.1.0).utf8 (fits.1.1.1).utf8 (label_value label (fits.1.0).utf8)
change_printed (AddValue side id key value) fits = element_printed 1 (property_type side) id key _ (side_utf8 side) (fits.0).utf8 (fits.1.0).utf8 (typed_printed 0 value fits.1.1)
change_printed (RemoveValue side id key value) fits = element_printed 1 (property_type side) id key _ (side_utf8 side) (fits.0).utf8 (fits.1.0).utf8 (typed_printed 0 value fits.1.1)

place_printed : (levels commit op : ℕ) → commit < 2 ^ 64 → op < 2 ^ 64 → IsPrinted (suc levels) (place_data commit op)
place_printed levels commit op commit_fits op_fits =
    let first = unsigned_printed levels commit commit_fits in
    let second = unsigned_printed levels op op_fits in
    object_printed levels (member (codes "commitNum") (number (unsigned commit)) (member (codes "opNum") (number (unsigned op)) no_members)) (rw (first.same, second.same) refl)
    (one_more levels (codes "commitNum") _ _ (name (codes "commitNum") refl) first
    (one_more levels (codes "opNum") _ _ (name (codes "opNum") refl) second (no_more levels)))

op_utf8 : (change : Change) → IsUtf8 (op_name change)
op_utf8 (AddLabel id label) = name (codes "ADD") refl
op_utf8 (AddEdge id label from to) = name (codes "ADD") refl
op_utf8 (AddValue side id key value) = name (codes "ADD") refl
op_utf8 (RemoveValue side id key value) = name (codes "REMOVE") refl

record_printed : (levels moment : ℕ) (change place : Data) (last : Truth) (op : List ℕ) → moment < 2 ^ 64 → IsPrinted levels change → IsPrinted levels place → IsUtf8 op →
    IsPrinted (suc levels) (record_data moment change place last op)
record_printed levels moment change place true op moment_fits change_is place_is op_is =
    let moment_is = unsigned_printed levels moment moment_fits in
    object_printed levels
    (member (codes "commitTimestamp") (number (unsigned moment)) (member (codes "data") change (member (codes "eventId") place
    (with_last true (member (codes "op") (string op) no_members))))) (rw (moment_is.same, change_is.same, place_is.same) refl)
    (one_more levels (codes "commitTimestamp") _ _ (name (codes "commitTimestamp") refl) moment_is
    (one_more levels (codes "data") _ _ (name (codes "data") refl) change_is
    (one_more levels (codes "eventId") _ _ (name (codes "eventId") refl) place_is
    (one_more levels (codes "isLastOp") _ _ (name (codes "isLastOp") refl) (boolean_printed levels true)
    (one_more levels (codes "op") _ _ (name (codes "op") refl) (string_printed levels op op_is) (no_more levels))))))
record_printed levels moment change place false op moment_fits change_is place_is op_is =
    let moment_is = unsigned_printed levels moment moment_fits in
    object_printed levels
    (member (codes "commitTimestamp") (number (unsigned moment)) (member (codes "data") change (member (codes "eventId") place
    (with_last false (member (codes "op") (string op) no_members))))) (rw (moment_is.same, change_is.same, place_is.same) refl)
    (one_more levels (codes "commitTimestamp") _ _ (name (codes "commitTimestamp") refl) moment_is
    (one_more levels (codes "data") _ _ (name (codes "data") refl) change_is
    (one_more levels (codes "eventId") _ _ (name (codes "eventId") refl) place_is
    (one_more levels (codes "op") _ _ (name (codes "op") refl) (string_printed levels op op_is) (no_more levels)))))

event_printed : (event : Event) → IsEvent event → IsPrinted 3 (event_data event)
event_printed event is =
    record_printed 2 event.moment (change_data event.change) (place_data event.commit event.op) event.last (op_name event.change) is.moment (change_printed event.change is.change)
    (place_printed 1 event.commit event.op is.commit_fits is.op_fits) (op_utf8 event.change)

pub event_read : (event : Event) → IsEvent event → IsUtf8 (event_text event) × (read (event_text event) ≡ Some (event_data event))
event_read event is =
    let printed = event_printed event is in
    (printed.utf8, read_printed 3 (event_data event) (omega arith) printed)
