-- No two events have one text.
use Rattle.std.proofs.Common.{◌≡◌, ◌∙◌, ℕ, ℤ, pos, negsuc, List, ◌∷◌, Some, codes, get_or, refl, sym, ap, inl, inr, ◌⊎◌}
use Rattle.std.specs.Prelude.{◌==◌, if◌then◌else◌, is_some, Result, Ok, Err}
use Rattle.serde_json.specs.Data.{number, unsigned}
use Rattle.serde_json.specs.Find.{get, of_integer}
use Rattle.serde_json.specs.Read.{read}
use Rattle.bl_value.specs.Cells.{cell}
use Rattle.bl_value.specs.Dates.{date_text}
use Rattle.bl_value.specs.Json.{value_data}
use Rattle.bl_value.specs.Valid.{IsChange, IsValue, IsDate}
use Rattle.bl_value.specs.declared.change.Change.{Change}
use Rattle.bl_value.specs.declared.change.Change.TheVariants.{AddLabel, AddEdge, AddValue, RemoveValue}
use Rattle.bl_value.specs.declared.column.Side.TheVariants.{Vertex, Edge}
use Rattle.bl_value.specs.declared.value.Value.{Value}
use Rattle.bl_value.specs.declared.value.Value.TheVariants.{Bool, Byte, Short, Int, Long, Str, Date}
use Rattle.bl_value.specs.declared.value_type.ValueType.{ValueType}
use Rattle.bl_value.specs.declared.value_type.ValueType.TheVariants as type
use Rattle.bl_value.proofs.DateTexts.{read_back}
use Rattle.bl_change.specs.EventText.{change_data, data_type, event_data, event_text, op_name, place_data, typed_data}
use Rattle.bl_change.specs.EventTexts.{IsEvent, Reads}
use Rattle.bl_change.specs.Found.{operation_of, record_type, type_of}
use Rattle.bl_change.specs.declared.event.Event.{Event}
use Rattle.bl_change.specs.declared.operation.Operation.{Operation}
use Rattle.bl_change.specs.declared.operation.Operation.TheVariants as operation
use Rattle.bl_change.specs.declared.refusal.EventRefusal.{EventRefusal}
use Rattle.bl_change.specs.declared.refusal.EventRefusal.TheVariants.{NotJson, NotAnEvent, NoMemory}
use Rattle.bl_change.proofs.EventParts.{event_is, last_there, op_there}
use Rattle.bl_change.proofs.EventsPrinted.{event_read}
use Rattle.bl_change.proofs.Finding.{one_data, one_text, type_there}

-- the type that a name is of, by its first two letters
type_with : List ℕ → ValueType
type_with (first ∷ second ∷ rest) =
    if second == 121 then type.Byte
    else (if second == 104 then type.Short
    else (if second == 110 then type.Int
    else (if second == 116 then type.Str
    else (if second == 97 then type.Date
    else (if first == 66 then type.Bool else type.Long)))))
type_with _ = type.Bool

named : (value : Value) → type_with (data_type value) ≡ type_of value
unfolding type_with
named (Bool b) = refl
named (Byte n) = refl
named (Short n) = refl
named (Int n) = refl
named (Long n) = refl
named (Str text) = refl
named (Date seconds) = refl

same_integer : (a b : ℤ) → number (of_integer a) ≡ number (of_integer b) → a ≡ b
same_integer (pos a) (pos b) same = cc
same_integer (pos a) (negsuc b) same = absurd cc
same_integer (negsuc a) (pos b) same = absurd cc
same_integer (negsuc a) (negsuc b) same = cc

same_date : (a b : ℤ) → IsDate a → IsDate b → date_text a ≡ date_text b → a ≡ b
same_date a b a_is b_is same =
    let first = read_back a a_is in
    let second = read_back b b_is in
    let cells = ap (cell type.Date) same in
    cc (first, second, cells)

same_value : (a b : Value) → type_of a ≡ type_of b → IsValue a → IsValue b → value_data a ≡ value_data b → a ≡ b
same_value (Bool a) (Bool b) _ a_is b_is same = cc
same_value (Byte a) (Byte b) _ a_is b_is same = ap Byte (same_integer a b same)
same_value (Short a) (Short b) _ a_is b_is same = ap Short (same_integer a b same)
same_value (Int a) (Int b) _ a_is b_is same = ap Int (same_integer a b same)
same_value (Long a) (Long b) _ a_is b_is same = ap Long (same_integer a b same)
same_value (Str a) (Str b) _ a_is b_is same = cc
same_value (Date a) (Date b) _ a_is b_is same = let texts : date_text a ≡ date_text b = cc in ap Date (same_date a b a_is b_is texts)
same_value _ _ kinds _ _ _ = absurd cc

same_typed : (a b : Value) → IsValue a → IsValue b → typed_data a ≡ typed_data b → a ≡ b
same_typed a b a_is b_is same =
    let names : data_type a ≡ data_type b = cc in
    let values : value_data a ≡ value_data b = cc in
    same_value a b (sym (named a) ∙ ap type_with names ∙ named b) a_is b_is values

-- what a record does, by its type and its `op`
property_with : ℕ → ℕ → Operation
property_with first op =
    if op == 65 then operation.AddValue (if first == 118 then Vertex else Edge) else operation.RemoveValue (if first == 118 then Vertex else Edge)

operation_with : List ℕ → List ℕ → Operation
operation_with (first ∷ second ∷ rest) op = if second == 108 then operation.AddLabel else property_with first (get_or op 0 0)
operation_with _ op = operation.AddEdge

done : (change : Change) → operation_with (record_type change) (op_name change) ≡ operation_of change
unfolding operation_with property_with
done (AddLabel id label) = refl
done (AddEdge id label from to) = refl
done (AddValue Vertex id key value) = refl
done (AddValue Edge id key value) = refl
done (RemoveValue Vertex id key value) = refl
done (RemoveValue Edge id key value) = refl

same_parts : (a b : Change) → operation_of a ≡ operation_of b → IsChange a → IsChange b → change_data a ≡ change_data b → a ≡ b
same_parts (AddLabel id label) (AddLabel other other_label) _ a_is b_is same = cc
same_parts (AddEdge id label from to) (AddEdge other other_label other_from other_to) _ a_is b_is same = cc
same_parts (AddValue side id key value) (AddValue other_side other other_key other_value) does a_is b_is same =
    let typed : typed_data value ≡ typed_data other_value = cc in
    let values = same_typed value other_value a_is.1.1 b_is.1.1 typed in
    let sides : side ≡ other_side = cc does in
    cc (values, sides, same)
same_parts (RemoveValue side id key value) (RemoveValue other_side other other_key other_value) does a_is b_is same =
    let typed : typed_data value ≡ typed_data other_value = cc in
    let values = same_typed value other_value a_is.1.1 b_is.1.1 typed in
    let sides : side ≡ other_side = cc does in
    cc (values, sides, same)
same_parts _ _ does _ _ _ = absurd (let no = does in cc)

same_change : (a b : Change) → IsChange a → IsChange b → op_name a ≡ op_name b → change_data a ≡ change_data b → a ≡ b
same_change a b a_is b_is ops same =
    let types : record_type a ≡ record_type b = one_text _ _ _ (type_there a) (ap (get (codes "type")) same ∙ type_there b) in
    same_parts a b (sym (done a) ∙ ap (λ kind. operation_with kind (op_name a)) types ∙ ap (operation_with (record_type b)) ops ∙ done b) a_is b_is same

same_event : (a b : Event) → IsEvent a → IsEvent b → event_data a ≡ event_data b → a ≡ b
same_event a b a_is b_is same =
    let moments : Some (number (unsigned a.moment)) ≡ Some (number (unsigned b.moment)) = ap (get (codes "commitTimestamp")) same in
    let places : Some (place_data a.commit a.op) ≡ Some (place_data b.commit b.op) = ap (get (codes "eventId")) same in
    let changes : change_data a.change ≡ change_data b.change = one_data _ _ _ refl (ap (get (codes "data")) same) in
    let ops = one_text _ _ _ (op_there a) (ap (get (codes "op")) same ∙ op_there b) in
    let last = sym (last_there a) ∙ ap (λ json. is_some (get (codes "isLastOp") json)) same ∙ last_there b in
    event_is b a.commit a.op a.moment a.last a.change (cc places) (cc places) (cc moments) last (same_change a.change b.change a_is.change b_is.change ops changes)

pub one_event : (a b : Event) → IsEvent a → IsEvent b → event_text a ≡ event_text b → a ≡ b
one_event a b a_is b_is same =
    let first = (event_read a a_is).1 in
    let second = (event_read b b_is).1 in
    same_event a b a_is b_is (one_data (read (event_text a)) (event_data a) (event_data b) first (ap read same ∙ second))

pub only_answer : (event : Event) → IsEvent event → (result : Result Event EventRefusal) → Reads (event_text event) result → (result ≡ Ok event) ⊎ (result ≡ Err NoMemory)
only_answer event is (Ok other) reads = inl (ap Ok (sym (one_event event other is reads.0 reads.1)))
only_answer event is (Err NotJson) reads = let law = event_read event is in absurd (reads (record { utf8 = law.0; value = (event_data event, law.1) }))
only_answer event is (Err NotAnEvent) reads = absurd (reads.1 event is refl)
only_answer event is (Err NoMemory) reads = inr refl
