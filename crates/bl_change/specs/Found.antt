-- For private clauses: looking for the parts of an event.
use Rattle.std.specs.Prelude.{◌≡◌, ℕ, codes, List, Some, Result, Ok, Err}
use Rattle.serde_json.specs.Data.{Data}
use Rattle.serde_json.specs.Find.{get}
use Rattle.bl_value.specs.Json.{value_data}
use Rattle.bl_value.specs.Valid.{IsChange, IsValue}
use Rattle.bl_value.specs.declared.value.Value.{Value}
use Rattle.bl_value.specs.declared.value.Value.TheVariants.{Bool, Byte, Short, Int, Long, Str, Date}
use Rattle.bl_value.specs.declared.value_type.ValueType.{ValueType}
use Rattle.bl_value.specs.declared.value_type.ValueType.TheVariants as type
use Rattle.bl_value.specs.declared.change.Change.{Change}
use Rattle.bl_value.specs.declared.change.Change.TheVariants.{AddLabel, AddEdge, AddValue, RemoveValue}
use Rattle.bl_change.specs.EventText.{change_data, property_type}
use Rattle.bl_change.specs.EventTexts.{IsJson}
use Rattle.bl_change.specs.declared.operation.Operation.{Operation}
use Rattle.bl_change.specs.declared.operation.Operation.TheVariants as operation
use Rattle.bl_change.specs.declared.refusal.EventRefusal.{EventRefusal}
use Rattle.bl_change.specs.declared.refusal.EventRefusal.TheVariants.{NotJson, NotAnEvent, NoMemory}

-- A search for a thing that is such says that there is none only where none is.
abbrev pub FindsNone : {Thing : Type 0} → (Thing → Type 0) → EventRefusal → Type 0
FindsNone Is NotAnEvent = (thing : _) → Is thing → ⊥
FindsNone Is NotJson = ⊥
FindsNone Is NoMemory = Unit {0}

-- And it gives a thing only where no other is such.
abbrev pub Finds : {Thing : Type 0} → (Thing → Type 0) → Result Thing EventRefusal → Type 0
Finds Is (Ok thing) = (other : _) → Is other → thing ≡ other
Finds Is (Err refusal) = FindsNone Is refusal

-- the type of a value
abbrev pub type_of : Value → ValueType
type_of (Bool b) = type.Bool
type_of (Byte n) = type.Byte
type_of (Short n) = type.Short
type_of (Int n) = type.Int
type_of (Long n) = type.Long
type_of (Str text) = type.Str
type_of (Date seconds) = type.Date

-- a value of this type, in its range, that an object has as its `value`
abbrev pub IsValueIn : ValueType → Data → Value → Type 0
IsValueIn kind json value = (kind ≡ type_of value) × IsValue value
    × (get (codes "value") json ≡ Some (value_data value))

-- what a change does
abbrev pub operation_of : Change → Operation
operation_of (AddLabel id label) = operation.AddLabel
operation_of (AddEdge id label from to) = operation.AddEdge
operation_of (AddValue side id key value) = operation.AddValue side
operation_of (RemoveValue side id key value) = operation.RemoveValue side

-- the kind of its record
abbrev pub record_type : Change → List ℕ
record_type (AddLabel id label) = codes "vl"
record_type (AddEdge id label from to) = codes "e"
record_type (AddValue side id key value) = property_type side
record_type (RemoveValue side id key value) = property_type side

-- a change in its ranges that does this, and has this record
abbrev pub IsChangeIn : Operation → Data → Change → Type 0
IsChangeIn does json change = (does ≡ operation_of change) × IsChange change
    × (json ≡ change_data change)

-- why a text is not read as JSON
abbrev pub IsNoJson : List ℕ → EventRefusal → Type 0
IsNoJson text NotJson = IsJson text → ⊥
IsNoJson text NotAnEvent = ⊥
IsNoJson text NoMemory = Unit {0}
