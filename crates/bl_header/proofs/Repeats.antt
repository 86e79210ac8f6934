-- A column is repeated by its use exactly where it is by its field.
use Rattle.std.proofs.Common.{◌≡◌, ℕ, Bool, true, false, if◌then◌else◌, List, [], ◌∷◌, map, take, refl, ap, Some, None}
use Rattle.std.specs.declared.option.Option.{Option}
use Rattle.std.specs.Option.{option_and_then, option_map}
use Rattle.std.specs.List.{list_any}
use Rattle.bl_value.specs.Cells.{without_spaces}
use Rattle.bl_value.specs.declared.column.ColumnUse.{ColumnUse}
use Rattle.bl_value.specs.declared.column.Side.{Side}
use Rattle.bl_header.specs.declared.type_text.TypeName.{TypeName}
use Rattle.bl_header.specs.declared.type_text.TypeName.TheVariants.{Kept, Float}
use Rattle.bl_header.specs.declared.type_text.Cardinality.{Cardinality}
use Rattle.bl_header.specs.declared.type_text.TypeText.{TypeText}
use Rattle.bl_header.specs.Faults.{repeated}
use Rattle.bl_header.specs.Fields.{column_name, column_use, is_name, is_same_column, is_system, kept_column, name_of, property_column, system_column, type_of}
use Rattle.bl_value.specs.ValidColumns.{of_property, use_name}
use Rattle.bl_value.specs.ValidColumns.{is_same_use}
use Rattle.bl_header.specs.FirstFaults.{fault_at, field_at, own_fault, use_in}

kept_name : (side : Side) (name : List ℕ) (cardinality : Option Cardinality) (many : Bool) (type : TypeName) (it : ColumnUse) → kept_column side name cardinality many type ≡ Some it → Some (of_property name) ≡ Some (use_name it)
kept_name side name cardinality many (Kept kind) it e = ap (option_map use_name) e
kept_name side name cardinality many Float it e = absurd (cc)

typed_name : (side : Side) (name : List ℕ) (type : Option TypeText) (it : ColumnUse) → option_and_then (property_column side name) type ≡ Some it → Some (of_property name) ≡ Some (use_name it)
typed_name side name None it e = absurd (cc)
typed_name side name (Some type) it e = kept_name side name type.cardinality type.many type.name it e

name_by : (is_system is_name : Bool) (side : Side) (system : Option ColumnUse) (name : List ℕ) (type : Option TypeText) (it : ColumnUse) → (if is_system then system else (if is_name then option_and_then (property_column side name) type else None)) ≡ Some it → (if is_system then option_map use_name system else (if is_name then Some (of_property name) else None)) ≡ Some (use_name it)
name_by true is_name side system name type it e = ap (option_map use_name) e
name_by false true side system name type it e = typed_name side name type it e
name_by false false side system name type it e = absurd (cc)

-- a field's use has the name that the field says
pub name_of_use : (side : Side) (field : List ℕ) (it : ColumnUse) → column_use side field ≡ Some it → column_name field ≡ Some (use_name it)
name_of_use side field it e = name_by (is_system field) (is_name (name_of field)) side (system_column field) (name_of field) (type_of field) it e

pub same_names : (side : Side) (a b : List ℕ) (u v : ColumnUse) → column_use side a ≡ Some u → column_name b ≡ Some (use_name v) → is_same_column a b ≡ is_same_use u v
same_names side a b u v e f = rw (name_of_use side a u e, f)

-- among the columns to the left
pub same_any : (side : Side) (uses : List ColumnUse) (fields : List (List ℕ)) (field : List ℕ) (it : ColumnUse) → map Some uses ≡ map (use_in side) fields → column_name field ≡ Some (use_name it) → list_any (λ other. is_same_column (without_spaces other) field) fields ≡ list_any (λ other. is_same_use other it) uses
same_any side [] [] field it e f = refl
same_any side [] (x ∷ fields) field it e f = absurd (cc)
same_any side (u ∷ uses) [] field it e f = absurd (cc)
same_any side (u ∷ uses) (x ∷ fields) field it e f =
    let head : column_use side (without_spaces x) ≡ Some u = cc in
    let rest : map Some uses ≡ map (use_in side) fields = cc in
    rw (same_names side (without_spaces x) field u it head f, same_any side uses fields field it rest f)

-- the fault of a column that has none of its own
pub fault_behind : (side : Side) (uses : List ColumnUse) (fields : List (List ℕ)) (place : ℕ) (it : ColumnUse) → map Some uses ≡ map (use_in side) (take place fields) → own_fault side (field_at fields place) ≡ None → column_use side (field_at fields place) ≡ Some it → fault_at side fields place ≡ (if list_any (λ other. is_same_use other it) uses then Some repeated else None)
fault_behind side uses fields place it e none is =
    rw (none, same_any side uses (take place fields) (field_at fields place) it e (name_of_use side (field_at fields place) it is))
