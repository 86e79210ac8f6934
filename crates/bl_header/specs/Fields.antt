-- What a field of a header says (Neptune User Guide, "Gremlin load data format"): `~id`, `~label`,
-- `~from`, `~to`, or a property's name, optionally a colon and a type text. The fields here have
-- lost the ASCII spaces at both ends.
use Rattle.std.specs.Prelude.{◌≡◌, ℕ, ◌==◌, nat_le, Bool, true, false, not, ◌&&◌, if◌then◌else◌, codes, List, [], ◌∷◌, drop, length, None, Some}
use Rattle.std.specs.declared.option.Option.{Option}
use Rattle.std.specs.Option.{option_map, option_and_then}
use Rattle.std.specs.Str.{is_utf8}
use Rattle.bl_value.specs.declared.value_type.ValueType.TheVariants.{Str}
use Rattle.bl_value.specs.declared.column.ColumnUse.{ColumnUse}
use Rattle.bl_value.specs.declared.column.ColumnUse.TheVariants.{Id, Label, From, To, Property}
use Rattle.bl_value.specs.declared.column.Side.{Side}
use Rattle.bl_value.specs.declared.column.Side.TheVariants.{Vertex, Edge}
use Rattle.bl_value.specs.Valid.{key_limit}
use Rattle.bl_value.specs.ValidColumns.{ColumnName, is_same_name, of_property, use_name}
use Rattle.bl_header.specs.declared.type_text.TypeName.{TypeName}
use Rattle.bl_header.specs.declared.type_text.TypeName.TheVariants.{Kept, Float}
use Rattle.bl_header.specs.declared.type_text.Cardinality.{Cardinality}
use Rattle.bl_header.specs.declared.type_text.Cardinality.TheVariants.{Single, Set}
use Rattle.bl_header.specs.declared.type_text.TypeText.{TypeText}
use Rattle.bl_header.specs.TypeTexts.{is_text, type_text}

-- a field of a system column begins with `~`
abbrev pub is_system : List ℕ → Bool
is_system [] = false
is_system (byte ∷ rest) = byte == 126

abbrev pub system_column : List ℕ → Option ColumnUse
system_column field =
    if is_text (codes "~id") field then Some Id
    else (if is_text (codes "~label") field then Some Label
    else (if is_text (codes "~from") field then Some From
    else (if is_text (codes "~to") field then Some To else None)))

-- What stands before the dividing colon, which is the first without a backslash right before it.
-- `barred` says whether a backslash stands right before the text.
abbrev pub before_colon : Bool → List ℕ → List ℕ
before_colon barred [] = []
before_colon barred (byte ∷ rest) =
    if byte == 58 && not barred then [] else byte ∷ before_colon (byte == 92) rest

abbrev pub name_part : List ℕ → List ℕ
name_part field = before_colon false field

abbrev pub behind_first : List ℕ → Option (List ℕ)
behind_first [] = None
behind_first (byte ∷ rest) = Some rest

-- what stands behind the dividing colon, if there is one
abbrev pub type_part : List ℕ → Option (List ℕ)
type_part field = behind_first (drop (length (name_part field)) field)

abbrev pub begins_with_colon : List ℕ → Bool
begins_with_colon [] = false
begins_with_colon (byte ∷ rest) = byte == 58

-- without the backslashes that stand right before a colon
abbrev pub unescaped : List ℕ → List ℕ
unescaped [] = []
unescaped (byte ∷ rest) = if byte == 92 && begins_with_colon rest then unescaped rest else byte
    ∷ unescaped rest

-- the name of a property
abbrev pub name_of : List ℕ → List ℕ
name_of field = unescaped (name_part field)

-- UTF-8 of 1 byte or more, and not too many
abbrev pub is_name : List ℕ → Bool
is_name name = (not (length name == 0) && nat_le (length name) key_limit) && is_utf8 name

-- any number of texts, one in a cell
abbrev pub plain_text : TypeText
plain_text = record { name = Kept Str; cardinality = None; many = false }

abbrev pub type_or_text : Option (List ℕ) → Option TypeText
type_or_text None = Some plain_text
type_or_text (Some text) = type_text text

-- the type of a property; without a colon it is a text
abbrev pub type_of : List ℕ → Option TypeText
type_of field = type_or_text (type_part field)

-- Without a cardinality a property of an edge is single, and that of a vertex a set.
abbrev pub is_single : Side → Option Cardinality → Bool
is_single side (Some Single) = true
is_single side (Some Set) = false
is_single Vertex None = false
is_single Edge None = true

abbrev pub kept_column : Side → List ℕ → Option Cardinality → Bool → TypeName → Option ColumnUse
kept_column side name cardinality many (Kept kind) =
    Some (Property (record {
      name = name;
      kind = kind;
      single = is_single side cardinality;
      many = many;
    }))
kept_column side name cardinality many Float = None

abbrev pub property_column : Side → List ℕ → TypeText → Option ColumnUse
property_column side name type = kept_column side name type.cardinality type.many type.name

-- what a column is for, where its field says it
abbrev pub column_use : Side → List ℕ → Option ColumnUse
column_use side field =
    if is_system field then system_column field
    else (if is_name (name_of field)
    then option_and_then (property_column side (name_of field)) (type_of field) else None)

-- what a column is called by its field, if that says it
abbrev pub column_name : List ℕ → Option ColumnName
column_name field =
    if is_system field then option_map use_name (system_column field)
    else (if is_name (name_of field) then Some (of_property (name_of field)) else None)

abbrev pub is_same_column_by : Option ColumnName → Option ColumnName → Bool
is_same_column_by (Some a) (Some b) = is_same_name a b
is_same_column_by _ _ = false

-- two fields of the same system column, or of properties that have one name
abbrev pub is_same_column : List ℕ → List ℕ → Bool
is_same_column a b = is_same_column_by (column_name a) (column_name b)

-- a name with a backslash right before each of its colons
abbrev pub escaped : List ℕ → List ℕ
escaped [] = []
escaped (byte ∷ rest) = if byte == 58 then 92 ∷ (58 ∷ escaped rest) else byte ∷ escaped rest

-- the column of texts with this name, of a field without a type text
abbrev pub plain_column : Side → List ℕ → ColumnUse
plain_column side name = Property
    (record { name = name; kind = Str; single = is_single side None; many = false })

-- A name whose colons are escaped is read back as a column of texts.
abbrev pub NamesAreReadBack : Type 0
NamesAreReadBack = (side : Side) (name : List ℕ) → is_name name ≡ true → is_system name ≡ false →
    column_use side (escaped name) ≡ Some (plain_column side name)
