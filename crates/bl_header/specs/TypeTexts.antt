-- What a type text says (Neptune User Guide, "Gremlin load data format"): a type name, then
-- optionally `(single)` or `(set)`, then optionally `[]`, in any letter case.
use Rattle.std.specs.Prelude.{◌≡◌, ◌↔◌, ℕ, ◌-◌, Bool, true, false, if◌then◌else◌, nat_eq, codes, List, [], ◌∷◌, ◌++◌, map, take, drop, length, None, Some}
use Rattle.std.specs.declared.option.Option.{Option}
use Rattle.std.specs.Option.{option_map}
use Rattle.std.specs.List.{Contains}
use Rattle.std.specs.Map.{lookup}
use Rattle.std.specs.Char.{to_ascii_lowercase}
use Rattle.std.specs.Cmp.Lexicographic.{pointwise}
use Rattle.bl_value.specs.declared.value_type.ValueType.TheVariants as types
use Rattle.bl_header.specs.declared.type_text.TypeName.{TypeName}
use Rattle.bl_header.specs.declared.type_text.TypeName.TheVariants.{Kept, Float}
use Rattle.bl_header.specs.declared.type_text.Cardinality.{Cardinality}
use Rattle.bl_header.specs.declared.type_text.Cardinality.TheVariants.{Single, Set}
use Rattle.bl_header.specs.declared.type_text.TypeText.{TypeText}

-- the type names in lower case
abbrev pub type_names : List (List ℕ × TypeName)
type_names =
    (codes "bool", Kept types.Bool)
    ∷ ((codes "boolean", Kept types.Bool) ∷ ((codes "byte", Kept types.Byte) ∷
    ((codes "short", Kept types.Short)
    ∷ ((codes "int", Kept types.Int) ∷ ((codes "long", Kept types.Long) ∷
    ((codes "float", Float) ∷ ((codes "double", Float)
    ∷ ((codes "string", Kept types.Str) ∷ ((codes "date", Kept types.Date) ∷ [])))))))))

abbrev pub cardinality_text : Option Cardinality → List ℕ
cardinality_text None = []
cardinality_text (Some Single) = codes "(single)"
cardinality_text (Some Set) = codes "(set)"

abbrev pub array_text : Bool → List ℕ
array_text false = []
array_text true = codes "[]"

-- a type as it is spelled in lower case
pub record IsSpelling (text : List ℕ) (type : TypeText) : Type 0 where
  pub word : List ℕ
  pub named : Contains type_names (word, type.name)
  pub spelled : text ≡ word ++ (cardinality_text type.cardinality ++ array_text type.many)

abbrev pub is_text : List ℕ → List ℕ → Bool
is_text word text = pointwise nat_eq text word

abbrev pub type_name : List ℕ → Option TypeName
type_name text = lookup (pointwise nat_eq text) type_names

-- what stands before this ending, where the text ends so
abbrev pub before_ending : List ℕ → List ℕ → Option (List ℕ)
before_ending ending text =
    if pointwise nat_eq (drop (length text - length ending) text) ending
    then Some (take (length text - length ending) text) else None

-- a type name, behind which these endings stood
abbrev pub named : List ℕ → Option Cardinality → Bool → Option TypeText
named text cardinality many = option_map
    (λ name. record { name = name; cardinality = cardinality; many = many }) (type_name text)

abbrev pub without_set : Option (List ℕ) → List ℕ → Bool → Option TypeText
without_set (Some front) text many = named front (Some Set) many
without_set None text many = named text None many

abbrev pub without_single : Option (List ℕ) → List ℕ → Bool → Option TypeText
without_single (Some front) text many = named front (Some Single) many
without_single None text many = without_set (before_ending (codes "(set)") text) text many

-- a type name and optionally a cardinality
abbrev pub with_cardinality : List ℕ → Bool → Option TypeText
with_cardinality text many = without_single (before_ending (codes "(single)") text) text many

abbrev pub without_brackets : Option (List ℕ) → List ℕ → Option TypeText
without_brackets (Some front) text = with_cardinality front true
without_brackets None text = with_cardinality text false

-- a type text in lower case
abbrev pub lower_type_text : List ℕ → Option TypeText
lower_type_text text = without_brackets (before_ending (codes "[]") text) text

abbrev pub type_text : List ℕ → Option TypeText
type_text text = lower_type_text (map to_ascii_lowercase text)

-- a text says a type exactly where it spells it, in whatever letter case
abbrev pub AreReadAsSpelled : Type 0
AreReadAsSpelled = (text : List ℕ) (type : TypeText) →
    (type_text text ≡ Some type) ↔ IsSpelling (map to_ascii_lowercase text) type
