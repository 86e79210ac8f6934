-- A type text is read as the type that it spells.
use Rattle.std.proofs.Common.{◌≡◌, ◌∙◌, ℕ, ◌-◌, Bool, true, false, if◌then◌else◌, nat_eq, codes, List, ◌++◌, map, take, drop, length, None, Some, refl, ap, sym, subst, append_assoc}
use Rattle.std.specs.declared.option.Option.{Option}
use Rattle.std.specs.Option.{option_map}
use Rattle.std.specs.List.{All}
use Rattle.std.specs.Char.{to_ascii_lowercase}
use Rattle.std.specs.Cmp.Lexicographic.{pointwise}
use Rattle.std.proofs.lemmas.List.{take-append-drop, append-nil}
use Rattle.std.proofs.lemmas.List.Elements.{All-contains, All-from_recursion}
use Rattle.std.proofs.lemmas.Map.Views.{Contains-from_lookup}
use Rattle.std.proofs.lemmas.Slice.Eq.{bytes_eq-Decides}
use Rattle.bl_value.specs.declared.value_type.ValueType.TheVariants as types
use Rattle.bl_header.specs.declared.type_text.TypeName.{TypeName}
use Rattle.bl_header.specs.declared.type_text.TypeName.TheVariants.{Kept, Float}
use Rattle.bl_header.specs.declared.type_text.Cardinality.{Cardinality}
use Rattle.bl_header.specs.declared.type_text.Cardinality.TheVariants.{Single, Set}
use Rattle.bl_header.specs.declared.type_text.TypeText.{TypeText}
use Rattle.bl_header.specs.TypeTexts.{array_text, before_ending, cardinality_text, lower_type_text, named, type_name, type_names, without_brackets, without_set, without_single, AreReadAsSpelled, IsSpelling}

-- What is read is a spelling.

ended_by : (test : Bool) (k : ℕ) (ending text front : List ℕ) → pointwise nat_eq (drop k text) ending ≡ test → (if test then Some (take k text) else None) ≡ Some front → text ≡ front ++ ending
ended_by true k ending text front same e =
    let behind : drop k text ≡ ending = (bytes_eq-Decides (drop k text) ending).0 same in
    let before : take k text ≡ front = cc in
    sym (take-append-drop k text) ∙ (ap (λ xs. xs ++ drop k text) before ∙ ap (λ xs. front ++ xs) behind)
ended_by false k ending text front same e = absurd (cc)

ended : (ending text front : List ℕ) → before_ending ending text ≡ Some front → text ≡ front ++ ending
ended ending text front e = ended_by (pointwise nat_eq (drop (length text - length ending) text) ending) (length text - length ending) ending text front refl e

equal_bytes : (a b : List ℕ) → pointwise nat_eq a b ≡ true → a ≡ b
equal_bytes a b = (bytes_eq-Decides a b).0

named_by : (known : Option TypeName) (word : List ℕ) (cardinality : Option Cardinality) (many : Bool) (type : TypeText) → type_name word ≡ known → option_map (λ name. record { name = name; cardinality = cardinality; many = many }) known ≡ Some type → IsSpelling (word ++ (cardinality_text cardinality ++ array_text many)) type
named_by None word cardinality many type is e = absurd (cc)
named_by (Some name) word cardinality many type is e =
    let whole : TypeText = record { name = name; cardinality = cardinality; many = many } in
    let same : whole ≡ type = cc in
    let spelling : IsSpelling (word ++ (cardinality_text cardinality ++ array_text many)) whole =
    record { word = word; named = Contains-from_lookup equal_bytes word name type_names is; spelled = refl } in
    subst (IsSpelling (word ++ (cardinality_text cardinality ++ array_text many))) same spelling

named_spells : (word : List ℕ) (cardinality : Option Cardinality) (many : Bool) (type : TypeText) → named word cardinality many ≡ Some type → IsSpelling (word ++ (cardinality_text cardinality ++ array_text many)) type
named_spells word cardinality many type e = named_by (type_name word) word cardinality many type refl e

said : (cardinality : Option Cardinality) (text front : List ℕ) (many : Bool) (type : TypeText) → text ≡ front ++ cardinality_text cardinality → named front cardinality many ≡ Some type → IsSpelling (text ++ array_text many) type
said cardinality text front many type is e =
    let same : front ++ (cardinality_text cardinality ++ array_text many) ≡ text ++ array_text many =
    sym (append_assoc front (cardinality_text cardinality) (array_text many)) ∙ ap (λ xs. xs ++ array_text many) (sym is) in
    subst (λ xs. IsSpelling xs type) same (named_spells front cardinality many type e)

set_by : (front : Option (List ℕ)) (text : List ℕ) (many : Bool) (type : TypeText) → before_ending (codes "(set)") text ≡ front → without_set front text many ≡ Some type → IsSpelling (text ++ array_text many) type
set_by (Some front) text many type is e = said (Some Set) text front many type (ended (codes "(set)") text front is) e
set_by None text many type is e = named_spells text None many type e

single_by : (front : Option (List ℕ)) (text : List ℕ) (many : Bool) (type : TypeText) → before_ending (codes "(single)") text ≡ front → without_single front text many ≡ Some type → IsSpelling (text ++ array_text many) type
single_by (Some front) text many type is e = said (Some Single) text front many type (ended (codes "(single)") text front is) e
single_by None text many type is e = set_by (before_ending (codes "(set)") text) text many type refl e

brackets_by : (front : Option (List ℕ)) (text : List ℕ) (type : TypeText) → before_ending (codes "[]") text ≡ front → without_brackets front text ≡ Some type → IsSpelling text type
brackets_by (Some front) text type is e =
    subst (λ xs. IsSpelling xs type) (sym (ended (codes "[]") text front is)) (single_by (before_ending (codes "(single)") front) front true type refl e)
brackets_by None text type is e =
    subst (λ xs. IsSpelling xs type) (append-nil text) (single_by (before_ending (codes "(single)") text) text false type refl e)

-- A spelling is read.

-- the type that is read of each spelling with this name
abbrev IsRead : List ℕ × TypeName → Type 0
IsRead entry = (cardinality : Option Cardinality) (many : Bool) → lower_type_text (entry.0 ++ (cardinality_text cardinality ++ array_text many)) ≡ Some (record { name = entry.1; cardinality = cardinality; many = many })

abbrev reads : List ℕ × TypeName → Option Cardinality → Bool → Type 0
reads entry cardinality many = lower_type_text (entry.0 ++ (cardinality_text cardinality ++ array_text many)) ≡ Some (record { name = entry.1; cardinality = cardinality; many = many })

six : (entry : List ℕ × TypeName) → reads entry None false → reads entry None true → reads entry (Some Single) false → reads entry (Some Single) true → reads entry (Some Set) false → reads entry (Some Set) true → IsRead entry
six entry a b c d e f None false = a
six entry a b c d e f None true = b
six entry a b c d e f (Some Single) false = c
six entry a b c d e f (Some Single) true = d
six entry a b c d e f (Some Set) false = e
six entry a b c d e f (Some Set) true = f

all_read : All IsRead type_names
all_read = All-from_recursion IsRead type_names ((
  six (codes "bool", Kept types.Bool) refl refl refl refl refl refl,
  (
    six (codes "boolean", Kept types.Bool) refl refl refl refl refl refl,
    (
      six (codes "byte", Kept types.Byte) refl refl refl refl refl refl,
      (
        six (codes "short", Kept types.Short) refl refl refl refl refl refl,
        (
          six (codes "int", Kept types.Int) refl refl refl refl refl refl,
          (
            six (codes "long", Kept types.Long) refl refl refl refl refl refl,
            (
              six (codes "float", Float) refl refl refl refl refl refl,
              (
                six (codes "double", Float) refl refl refl refl refl refl,
                (
                  six (codes "string", Kept types.Str) refl refl refl refl refl refl,
                  (
                    six (codes "date", Kept types.Date) refl refl refl refl refl refl,
                    tt,
                  ),
                ),
              ),
            ),
          ),
        ),
      ),
    ),
  ),
))

spelled_reads : (text : List ℕ) (type : TypeText) → IsSpelling text type → lower_type_text text ≡ Some type
spelled_reads text type spelling =
    ap lower_type_text spelling.spelled ∙ All-contains IsRead type_names (spelling.word, type.name) all_read spelling.named type.cardinality type.many

pub read_as_spelled : AreReadAsSpelled
read_as_spelled text type = (brackets_by (before_ending (codes "[]") (map to_ascii_lowercase text)) (map to_ascii_lowercase text) type refl, spelled_reads (map to_ascii_lowercase text) type)
