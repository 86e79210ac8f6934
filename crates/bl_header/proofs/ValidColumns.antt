-- Columns that are read are valid.
use Rattle.std.proofs.Common.{◌≡◌, ◌∙◌, ◌==◌, ℕ, ◌<◌, ◌≤◌, ◌^◌, Bool, true, false, not, ◌&&◌, ◌||◌, nat_le, if◌then◌else◌, codes, List, [], ◌∷◌, length, length-take, map, take, slice_index_or, refl, ap, sym, subst, Some, None, arith}
use Rattle.std.specs.declared.option.Option.{Option}
use Rattle.std.specs.Option.{option_and_then}
use Rattle.std.specs.List.{All, Contains, list_any}
use Rattle.std.specs.Str.{is_utf8}
use Rattle.std.proofs.lemmas.Str.{IsUtf8-from_is_utf8}
use Rattle.std.proofs.lemmas.List.{get_or-map, get_or-take, length-map}
use Rattle.std.proofs.lemmas.List.Elements.{Contains-append_right}
use Rattle.std.proofs.lemmas.List.Folds.{list_any_at}
use Rattle.std.proofs.lemmas.Map.Keys.{IsDistinct-from_apart}
use Rattle.std.proofs.lemmas.Slice.Eq.{bytes_eq-Decides}
use borrow.Author.Tests.{eqb-false, leb-true}
use Rattle.bl_value.specs.Cells.{without_spaces}
use Rattle.bl_value.specs.Valid.{IsKey}
use Rattle.bl_value.specs.declared.column.ColumnUse.{ColumnUse}
use Rattle.bl_value.specs.declared.column.ColumnUse.TheVariants.{Id, Label, From, To, Property}
use Rattle.bl_value.specs.declared.column.Column.{Column}
use Rattle.bl_value.specs.declared.column.Side.{Side}
use Rattle.bl_value.specs.declared.column.Side.TheVariants.{Vertex, Edge}
use Rattle.bl_header.specs.declared.type_text.TypeName.{TypeName}
use Rattle.bl_header.specs.declared.type_text.TypeName.TheVariants.{Kept, Float}
use Rattle.bl_header.specs.declared.type_text.Cardinality.{Cardinality}
use Rattle.bl_header.specs.declared.type_text.Cardinality.TheVariants.{Single, Set}
use Rattle.bl_header.specs.declared.type_text.TypeText.{TypeText}
use Rattle.bl_header.specs.TypeTexts.{is_text}
use Rattle.bl_header.specs.Fields.{column_use, is_name, is_same_column, is_single, is_system, kept_column, name_of, property_column, system_column, type_of}
use Rattle.bl_header.specs.Faults.{Fault, single_array, edge_not_single, repeated, has_fault, has_field, is_on_edge, is_said_set, is_said_single, side_by, side_of, some_passes}
use Rattle.bl_header.specs.FirstFaults.{field_at, use_in, IsCleanBefore}
use Rattle.bl_value.specs.ValidColumns.{is_same_use, HasEnds, IsColumn, IsColumns, IsColumnUse}
use Rattle.bl_header.proofs.FirstFaults.{none_given}
use Rattle.bl_header.proofs.Repeats.{name_of_use, same_names}

-- One column.

some_system : (a b c d : Bool) (side : Side) (found : ColumnUse) → (if a then Some Id else (if b then Some Label else (if c then Some From else (if d then Some To else None)))) ≡ Some found → IsColumnUse side found
some_system true b c d side found e = let is : Id ≡ found = cc in subst (IsColumnUse side) is tt
some_system false true c d side found e = let is : Label ≡ found = cc in subst (IsColumnUse side) is tt
some_system false false true d side found e = let is : From ≡ found = cc in subst (IsColumnUse side) is tt
some_system false false false true side found e = let is : To ≡ found = cc in subst (IsColumnUse side) is tt
some_system false false false false side found e = absurd (cc)

system_valid : (side : Side) (field : List ℕ) (found : ColumnUse) → system_column field ≡ Some found → IsColumnUse side found
system_valid side field found e =
    some_system (is_text (codes "~id") field) (is_text (codes "~label") field) (is_text (codes "~from") field) (is_text (codes "~to") field) side found e

both : (a b : Bool) → (a && b) ≡ true → (a ≡ true) × (b ≡ true)
both true b e = (refl, e)
both false b e = absurd (cc)

key_by : (name : List ℕ) (empty : Bool) → (length name == 0) ≡ empty → not empty ≡ true → 1 ≤ length name
key_by name true e filled = absurd (cc)
key_by name false e filled = let some = eqb-false (length name) 0 e in omega arith

key : (name : List ℕ) → is_name name ≡ true → IsKey name
key name is =
    let parts = both (not (length name == 0) && nat_le (length name) 256) (is_utf8 name) is in
    let lengths = both (not (length name == 0)) (nat_le (length name) 256) parts.0 in
    record {
      utf8 = IsUtf8-from_is_utf8 name parts.1;
      some = key_by name (length name == 0) refl lengths.0;
      short = leb-true (length name) 256 lengths.1;
    }

not_both : (side : Side) (cardinality : Option Cardinality) (many : Bool) → (is_said_single cardinality && many) ≡ false → (is_on_edge side && (is_said_set cardinality || many)) ≡ false → (is_single side cardinality && many) ≡ false
not_both side (Some Single) many array edge = array
not_both side (Some Set) many array edge = refl
not_both Vertex None many array edge = refl
not_both Edge None many array edge = edge

single_on_edge : (side : Side) (cardinality : Option Cardinality) (many : Bool) → (is_on_edge side && (is_said_set cardinality || many)) ≡ false → side ≡ Edge → is_single side cardinality ≡ true
single_on_edge side (Some Single) many edge is = refl
single_on_edge Vertex (Some Set) many edge is = absurd (cc)
single_on_edge Edge (Some Set) many edge is = absurd (cc)
single_on_edge Vertex None many edge is = absurd (cc)
single_on_edge Edge None many edge is = refl

kept_valid : (side : Side) (name : List ℕ) (cardinality : Option Cardinality) (many : Bool) (type : TypeName) (found : ColumnUse) → IsKey name → (is_said_single cardinality && many) ≡ false → (is_on_edge side && (is_said_set cardinality || many)) ≡ false → kept_column side name cardinality many type ≡ Some found → IsColumnUse side found
kept_valid side name cardinality many Float found is array edge e = absurd (cc)
kept_valid side name cardinality many (Kept kind) found is array edge e =
    let column : Column = record { name = name; kind = kind; single = is_single side cardinality; many = many } in
    let same : Property column ≡ found = cc in
    let valid : IsColumn side column = record { name = is; one = not_both side cardinality many array edge; edge = single_on_edge side cardinality many edge } in
    subst (IsColumnUse side) same valid

typed_valid : (side : Side) (name : List ℕ) (type : Option TypeText) (found : ColumnUse) → IsKey name → some_passes (λ t. is_said_single t.cardinality && t.many) type ≡ false → (is_on_edge side && some_passes (λ t. is_said_set t.cardinality || t.many) type) ≡ false → option_and_then (property_column side name) type ≡ Some found → IsColumnUse side found
typed_valid side name None found is array edge e = absurd (cc)
typed_valid side name (Some type) found is array edge e = kept_valid side name type.cardinality type.many type.name found is array edge e

valid_by : (system named : Bool) (side : Side) (field : List ℕ) (found : ColumnUse) → is_name (name_of field) ≡ named → (not system && some_passes (λ t. is_said_single t.cardinality && t.many) (type_of field)) ≡ false → (is_on_edge side && (not system && some_passes (λ t. is_said_set t.cardinality || t.many) (type_of field))) ≡ false → (if system then system_column field else (if named then option_and_then (property_column side (name_of field)) (type_of field) else None)) ≡ Some found → IsColumnUse side found
valid_by true named side field found is array edge e = system_valid side field found e
valid_by false true side field found is array edge e = typed_valid side (name_of field) (type_of field) found (key (name_of field) is) array edge e
valid_by false false side field found is array edge e = absurd (cc)

-- a column without a fault is valid
use_valid : (side : Side) (left : List (List ℕ)) (field : List ℕ) (found : ColumnUse) → ((fault : Fault) → has_fault side left field fault ≡ false) → column_use side field ≡ Some found → IsColumnUse side found
use_valid side left field found none e =
    valid_by (is_system field) (is_name (name_of field)) side field found refl (none single_array) (none edge_not_single) e

-- All columns.

-- the use at a place is that of the field there
use_at : (side : Side) (fields : List (List ℕ)) (uses : List ColumnUse) → map Some uses ≡ map (use_in side) fields → (place : ℕ) (d : ColumnUse) → place < length uses → (place < length fields) × (column_use side (field_at fields place) ≡ Some (slice_index_or uses place d))
use_at side fields uses e place d within =
    let long : length uses ≡ length fields = sym (length-map uses Some) ∙ (ap length e ∙ length-map fields (use_in side)) in
    let inside : place < length fields = omega arith in
    (inside, sym (get_or-map (use_in side) fields place [] (Some d) inside) ∙ (ap (λ xs. slice_index_or xs place (Some d)) (sym e) ∙ get_or-map Some uses place d (Some d) within))

none_at : (side : Side) (fields : List (List ℕ)) → IsCleanBefore side fields (length fields) → (place : ℕ) → place < length fields → (fault : Fault) → has_fault side (take place fields) (field_at fields place) fault ≡ false
none_at side fields clean place within = none_given (has_fault side (take place fields) (field_at fields place)) (clean place within)

each_valid : (side : Side) (fields : List (List ℕ)) (uses : List ColumnUse) → map Some uses ≡ map (use_in side) fields → IsCleanBefore side fields (length fields) → All (IsColumnUse side) uses
each_valid side fields uses e clean place d within =
    let at = use_at side fields uses e place d within in
    use_valid side (take place fields) (field_at fields place) (slice_index_or uses place d) (none_at side fields clean place at.0) at.1

not_at : {X : Type 0} (p : X → Bool) (xs : List X) (i : ℕ) (d : X) (test : Bool) → p (slice_index_or xs i d) ≡ test → list_any p xs ≡ false → i < length xs → test ≡ false
not_at p xs i d false is none within = refl
not_at p xs i d true is none within = absurd (cc (list_any_at p xs i d within is))

apart : (side : Side) (fields : List (List ℕ)) (uses : List ColumnUse) → map Some uses ≡ map (use_in side) fields → IsCleanBefore side fields (length fields) → (i j : ℕ) (d : ColumnUse) → i < j → j < length uses → is_same_use (slice_index_or uses i d) (slice_index_or uses j d) ≡ false
apart side fields uses e clean i j d before within =
    let before_all : i < length uses = omega arith in
    let left = use_at side fields uses e i d before_all in
    let right = use_at side fields uses e j d within in
    let none = none_at side fields clean j right.0 repeated in
    let inside : i < length (take j fields) = simp length-take (omega arith) in
    let at = ap (λ x. is_same_column (without_spaces x) (field_at fields j)) (get_or-take j fields i [] before) in
    let no = not_at (λ other. is_same_column (without_spaces other) (field_at fields j)) (take j fields) i [] (is_same_column (field_at fields i) (field_at fields j)) at none inside in
    sym (same_names side (field_at fields i) (field_at fields j) (slice_index_or uses i d) (slice_index_or uses j d) left.1 (name_of_use side (field_at fields j) (slice_index_or uses j d) right.1)) ∙ no

there_by : (test : Bool) (side : Side) (word field : List ℕ) (found first : ColumnUse) (rest : List ColumnUse) → column_use side word ≡ Some found → is_text word field ≡ test → column_use side field ≡ Some first → (test ≡ false → Contains rest found) → Contains (first ∷ rest) found
there_by true side word field found first rest is same e later =
    let equal : field ≡ word = (bytes_eq-Decides field word).0 same in
    let both : Some first ≡ Some found = sym e ∙ (ap (column_use side) equal ∙ is) in
    let one : first ≡ found = cc in
    (0, omega arith, one)
there_by false side word field found first rest is same e later = Contains-append_right (first ∷ []) rest found (later refl)

-- a system column that a field names is among the uses
there : (side : Side) (word : List ℕ) (found : ColumnUse) → column_use side word ≡ Some found → (fields : List (List ℕ)) (uses : List ColumnUse) → map Some uses ≡ map (use_in side) fields → has_field word fields ≡ true → Contains uses found
there side word found is [] uses e has = absurd (cc)
there side word found is (x ∷ fields) [] e has = absurd (cc)
there side word found is (x ∷ fields) (u ∷ uses) e has =
    let first : column_use side (without_spaces x) ≡ Some u = cc in
    let rest : map Some uses ≡ map (use_in side) fields = cc in
    there_by (is_text word (without_spaces x)) side word (without_spaces x) found u uses is refl first
    (λ no. there side word found is fields uses rest (ap (λ b. b || has_field word fields) (sym no) ∙ has))

ends_by : (from to : Bool) (uses : List ColumnUse) → from ≡ to → (from ≡ true → Contains uses From) → (to ≡ true → Contains uses To) → HasEnds (side_by (from || to)) uses
ends_by true true uses e f t = (f refl, t refl)
ends_by false false uses e f t = tt
ends_by true false uses e f t = absurd (cc)
ends_by false true uses e f t = absurd (cc)

few_uses : (side : Side) (fields : List (List ℕ)) (uses : List ColumnUse) → length fields ≤ 1024 → map Some uses ≡ map (use_in side) fields → length uses < 2 ^ 32
few_uses side fields uses few e =
    let long : length uses ≡ length fields = sym (length-map uses Some) ∙ (ap length e ∙ length-map fields (use_in side)) in
    omega arith

pub valid : (fields : List (List ℕ)) (uses : List ColumnUse) → length fields ≤ 1024 → map Some uses ≡ map (use_in (side_of fields)) fields → IsCleanBefore (side_of fields) fields (length fields) → has_field (codes "~id") fields ≡ true → has_field (codes "~from") fields ≡ has_field (codes "~to") fields → IsColumns (record { side = side_of fields; uses = uses })
valid fields uses few e clean id ends = record {
  few = few_uses (side_of fields) fields uses few e;
  each = each_valid (side_of fields) fields uses e clean;
  differ = IsDistinct-from_apart is_same_use uses (apart (side_of fields) fields uses e clean);
  id = there (side_of fields) (codes "~id") Id refl fields uses e id;
  ends = ends_by (has_field (codes "~from") fields) (has_field (codes "~to") fields) uses ends (there (side_of fields) (codes "~from") From refl fields uses e) (there (side_of fields) (codes "~to") To refl fields uses e);
}

pub valid_seen : (side : Side) (fields seen : List (List ℕ)) (uses : List ColumnUse) → side ≡ side_of fields → seen ≡ fields → length fields ≤ 1024 → map Some uses ≡ map (use_in side) seen → IsCleanBefore side seen (length seen) → has_field (codes "~id") seen ≡ true → has_field (codes "~from") seen ≡ has_field (codes "~to") seen → IsColumns (record { side = side; uses = uses })
valid_seen side fields seen uses s e few is clean id ends =
    let here : side ≡ side_of seen = s ∙ ap side_of (sym e) in
    subst (λ x. IsColumns (record { side = x; uses = uses })) (sym here)
    (valid seen uses (subst (λ (xs : List (List ℕ)). length xs ≤ 1024) (sym e) few) (subst (λ x. map Some uses ≡ map (use_in x) seen) here is) (subst (λ x. IsCleanBefore x seen (length seen)) here clean) id ends)
