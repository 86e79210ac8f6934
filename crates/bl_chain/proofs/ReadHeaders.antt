-- Each header means something, or is refused.
use Rattle.std.specs.Prelude.{◌≡◌, ◌≢◌, ℕ, zero, suc, ◌+◌, ◌-◌, ◌<◌, ◌≤◌, Bool, true, false, not, ◌&&◌, cond, codes, List, [], ◌∷◌, map, take, length, slice_index_or, refl, Some, None, Contains, ◌⊎◌}
use Rattle.std.specs.declared.option.Option.{Option}
use Rattle.std.specs.Option.{is_none, option_and_then}
use Rattle.std.proofs.Common.{sym, ap, subst, ◌∙◌, arith, inl, inr}
use Rattle.std.proofs.lemmas.Bool.{true≢false, cases_eq, cases_lt}
use Rattle.std.proofs.lemmas.List.{get_or_default}
use Rattle.bl_value.specs.Cells.{without_spaces}
use Rattle.bl_value.specs.declared.column.Columns.{Columns}
use Rattle.bl_value.specs.declared.column.ColumnUse.{ColumnUse}
use Rattle.bl_value.specs.declared.column.ColumnUse.TheVariants.{Property}
use Rattle.bl_value.specs.declared.column.Side.{Side}
use Rattle.bl_header.specs.declared.refusal.HeaderRefusal.{HeaderRefusal}
use Rattle.bl_header.specs.declared.refusal.HeaderRefusal.TheVariants.{NoId, HalfEdge, UnknownSystem, UnknownType, FloatColumn, SingleArray, EdgeNotSingle, Repeated, BadName, TooManyColumns, NoMemory}
use Rattle.bl_header.specs.declared.type_text.TypeName.{TypeName}
use Rattle.bl_header.specs.declared.type_text.TypeName.TheVariants.{Kept, Float}
use Rattle.bl_header.specs.declared.type_text.TypeText.{TypeText}
use Rattle.bl_header.specs.Fields.{column_use, is_name, is_single, is_system, kept_column, name_of, property_column, system_column, type_of}
use Rattle.bl_header.specs.Faults.{Fault, HasNoFault, Holds, IsFirstFault, bad_name, unknown_system, unknown_type, float_column, single_array, edge_not_single, repeated, has_fault, has_field, is_float, place_of, side_of, some_passes}
use Rattle.bl_files.proofs.Members.{first_member, later_member}
use Rattle.bl_header.specs.Headers.{IsMeaning, IsRefusal, IsSound}

-- ---- the faults, by their places

abbrev fault_at : ℕ → Fault
fault_at zero = bad_name
fault_at (suc zero) = unknown_system
fault_at (suc (suc zero)) = unknown_type
fault_at (suc (suc (suc zero))) = float_column
fault_at (suc (suc (suc (suc zero)))) = single_array
fault_at (suc (suc (suc (suc (suc zero))))) = edge_not_single
fault_at (suc (suc (suc (suc (suc (suc place)))))) = repeated

at_place : (fault : Fault) → fault_at (place_of fault) ≡ fault
at_place bad_name = refl
at_place unknown_system = refl
at_place unknown_type = refl
at_place float_column = refl
at_place single_array = refl
at_place edge_not_single = refl
at_place repeated = refl

place_below : (fault : Fault) → place_of fault < 7
place_below bad_name = omega arith
place_below unknown_system = omega arith
place_below unknown_type = omega arith
place_below float_column = omega arith
place_below single_array = omega arith
place_below edge_not_single = omega arith
place_below repeated = omega arith

place_at : (place : ℕ) → place < 7 → place_of (fault_at place) ≡ place
place_at zero h = refl
place_at (suc zero) h = refl
place_at (suc (suc zero)) h = refl
place_at (suc (suc (suc zero))) h = refl
place_at (suc (suc (suc (suc zero)))) h = refl
place_at (suc (suc (suc (suc (suc zero))))) h = refl
place_at (suc (suc (suc (suc (suc (suc zero)))))) h = refl
place_at (suc (suc (suc (suc (suc (suc (suc place))))))) h = absurd (omega (arith, h))

-- ---- the first fault of all

module _ (fields : List (List ℕ)) where
  abbrev NoneBelow : ℕ → ℕ → Type 0
  NoneBelow column place = (other : Fault) → place_of other < place → ¬ (Holds fields column other)

  abbrev FirstOf : ℕ → Type 0
  FirstOf column = (fault : Fault) × Holds fields column fault × NoneBelow column (place_of fault)

  one_column : (column : ℕ) → 1 ≤ column → column ≤ length fields → (place : ℕ) → place ≤ 7 → NoneBelow column place ⊎ FirstOf column
  one_column column counted within zero few = inl (λ other less. absurd (omega (arith, less)))
  one_column column counted within (suc place) few =
      elim (one_column column counted within place (omega (arith, few))) [
        | inr first ↦ inr first
        | inl none ↦ by (has_fault (side_of fields) (take (column - 1) fields) (without_spaces (slice_index_or fields (column - 1) [])) (fault_at place)) refl none
      ] where
        by : (b : Bool) → has_fault (side_of fields) (take (column - 1) fields) (without_spaces (slice_index_or fields (column - 1) [])) (fault_at place) ≡ b → NoneBelow column place → NoneBelow column (suc place) ⊎ FirstOf column
        by true is none = inr (fault_at place, record { counted = counted; within = within; has = is }, subst (λ p. NoneBelow column p) (sym (place_at place (omega (arith, few)))) none)
        by false is none = inl (λ other less holds. elim (cases_eq (place_of other) place) [
          | inl same ↦ (let it : fault_at place ≡ other = ap fault_at (sym same) ∙ at_place other in
              true≢false (sym holds.has ∙ subst (λ fault. has_fault (side_of fields) (take (column - 1) fields) (without_spaces (slice_index_or fields (column - 1) [])) fault ≡ false) it is))
          | inr apart ↦ none other (omega (arith, less, apart)) holds
        ])

  abbrev NoneUpTo : ℕ → Type 0
  NoneUpTo n = (column : ℕ) (fault : Fault) → column ≤ n → ¬ (Holds fields column fault)

  abbrev FirstOfAll : Type 0
  FirstOfAll = (column : ℕ) × (fault : Fault) × IsFirstFault fields column fault

  columns_to : (n : ℕ) → n ≤ length fields → NoneUpTo n ⊎ FirstOfAll
  columns_to zero few = inl (λ column fault least holds. absurd (omega (arith, holds.counted, least)))
  columns_to (suc n) few =
      elim (columns_to n (omega (arith, few))) [
        | inr first ↦ inr first
        | inl none ↦ (elim (one_column (suc n) (omega arith) few 7 (omega arith)) [
          | inl free ↦ inl (λ column fault least holds. elim (cases_eq column (suc n)) [
            | inl same ↦ free fault (place_below fault) (subst (λ c. Holds fields c fault) same holds)
            | inr apart ↦ none column fault (omega (arith, least, apart)) holds
          ])
          | inr first ↦ inr (
            suc n,
            first.0,
            record {
              holds = first.1;
              first = λ other other_fault before holds. elim before [
                | inl less ↦ none other other_fault (omega (arith, less)) holds
                | inr same ↦ first.2 other_fault same.1 (subst (λ c. Holds fields c other_fault) same.0 holds)
              ];
            },
          )
        ])
      ]

-- ---- a column without a fault has a use

some_use : (test : Option TypeText) (side : Side) (name : List ℕ) → is_none test ≡ false → some_passes (λ type. is_float type.name) test ≡ false → (it : ColumnUse) × (option_and_then (property_column side name) test ≡ Some it)
some_use None side name some unfloat = absurd (true≢false some)
some_use (Some type) side name some unfloat = by type.name unfloat where
  by : (it : TypeName) → is_float it ≡ false → (found : ColumnUse) × (kept_column side name type.cardinality type.many it ≡ Some found)
  by (Kept kind) h = (Property (record { name = name; kind = kind; single = is_single side type.cardinality; many = type.many }), refl)
  by Float h = absurd (true≢false h)

system_use : (test : Option ColumnUse) → is_none test ≡ false → (it : ColumnUse) × (test ≡ Some it)
system_use None some = absurd (true≢false some)
system_use (Some it) some = (it, refl)

use_of : (side : Side) (name : List ℕ) (system named : Bool) (own : Option ColumnUse) (type : Option TypeText) → (not system && not named ≡ false) → (system && is_none own ≡ false) → (not system && is_none type ≡ false)
    → (not system && some_passes (λ type. is_float type.name) type ≡ false) → (it : ColumnUse) × (cond system own (cond named (option_and_then (property_column side name) type) None) ≡ Some it)
use_of side name true named own type bad unknown untyped unfloat = system_use own unknown
use_of side name false true own type bad unknown untyped unfloat = some_use type side name untyped unfloat
use_of side name false false own type bad unknown untyped unfloat = absurd (true≢false bad)

module _ (fields : List (List ℕ)) (free : HasNoFault fields) where
  unheld : (k : ℕ) → k < length fields → (fault : Fault) → has_fault (side_of fields) (take k fields) (without_spaces (slice_index_or fields k [])) fault ≡ false
  unheld k within fault = by (has_fault (side_of fields) (take k fields) (without_spaces (slice_index_or fields k [])) fault) refl where
    by : (b : Bool) → has_fault (side_of fields) (take k fields) (without_spaces (slice_index_or fields k [])) fault ≡ b → has_fault (side_of fields) (take k fields) (without_spaces (slice_index_or fields k [])) fault ≡ false
    by true is = absurd (free (k + 1) fault (record {
      counted = omega arith;
      within = omega (arith, within);
      has = subst (λ p. has_fault (side_of fields) (take p fields) (without_spaces (slice_index_or fields p [])) fault ≡ true) (let e : k ≡ k + 1 - 1 = omega arith in e) is;
    }))
    by false is = is

  one_use : (k : ℕ) → k < length fields → (it : ColumnUse) × (column_use (side_of fields) (without_spaces (slice_index_or fields k [])) ≡ Some it)
  one_use k within =
      let field : List ℕ = without_spaces (slice_index_or fields k []) in
      use_of (side_of fields) (name_of field) (is_system field) (is_name (name_of field)) (system_column field) (type_of field)
      (unheld k within bad_name) (unheld k within unknown_system) (unheld k within unknown_type) (unheld k within float_column)

  all_uses : (rest : List (List ℕ)) → ((field : List ℕ) → Contains rest field → Contains fields field) → (uses : List ColumnUse) × (map Some uses ≡ map (λ field. column_use (side_of fields) (without_spaces field)) rest)
  all_uses [] all = ([], refl)
  all_uses (field ∷ rest) all =
      let there : Contains fields field = all field (first_member field rest) in
      let is : slice_index_or fields there.0 [] ≡ field = get_or_default fields there.0 [] field there.1 ∙ there.2 in
      let one = one_use there.0 there.1 in
      let more = all_uses rest (λ f h. all f (later_member field rest f h)) in
      (one.0 ∷ more.0, λ i. sym (ap (λ f. column_use (side_of fields) (without_spaces f)) (sym is) ∙ one.1) i ∷ more.1 i)

-- ---- a header

bool_same : (a b : Bool) → (a ≡ b) ⊎ (¬ (a ≡ b))
bool_same true true = inl refl
bool_same false false = inl refl
bool_same true false = inr (λ h. true≢false h)
bool_same false true = inr (λ h. true≢false (sym h))

abbrev Meaning : List (List ℕ) → Type 0
Meaning fields = (columns : Columns) × IsMeaning fields columns

abbrev Refusing : List (List ℕ) → Type 0
Refusing fields = (refusal : HeaderRefusal) × (refusal ≢ NoMemory) × IsRefusal fields refusal

refused_by : (fields : List (List ℕ)) → length fields ≤ 1024 → (column : ℕ) (fault : Fault) → IsFirstFault fields column fault → Refusing fields
refused_by fields few column bad_name first = (BadName column, (λ e. absurd (cc)), (few, first))
refused_by fields few column unknown_system first = (UnknownSystem column, (λ e. absurd (cc)), (few, first))
refused_by fields few column unknown_type first = (UnknownType column, (λ e. absurd (cc)), (few, first))
refused_by fields few column float_column first = (FloatColumn column, (λ e. absurd (cc)), (few, first))
refused_by fields few column single_array first = (SingleArray column, (λ e. absurd (cc)), (few, first))
refused_by fields few column edge_not_single first = (EdgeNotSingle column, (λ e. absurd (cc)), (few, first))
refused_by fields few column repeated first = (Repeated column, (λ e. absurd (cc)), (few, first))

sound_read : (fields : List (List ℕ)) → IsSound fields → Meaning fields ⊎ Refusing fields
sound_read fields sound = by (has_field (codes "~id") fields) refl (bool_same (has_field (codes "~from") fields) (has_field (codes "~to") fields)) where
  by : (b : Bool) → has_field (codes "~id") fields ≡ b → ((has_field (codes "~from") fields ≡ has_field (codes "~to") fields) ⊎ (¬ (has_field (codes "~from") fields ≡ has_field (codes "~to") fields))) → Meaning fields ⊎ Refusing fields
  by false is ends = inr (NoId, (λ e. absurd (cc)), record { sound = sound; no_id = is })
  by true is (inr half) = inr (HalfEdge, (λ e. absurd (cc)), record { sound = sound; id = is; half = half })
  by true is (inl ends) =
      let uses = all_uses fields sound.no_fault fields (λ field h. h) in
      inl (record { side = side_of fields; uses = uses.0 }, record { sound = sound; id = is; ends = ends; side = refl; uses = uses.1 })

pub header_read : (fields : List (List ℕ)) → Meaning fields ⊎ Refusing fields
header_read fields =
    elim (cases_lt 1024 (length fields)) [
      | inl many ↦ inr (TooManyColumns (length fields), (λ e. absurd (cc)), (many, refl))
      | inr few ↦ (elim (columns_to fields (length fields) (omega arith)) [
        | inr first ↦ inr (refused_by fields few first.0 first.1 first.2)
        | inl none ↦ sound_read fields (record { few = few; no_fault = λ column fault holds. none column fault holds.within holds })
      ])
    ]
