-- A record has one row.
use Rattle.std.specs.Prelude.{◌≡◌, ◌↔◌, ◌⊎◌, ◌==◌, ◌<◌, ℕ, Bool, true, false, if◌then◌else◌, List, slice_get, None, Some, refl}
use Rattle.std.specs.declared.option.Option.{Option}
use Rattle.std.proofs.Common.{◌∙◌, sym, ap, subst, arith, inl, inr}
use Rattle.std.proofs.lemmas.Bool.{cases_order}
use Rattle.std.proofs.lemmas.Option.{same_Some}
use Rattle.bl_value.specs.declared.cell.CellRefusal.TheVariants as refusal
use Rattle.bl_value.specs.declared.column.ColumnUse.{ColumnUse}
use Rattle.bl_value.specs.declared.column.ColumnUse.TheVariants.{Id, Label, From, To, Property}
use Rattle.bl_value.specs.declared.column.Columns.{Columns}
use Rattle.bl_value.specs.declared.log_code.LogCode.{LogCode}
use Rattle.bl_value.specs.declared.log_code.LogCode.TheVariants.{ColumnCount, NotUtf8, RecordTooLarge, MissingId, IdTooLong, NotOfType, OutOfRange, TooManyValues, FromMissing, ToMissing, EdgeConflict, SingleConflict, Header, Compressed, ReadFault, FileTooLarge, FeedModified, SourceNotFound, ListFault, TooManyFiles, NoPreviousLoad}
use Rattle.bl_value.specs.declared.row.Row.{Row}
use Rattle.bl_value.specs.declared.row.Row.TheVariants.{Vertex, Edge, Bad}
use Rattle.bl_rows.specs.Contents.{Fields}
use Rattle.bl_rows.specs.FirstFaults.{Told, record_row, row_by, told}
use Rattle.bl_rows.specs.Rows.{Fault, IsFaultBy, IsLeast, IsRefused, IsRowOf, Precedes, property_items, properties_of, rule_of}
use Rattle.bl_rows.proofs.RowFaults.{has_least, row_is}
use Rattle.bl_rows.proofs.RecordRows.{told_row, untold_row}

-- ---- faults of one rule, column and item have one code

abbrev is_range : LogCode → Bool
is_range OutOfRange = true
is_range _ = false

-- the code of a rule; one rule has two
abbrev code_of : ℕ → Bool → LogCode
code_of rule true = OutOfRange
code_of rule false =
    if rule == 1 then ColumnCount
    else (if rule == 2 then NotUtf8
    else (if rule == 3 then RecordTooLarge
    else (if rule == 4 then MissingId
    else (if rule == 5 then IdTooLong
    else (if rule == 7 then TooManyValues else NotOfType)))))

code_is : (columns : Columns) (fields : Fields) (code : LogCode) (column item : ℕ) → IsFaultBy columns fields code column item → code ≡ code_of (rule_of code) (is_range code)
code_is columns fields ColumnCount column item holds = refl
code_is columns fields NotUtf8 column item holds = refl
code_is columns fields RecordTooLarge column item holds = refl
code_is columns fields MissingId column item holds = refl
code_is columns fields IdTooLong column item holds = refl
code_is columns fields NotOfType column item holds = refl
code_is columns fields OutOfRange column item holds = refl
code_is columns fields TooManyValues column item holds = refl
code_is columns fields FromMissing column item holds = absurd holds
code_is columns fields ToMissing column item holds = absurd holds
code_is columns fields EdgeConflict column item holds = absurd holds
code_is columns fields SingleConflict column item holds = absurd holds
code_is columns fields Header column item holds = absurd holds
code_is columns fields Compressed column item holds = absurd holds
code_is columns fields ReadFault column item holds = absurd holds
code_is columns fields FileTooLarge column item holds = absurd holds
code_is columns fields FeedModified column item holds = absurd holds
code_is columns fields SourceNotFound column item holds = absurd holds
code_is columns fields ListFault column item holds = absurd holds
code_is columns fields TooManyFiles column item holds = absurd holds
code_is columns fields NoPreviousLoad column item holds = absurd holds

-- an item is refused for one cause
one_cause : (role : ColumnUse) (field : List ℕ) (item : ℕ) → IsRefused role field item refusal.NotOfType → IsRefused role field item refusal.OutOfRange → ⊥
one_cause (Property column) field item (place, it, number, at, no_type) (other, it2, number2, at2, no_range) =
    let same : place ≡ other = omega (arith, number, number2) in
    let one : it ≡ it2 = same_Some it it2 (sym at ∙ ap (slice_get (property_items column field)) same ∙ at2) in
    cc (one, no_type, no_range)
one_cause Id field item a b = absurd a
one_cause Label field item a b = absurd a
one_cause From field item a b = absurd a
one_cause To field item a b = absurd a

clash : (columns : Columns) (fields : Fields) (column item : ℕ) → IsFaultBy columns fields NotOfType column item → IsFaultBy columns fields OutOfRange column item → ⊥
clash columns fields column item (place, role, field, number, role_at, field_at, refused) (place2, role2, field2, number2, role_at2, field_at2, refused2) =
    let same : place ≡ place2 = omega (arith, number, number2) in
    let one_role : role2 ≡ role = same_Some role2 role (sym role_at2 ∙ ap (slice_get columns.uses) (sym same) ∙ role_at) in
    let one_field : field2 ≡ field = same_Some field2 field (sym field_at2 ∙ ap (slice_get fields) (sym same) ∙ field_at) in
    one_cause role field item refused (subst (λ r. IsRefused r field item refusal.OutOfRange) one_role (subst (λ f. IsRefused role2 f item refusal.OutOfRange) one_field refused2))

module _ (columns : Columns) (fields : Fields) (column item : ℕ) where
  of_rule : (a b : LogCode) (ra rb : Bool) → is_range a ≡ ra → is_range b ≡ rb → rule_of a ≡ rule_of b → IsFaultBy columns fields a column item → IsFaultBy columns fields b column item → a ≡ b
  of_rule a b true true at bt same fa fb = code_is columns fields a column item fa ∙ ap (code_of (rule_of a)) at ∙ sym (code_is columns fields b column item fb ∙ ap (code_of (rule_of b)) bt)
  of_rule a b false false at bt same fa fb =
      code_is columns fields a column item fa ∙ ap (code_of (rule_of a)) at ∙ ap (λ rule. code_of rule false) same ∙ sym (code_is columns fields b column item fb ∙ ap (code_of (rule_of b)) bt)
  of_rule a b true false at bt same fa fb =
      let a_is : a ≡ OutOfRange = code_is columns fields a column item fa ∙ ap (code_of (rule_of a)) at in
      let b_is : b ≡ NotOfType = code_is columns fields b column item fb ∙ ap (code_of (rule_of b)) bt ∙ ap (λ rule. code_of rule false) (sym same ∙ ap rule_of a_is) in
      absurd (clash columns fields column item (subst (λ code. IsFaultBy columns fields code column item) b_is fb) (subst (λ code. IsFaultBy columns fields code column item) a_is fa))
  of_rule a b false true at bt same fa fb =
      let b_is : b ≡ OutOfRange = code_is columns fields b column item fb ∙ ap (code_of (rule_of b)) bt in
      let a_is : a ≡ NotOfType = code_is columns fields a column item fa ∙ ap (code_of (rule_of a)) at ∙ ap (λ rule. code_of rule false) (same ∙ ap rule_of b_is) in
      absurd (clash columns fields column item (subst (λ code. IsFaultBy columns fields code column item) a_is fa) (subst (λ code. IsFaultBy columns fields code column item) b_is fb))

-- ---- there is one least fault

one_place : (a b : Fault) → ¬ (Precedes a b) → ¬ (Precedes b a) → (rule_of a.code ≡ rule_of b.code) × (a.column ≡ b.column) × (a.item ≡ b.item)
one_place a b not_before not_behind = by_rule (cases_order (rule_of a.code) (rule_of b.code))
  where
    by_item : rule_of a.code ≡ rule_of b.code → a.column ≡ b.column → (a.item ≡ b.item) ⊎ ((a.item < b.item) ⊎ (b.item < a.item)) → (rule_of a.code ≡ rule_of b.code) × (a.column ≡ b.column) × (a.item ≡ b.item)
    by_item rule column (inl same) = (rule, column, same)
    by_item rule column (inr (inl less)) = absurd (not_before (inr (rule, inr (column, less))))
    by_item rule column (inr (inr more)) = absurd (not_behind (inr (sym rule, inr (sym column, more))))

    by_column : rule_of a.code ≡ rule_of b.code → (a.column ≡ b.column) ⊎ ((a.column < b.column) ⊎ (b.column < a.column)) → (rule_of a.code ≡ rule_of b.code) × (a.column ≡ b.column) × (a.item ≡ b.item)
    by_column rule (inl same) = by_item rule same (cases_order a.item b.item)
    by_column rule (inr (inl less)) = absurd (not_before (inr (rule, inl less)))
    by_column rule (inr (inr more)) = absurd (not_behind (inr (sym rule, inl more)))

    by_rule : (rule_of a.code ≡ rule_of b.code) ⊎ ((rule_of a.code < rule_of b.code) ⊎ (rule_of b.code < rule_of a.code)) → (rule_of a.code ≡ rule_of b.code) × (a.column ≡ b.column) × (a.item ≡ b.item)
    by_rule (inl same) = by_column same (cases_order a.column b.column)
    by_rule (inr (inl less)) = absurd (not_before (inl less))
    by_rule (inr (inr more)) = absurd (not_behind (inl more))

-- two least faults of a record have one code and one column
one_least : (columns : Columns) (fields : Fields) (a b : Fault) → IsLeast columns fields a → IsLeast columns fields b → (a.code ≡ b.code) × (a.column ≡ b.column)
one_least columns fields a b least_a least_b =
    let place = one_place a b (least_b.least a least_a.holds) (least_a.least b least_b.holds) in
    let moved : IsFaultBy columns fields b.code a.column a.item =
    subst (λ item. IsFaultBy columns fields b.code a.column item) (sym place.2) (subst (λ column. IsFaultBy columns fields b.code column b.item) (sym place.1) least_b.holds) in
    (of_rule columns fields a.column a.item a.code b.code (is_range a.code) (is_range b.code) refl refl place.0 least_a.holds moved, place.1)

-- ---- rows

has_row : (columns : Columns) (fields : Fields) (tells : Option Told) → told columns fields ≡ tells → IsRowOf columns fields (record_row columns fields)
has_row columns fields None is =
    let row : Row = row_by columns.side columns.uses fields (properties_of columns fields) in
    subst (IsRowOf columns fields) (untold_row columns fields row is refl) (row_is columns fields row is refl)
has_row columns fields (Some fault) is = subst (IsRowOf columns fields) (told_row columns fields fault.0 fault.1 is) (has_least columns fields fault.0 fault.1 is)

-- a row of the record is the one of two that are given
same_row : (columns : Columns) (fields : Fields) (row other : Row) → IsRowOf columns fields row → IsRowOf columns fields other → row ≡ other
same_row columns fields (Vertex id labels properties) (Vertex id2 labels2 properties2) a b = cc (a.2, a.3, a.4, b.2, b.3, b.4)
same_row columns fields (Edge id label from to properties) (Edge id2 label2 from2 to2 properties2) a b = cc (a.2, a.3, a.4, a.5, a.6, b.2, b.3, b.4, b.5, b.6)
same_row columns fields (Vertex id labels properties) (Edge id2 label2 from2 to2 properties2) a b = absurd (cc (a.1, b.1))
same_row columns fields (Edge id label from to properties) (Vertex id2 labels2 properties2) a b = absurd (cc (a.1, b.1))
same_row columns fields (Vertex id labels properties) (Bad code column) a b = absurd (a.0 b.0 b.3.holds)
same_row columns fields (Edge id label from to properties) (Bad code column) a b = absurd (a.0 b.0 b.3.holds)
same_row columns fields (Bad code column) (Vertex id labels properties) a b = absurd (b.0 a.0 a.3.holds)
same_row columns fields (Bad code column) (Edge id label from to properties) a b = absurd (b.0 a.0 a.3.holds)
same_row columns fields (Bad code column) (Bad code2 column2) a b =
    let one = one_least columns fields a.0 b.0 a.3 b.3 in
    cc (a.1, a.2, b.1, b.2, one.0, one.1)

pub one_row : (columns : Columns) (fields : Fields) (row : Row) → IsRowOf columns fields row ↔ (row ≡ record_row columns fields)
one_row columns fields row =
    let has : IsRowOf columns fields (record_row columns fields) = has_row columns fields (told columns fields) refl in
    (λ is. same_row columns fields row (record_row columns fields) is has, λ same. subst (IsRowOf columns fields) (sym same) has)
