-- What the rules tell of a record is the least of its faults.
use Rattle.std.specs.Prelude.{◌≡◌, ◌⊎◌, ◌==◌, ◌<◌, ℕ, nat_le, Bool, true, false, cond, List, [], length, slice_get, None, Some, refl}
use Rattle.std.specs.declared.option.Option.{Option}
use Rattle.std.specs.List.{All, list_all}
use Rattle.std.specs.Str.{IsUtf8, is_utf8}
use Rattle.std.proofs.Common.{◌∙◌, sym, ap, subst, arith, inl, inr}
use Rattle.std.proofs.lemmas.List.Elements.{All-get_or}
use Rattle.std.proofs.lemmas.Option.{slice_get_within, get_or_from_slice_get}
use Rattle.bl_value.specs.declared.cell.CellRefusal.{CellRefusal}
use Rattle.bl_value.specs.declared.cell.CellRefusal.TheVariants as refusal
use Rattle.bl_value.specs.declared.column.Side.{Side}
use Rattle.bl_value.specs.declared.column.Side.TheVariants as side
use Rattle.bl_value.specs.declared.column.Columns.{Columns}
use Rattle.bl_value.specs.declared.log_code.LogCode.{LogCode}
use Rattle.bl_value.specs.declared.log_code.LogCode.TheVariants.{ColumnCount, NotUtf8, RecordTooLarge, MissingId, IdTooLong, NotOfType, OutOfRange, TooManyValues, FromMissing, ToMissing, EdgeConflict, SingleConflict, Header, Compressed, ReadFault, FileTooLarge, FeedModified, SourceNotFound, ListFault, TooManyFiles, NoPreviousLoad}
use Rattle.bl_value.specs.declared.row.Row.{Row}
use Rattle.bl_rows.specs.Contents.{Fields}
use Rattle.bl_rows.specs.FirstFaults.{Told, are_small, first_of, first_told, long_code, many_told, missing_code, refused_code, row_by, told, told_or, whole_code}
use Rattle.bl_rows.specs.Rows.{Fault, HasNoFault, HoldsAt, IsFault, IsFaultBy, IsLeast, IsRefused, IsRowOf, Precedes, properties_of, is_long, is_missing, rule_of, value_count}
use Rattle.bl_value.specs.ValidRows.{IsRecordCode}
use Rattle.bl_rows.proofs.FirstCells.{IsFirst, IsFirstItem, IsTold, code_if, first_is, first_item, if_code, silent, silent_cell}
use Rattle.bl_rows.proofs.Texts.{texts_of, whole_record}

true_false : (test : Bool) → test ≡ true → test ≡ false → ⊥
true_false test kept broken = cc (kept, broken)

-- the field at a place of a record in UTF-8
pub text_at : (fields : Fields) (place : ℕ) (field : List ℕ) → All IsUtf8 fields → slice_get fields place ≡ Some field → IsUtf8 field
text_at fields place field texts at =
    subst IsUtf8 (get_or_from_slice_get fields place field [] at) (All-get_or IsUtf8 fields place [] (slice_get_within fields place field at) texts)

-- What a record has that breaks no rule of this code.
abbrev KeptFor : Columns → Fields → LogCode → Type 0
KeptFor columns fields ColumnCount = (length fields == length columns.uses) ≡ true
KeptFor columns fields NotUtf8 = list_all is_utf8 fields ≡ true
KeptFor columns fields RecordTooLarge = are_small fields ≡ true
KeptFor columns fields MissingId = first_told (missing_code columns.side) 1 columns.uses fields ≡ None
KeptFor columns fields IdTooLong = first_told (long_code columns.side) 1 columns.uses fields ≡ None
KeptFor columns fields NotOfType = All IsUtf8 fields × (first_told refused_code 1 columns.uses fields ≡ None)
KeptFor columns fields OutOfRange = All IsUtf8 fields × (first_told refused_code 1 columns.uses fields ≡ None)
KeptFor columns fields TooManyValues = nat_le (value_count columns fields) 4096 ≡ true
KeptFor columns fields _ = Unit {0}

excluded : (columns : Columns) (fields : Fields) (code : LogCode) (column item : ℕ) → IsFaultBy columns fields code column item → KeptFor columns fields code → ⊥
excluded columns fields ColumnCount column item (at, broken) kept = true_false _ kept broken
excluded columns fields NotUtf8 column item (at, broken) kept = true_false _ kept broken
excluded columns fields RecordTooLarge column item (at, broken) kept = true_false _ kept broken
excluded columns fields MissingId column item (zero_item, (place, role, field, number, use_is, field_is, missing)) kept =
    code_if (is_missing columns.side role field) MissingId missing (silent (missing_code columns.side) 1 columns.uses fields kept place role field use_is field_is)
excluded columns fields IdTooLong column item (zero_item, (place, role, field, number, use_is, field_is, long)) kept =
    code_if (is_long columns.side role field) IdTooLong long (silent (long_code columns.side) 1 columns.uses fields kept place role field use_is field_is)
excluded columns fields NotOfType column item (place, role, field, number, use_is, field_is, has) (texts, kept) =
    silent_cell role field item refusal.NotOfType (text_at fields place field texts field_is) (silent refused_code 1 columns.uses fields kept place role field use_is field_is) has
excluded columns fields OutOfRange column item (place, role, field, number, use_is, field_is, has) (texts, kept) =
    silent_cell role field item refusal.OutOfRange (text_at fields place field texts field_is) (silent refused_code 1 columns.uses fields kept place role field use_is field_is) has
excluded columns fields TooManyValues column item (at, broken) kept = true_false _ kept broken
excluded columns fields FromMissing column item broken kept = broken
excluded columns fields ToMissing column item broken kept = broken
excluded columns fields EdgeConflict column item broken kept = broken
excluded columns fields SingleConflict column item broken kept = broken
excluded columns fields Header column item broken kept = broken
excluded columns fields Compressed column item broken kept = broken
excluded columns fields ReadFault column item broken kept = broken
excluded columns fields FileTooLarge column item broken kept = broken
excluded columns fields FeedModified column item broken kept = broken
excluded columns fields SourceNotFound column item broken kept = broken
excluded columns fields ListFault column item broken kept = broken
excluded columns fields TooManyFiles column item broken kept = broken
excluded columns fields NoPreviousLoad column item broken kept = broken

-- the rules before this one are kept
pub record KeptBelow (columns : Columns) (fields : Fields) (rule : ℕ) : Type 0 where
  pub count : 1 < rule → (length fields == length columns.uses) ≡ true
  pub utf8 : 2 < rule → list_all is_utf8 fields ≡ true
  pub small : 3 < rule → are_small fields ≡ true
  pub ids : 4 < rule → first_told (missing_code columns.side) 1 columns.uses fields ≡ None
  pub lengths : 5 < rule → first_told (long_code columns.side) 1 columns.uses fields ≡ None
  pub cells : 6 < rule → first_told refused_code 1 columns.uses fields ≡ None
  pub values : 7 < rule → nat_le (value_count columns fields) 4096 ≡ true

kept_for : (columns : Columns) (fields : Fields) (rule : ℕ) → KeptBelow columns fields rule → (code : LogCode) → rule_of code < rule → KeptFor columns fields code
kept_for columns fields rule kept ColumnCount below = kept.count below
kept_for columns fields rule kept NotUtf8 below = kept.utf8 below
kept_for columns fields rule kept RecordTooLarge below = kept.small below
kept_for columns fields rule kept MissingId below = kept.ids below
kept_for columns fields rule kept IdTooLong below = kept.lengths below
kept_for columns fields rule kept NotOfType below = (texts_of fields (kept.utf8 (omega (arith, below))), kept.cells below)
kept_for columns fields rule kept OutOfRange below = (texts_of fields (kept.utf8 (omega (arith, below))), kept.cells below)
kept_for columns fields rule kept TooManyValues below = kept.values below
kept_for columns fields rule kept FromMissing below = tt
kept_for columns fields rule kept ToMissing below = tt
kept_for columns fields rule kept EdgeConflict below = tt
kept_for columns fields rule kept SingleConflict below = tt
kept_for columns fields rule kept Header below = tt
kept_for columns fields rule kept Compressed below = tt
kept_for columns fields rule kept ReadFault below = tt
kept_for columns fields rule kept FileTooLarge below = tt
kept_for columns fields rule kept FeedModified below = tt
kept_for columns fields rule kept SourceNotFound below = tt
kept_for columns fields rule kept ListFault below = tt
kept_for columns fields rule kept TooManyFiles below = tt
kept_for columns fields rule kept NoPreviousLoad below = tt

rule_below_8 : (code : LogCode) → rule_of code < 8
rule_below_8 ColumnCount = omega arith
rule_below_8 NotUtf8 = omega arith
rule_below_8 RecordTooLarge = omega arith
rule_below_8 MissingId = omega arith
rule_below_8 IdTooLong = omega arith
rule_below_8 NotOfType = omega arith
rule_below_8 OutOfRange = omega arith
rule_below_8 TooManyValues = omega arith
rule_below_8 FromMissing = omega arith
rule_below_8 ToMissing = omega arith
rule_below_8 EdgeConflict = omega arith
rule_below_8 SingleConflict = omega arith
rule_below_8 Header = omega arith
rule_below_8 Compressed = omega arith
rule_below_8 ReadFault = omega arith
rule_below_8 FileTooLarge = omega arith
rule_below_8 FeedModified = omega arith
rule_below_8 SourceNotFound = omega arith
rule_below_8 ListFault = omega arith
rule_below_8 TooManyFiles = omega arith
rule_below_8 NoPreviousLoad = omega arith

-- where all rules are kept there is no fault
pub no_fault : (columns : Columns) (fields : Fields) → KeptBelow columns fields 8 → HasNoFault columns fields
no_fault columns fields kept fault holds = excluded columns fields fault.code fault.column fault.item holds (kept_for columns fields 8 kept fault.code (rule_below_8 fault.code))

-- before another fault of its rule
abbrev Stands : ℕ → ℕ → ℕ → ℕ → Type 0
Stands column item other_column other_item = (column < other_column) ⊎ ((column ≡ other_column) × (item < other_item))

-- a fault is the least where the rules before its own are kept, and no other fault of its rule stands before it
least_at : (columns : Columns) (fields : Fields) (rule : ℕ) (code : LogCode) (column item : ℕ) → rule_of code ≡ rule → IsFaultBy columns fields code column item → KeptBelow columns fields rule
    → ((other : Fault) → IsFault columns fields other → rule_of other.code ≡ rule → Stands other.column other.item column item → ⊥)
    → IsLeast columns fields (record { code = code; column = column; item = item })
least_at columns fields rule code column item is holds kept alone = record { holds = holds; least = least }
  where
    least : (other : Fault) → IsFault columns fields other → ¬ (Precedes other (record { code = code; column = column; item = item }))
    least other other_holds (inl before) = excluded columns fields other.code other.column other.item other_holds (kept_for columns fields rule kept other.code (omega (arith, before, is)))
    least other other_holds (inr (same, stands)) = alone other other_holds (same ∙ is) stands

-- the same of a fault of the whole record
whole_least : (columns : Columns) (fields : Fields) (code : LogCode) → IsFaultBy columns fields code 0 0 → KeptBelow columns fields (rule_of code)
    → IsLeast columns fields (record { code = code; column = 0; item = 0 })
whole_least columns fields code holds kept = least_at columns fields (rule_of code) code 0 0 refl holds kept alone
  where
    alone : (other : Fault) → IsFault columns fields other → rule_of other.code ≡ rule_of code → Stands other.column other.item 0 0 → ⊥
    alone other holds rule (inl left) = omega (arith, left)
    alone other holds rule (inr (same, left)) = omega (arith, left)

-- The cells of the faults of a rule.
missing_cells : (columns : Columns) (fields : Fields) (code : LogCode) (column item : ℕ) → IsFaultBy columns fields code column item → rule_of code ≡ 4
    → HoldsAt columns.uses fields column (λ role field. is_missing columns.side role field ≡ true)
missing_cells columns fields ColumnCount column item holds rule = absurd (omega (arith, rule))
missing_cells columns fields NotUtf8 column item holds rule = absurd (omega (arith, rule))
missing_cells columns fields RecordTooLarge column item holds rule = absurd (omega (arith, rule))
missing_cells columns fields MissingId column item holds rule = holds.1
missing_cells columns fields IdTooLong column item holds rule = absurd (omega (arith, rule))
missing_cells columns fields NotOfType column item holds rule = absurd (omega (arith, rule))
missing_cells columns fields OutOfRange column item holds rule = absurd (omega (arith, rule))
missing_cells columns fields TooManyValues column item holds rule = absurd (omega (arith, rule))
missing_cells columns fields FromMissing column item holds rule = absurd holds
missing_cells columns fields ToMissing column item holds rule = absurd holds
missing_cells columns fields EdgeConflict column item holds rule = absurd holds
missing_cells columns fields SingleConflict column item holds rule = absurd holds
missing_cells columns fields Header column item holds rule = absurd holds
missing_cells columns fields Compressed column item holds rule = absurd holds
missing_cells columns fields ReadFault column item holds rule = absurd holds
missing_cells columns fields FileTooLarge column item holds rule = absurd holds
missing_cells columns fields FeedModified column item holds rule = absurd holds
missing_cells columns fields SourceNotFound column item holds rule = absurd holds
missing_cells columns fields ListFault column item holds rule = absurd holds
missing_cells columns fields TooManyFiles column item holds rule = absurd holds
missing_cells columns fields NoPreviousLoad column item holds rule = absurd holds

long_cells : (columns : Columns) (fields : Fields) (code : LogCode) (column item : ℕ) → IsFaultBy columns fields code column item → rule_of code ≡ 5
    → HoldsAt columns.uses fields column (λ role field. is_long columns.side role field ≡ true)
long_cells columns fields ColumnCount column item holds rule = absurd (omega (arith, rule))
long_cells columns fields NotUtf8 column item holds rule = absurd (omega (arith, rule))
long_cells columns fields RecordTooLarge column item holds rule = absurd (omega (arith, rule))
long_cells columns fields MissingId column item holds rule = absurd (omega (arith, rule))
long_cells columns fields IdTooLong column item holds rule = holds.1
long_cells columns fields NotOfType column item holds rule = absurd (omega (arith, rule))
long_cells columns fields OutOfRange column item holds rule = absurd (omega (arith, rule))
long_cells columns fields TooManyValues column item holds rule = absurd (omega (arith, rule))
long_cells columns fields FromMissing column item holds rule = absurd holds
long_cells columns fields ToMissing column item holds rule = absurd holds
long_cells columns fields EdgeConflict column item holds rule = absurd holds
long_cells columns fields SingleConflict column item holds rule = absurd holds
long_cells columns fields Header column item holds rule = absurd holds
long_cells columns fields Compressed column item holds rule = absurd holds
long_cells columns fields ReadFault column item holds rule = absurd holds
long_cells columns fields FileTooLarge column item holds rule = absurd holds
long_cells columns fields FeedModified column item holds rule = absurd holds
long_cells columns fields SourceNotFound column item holds rule = absurd holds
long_cells columns fields ListFault column item holds rule = absurd holds
long_cells columns fields TooManyFiles column item holds rule = absurd holds
long_cells columns fields NoPreviousLoad column item holds rule = absurd holds

refused_cells : (columns : Columns) (fields : Fields) (code : LogCode) (column item : ℕ) → IsFaultBy columns fields code column item → rule_of code ≡ 6
    → HoldsAt columns.uses fields column (λ role field. (refused : CellRefusal) × IsRefused role field item refused)
refused_cells columns fields ColumnCount column item holds rule = absurd (omega (arith, rule))
refused_cells columns fields NotUtf8 column item holds rule = absurd (omega (arith, rule))
refused_cells columns fields RecordTooLarge column item holds rule = absurd (omega (arith, rule))
refused_cells columns fields MissingId column item holds rule = absurd (omega (arith, rule))
refused_cells columns fields IdTooLong column item holds rule = absurd (omega (arith, rule))
refused_cells columns fields NotOfType column item holds rule = (holds.0, holds.1, holds.2, holds.3, holds.4, holds.5, (refusal.NotOfType, holds.6))
refused_cells columns fields OutOfRange column item holds rule = (holds.0, holds.1, holds.2, holds.3, holds.4, holds.5, (refusal.OutOfRange, holds.6))
refused_cells columns fields TooManyValues column item holds rule = absurd (omega (arith, rule))
refused_cells columns fields FromMissing column item holds rule = absurd holds
refused_cells columns fields ToMissing column item holds rule = absurd holds
refused_cells columns fields EdgeConflict column item holds rule = absurd holds
refused_cells columns fields SingleConflict column item holds rule = absurd holds
refused_cells columns fields Header column item holds rule = absurd holds
refused_cells columns fields Compressed column item holds rule = absurd holds
refused_cells columns fields ReadFault column item holds rule = absurd holds
refused_cells columns fields FileTooLarge column item holds rule = absurd holds
refused_cells columns fields FeedModified column item holds rule = absurd holds
refused_cells columns fields SourceNotFound column item holds rule = absurd holds
refused_cells columns fields ListFault column item holds rule = absurd holds
refused_cells columns fields TooManyFiles column item holds rule = absurd holds
refused_cells columns fields NoPreviousLoad column item holds rule = absurd holds

-- the least missing id
missing_least : (columns : Columns) (fields : Fields) (code : LogCode) (column : ℕ) → KeptBelow columns fields 4
    → IsFirst (missing_code columns.side) 1 columns.uses fields code column → (code ≡ MissingId) × IsLeast columns fields (record { code = MissingId; column = column; item = 0 })
missing_least columns fields code column kept first =
    let (missing, is) = if_code (is_missing columns.side first.at.role first.at.field) MissingId code first.at.told_is in
    (sym is, least_at columns fields 4 MissingId column 0 refl (refl, (first.place, first.at.role, first.at.field, omega (arith, first.column_is), first.at.use_is, first.at.field_is, missing)) kept alone)
  where
    alone : (other : Fault) → IsFault columns fields other → rule_of other.code ≡ 4 → Stands other.column other.item column 0 → ⊥
    alone other holds rule (inr (same, left)) = omega (arith, left)
    alone other holds rule (inl left) =
        let (place, role, field, number, use_is, field_is, missing) = missing_cells columns fields other.code other.column other.item holds rule in
        code_if (is_missing columns.side role field) MissingId missing (first.before place (omega (arith, left, number, first.column_is)) role field use_is field_is)

-- the least id or label that is too long
long_least : (columns : Columns) (fields : Fields) (code : LogCode) (column : ℕ) → KeptBelow columns fields 5
    → IsFirst (long_code columns.side) 1 columns.uses fields code column → (code ≡ IdTooLong) × IsLeast columns fields (record { code = IdTooLong; column = column; item = 0 })
long_least columns fields code column kept first =
    let (long, is) = if_code (is_long columns.side first.at.role first.at.field) IdTooLong code first.at.told_is in
    (sym is, least_at columns fields 5 IdTooLong column 0 refl (refl, (first.place, first.at.role, first.at.field, omega (arith, first.column_is), first.at.use_is, first.at.field_is, long)) kept alone)
  where
    alone : (other : Fault) → IsFault columns fields other → rule_of other.code ≡ 5 → Stands other.column other.item column 0 → ⊥
    alone other holds rule (inr (same, left)) = omega (arith, left)
    alone other holds rule (inl left) =
        let (place, role, field, number, use_is, field_is, long) = long_cells columns fields other.code other.column other.item holds rule in
        code_if (is_long columns.side role field) IdTooLong long (first.before place (omega (arith, left, number, first.column_is)) role field use_is field_is)

-- the fault of a refused item
refused_fault : (columns : Columns) (fields : Fields) (code : LogCode) (column item : ℕ) (refused : CellRefusal) → IsTold refused code
    → HoldsAt columns.uses fields column (λ role field. IsRefused role field item refused) → (rule_of code ≡ 6) × IsFaultBy columns fields code column item
refused_fault columns fields code column item refused (inl (is, told_is)) holds =
    subst (λ k. (rule_of k ≡ 6) × IsFaultBy columns fields k column item) (sym told_is)
    (refl, subst (λ r. HoldsAt columns.uses fields column (λ role field. IsRefused role field item r)) is holds)
refused_fault columns fields code column item refused (inr (is, told_is)) holds =
    subst (λ k. (rule_of k ≡ 6) × IsFaultBy columns fields k column item) (sym told_is)
    (refl, subst (λ r. HoldsAt columns.uses fields column (λ role field. IsRefused role field item r)) is holds)

same_at : {X : Type 0} (xs : List X) (place : ℕ) (a b : X) → slice_get xs place ≡ Some a → slice_get xs place ≡ Some b → a ≡ b
same_at xs place a b one two = cc (one, two)

-- the least refused item
refused_least : (columns : Columns) (fields : Fields) (code : LogCode) (column : ℕ) → KeptBelow columns fields 6 → IsFirst refused_code 1 columns.uses fields code column
    → (item : ℕ) × IsLeast columns fields (record { code = code; column = column; item = item })
refused_least columns fields code column kept first =
    let found = first_item first.at.role first.at.field code first.at.told_is in
    let (rule, holds) = refused_fault columns fields code column found.item found.refused found.is_told (first.place, first.at.role, first.at.field, omega (arith, first.column_is), first.at.use_is, first.at.field_is, found.has) in
    (found.item, least_at columns fields 6 code column found.item rule holds kept (alone found))
  where
    alone : (found : IsFirstItem first.at.role first.at.field code) (other : Fault) → IsFault columns fields other → rule_of other.code ≡ 6 → Stands other.column other.item column found.item → ⊥
    alone found other holds rule stands = by (refused_cells columns fields other.code other.column other.item holds rule) stands
      where
        by : HoldsAt columns.uses fields other.column (λ role field. (refused : CellRefusal) × IsRefused role field other.item refused) → Stands other.column other.item column found.item → ⊥
        by (place, role, field, number, use_is, field_is, (refused, has)) (inl left) =
            silent_cell role field other.item refused (text_at fields place field (texts_of fields (kept.utf8 (omega arith))) field_is)
            (first.before place (omega (arith, left, number, first.column_is)) role field use_is field_is) has
        by (place, role, field, number, use_is, field_is, (refused, has)) (inr (same, left)) =
            let here : place ≡ first.place = omega (arith, same, number, first.column_is) in
            let role_is = same_at columns.uses first.place role first.at.role (subst (λ p. slice_get columns.uses p ≡ Some role) here use_is) first.at.use_is in
            let field_same = same_at fields first.place field first.at.field (subst (λ p. slice_get fields p ≡ Some field) here field_is) first.at.field_is in
            found.first other.item refused left (subst (λ f. IsRefused first.at.role f other.item refused) field_same (subst (λ r. IsRefused r field other.item refused) role_is has))

-- The least fault, of which a code and a column are told.
abbrev pub HasLeast : Columns → Fields → LogCode → ℕ → Type 0
HasLeast columns fields code column = (fault : Fault) × (code ≡ fault.code) × (column ≡ fault.column) × IsLeast columns fields fault

whole_told : (columns : Columns) (fields : Fields) (code : LogCode) (a b c : Bool) → length fields == length columns.uses ≡ a → list_all is_utf8 fields ≡ b → are_small fields ≡ c
    → cond a (cond b (cond c None (Some RecordTooLarge)) (Some NotUtf8)) (Some ColumnCount) ≡ Some code → HasLeast columns fields code 0
whole_told columns fields code false b c count utf8 small is =
    (record { code = ColumnCount; column = 0; item = 0 }, cc is, refl, whole_least columns fields ColumnCount ((refl, refl), count) (record { count = λ below. absurd (omega (arith, below)); utf8 = λ below. absurd (omega (arith, below)); small = λ below. absurd (omega (arith, below)); ids = λ below. absurd (omega (arith, below)); lengths = λ below. absurd (omega (arith, below)); cells = λ below. absurd (omega (arith, below)); values = λ below. absurd (omega (arith, below)) }))
whole_told columns fields code true false c count utf8 small is =
    (record { code = NotUtf8; column = 0; item = 0 }, cc is, refl, whole_least columns fields NotUtf8 ((refl, refl), utf8) (record { count = λ below. count; utf8 = λ below. absurd (omega (arith, below)); small = λ below. absurd (omega (arith, below)); ids = λ below. absurd (omega (arith, below)); lengths = λ below. absurd (omega (arith, below)); cells = λ below. absurd (omega (arith, below)); values = λ below. absurd (omega (arith, below)) }))
whole_told columns fields code true true false count utf8 small is =
    (record { code = RecordTooLarge; column = 0; item = 0 }, cc is, refl, whole_least columns fields RecordTooLarge ((refl, refl), small) (record { count = λ below. count; utf8 = λ below. utf8; small = λ below. absurd (omega (arith, below)); ids = λ below. absurd (omega (arith, below)); lengths = λ below. absurd (omega (arith, below)); cells = λ below. absurd (omega (arith, below)); values = λ below. absurd (omega (arith, below)) }))
whole_told columns fields code true true true count utf8 small is = cc is

abbrev told_many : Told
told_many = (TooManyValues, 0)

told_pair : (a : LogCode) (b : ℕ) (c : LogCode) (d : ℕ) → told_or (Some a) b None ≡ Some (c, d) → (a ≡ c) × (b ≡ d)
told_pair a b c d is =
    let same : ◌≡◌ {A = Told} (a, b) (c, d) = cc is in
    (ap (λ t. t.0) same, ap (λ t. t.1) same)

few_by : (test : Bool) → cond test None (Some (told_many)) ≡ None → test ≡ true
few_by true is = refl
few_by false is = cc is

many_by : (test : Bool) (code : LogCode) (column : ℕ) → cond test None (Some told_many) ≡ Some (code, column) → (test ≡ false) × (code ≡ TooManyValues) × (column ≡ 0)
many_by true code column is = cc is
many_by false code column is =
    let same : ◌≡◌ {A = Told} told_many (code, column) = cc is in
    (refl, sym (ap (λ t. t.0) same), sym (ap (λ t. t.1) same))

-- a record's least fault, by what all its rules tell
told_least : (columns : Columns) (fields : Fields) (code : LogCode) (column : ℕ) (whole : Option LogCode) (ids lengths cells many : Option Told)
    → whole_code columns fields ≡ whole → first_told (missing_code columns.side) 1 columns.uses fields ≡ ids
    → first_told (long_code columns.side) 1 columns.uses fields ≡ lengths → first_told refused_code 1 columns.uses fields ≡ cells → many_told (value_count columns fields) ≡ many
    → first_of (told_or whole 0 (first_of ids (first_of lengths cells))) many ≡ Some (code, column) → HasLeast columns fields code column
told_least columns fields code column (Some found) ids lengths cells many whole_is ids_is lengths_is cells_is many_is is =
    let same = told_pair found 0 code column is in
    subst (λ n. HasLeast columns fields code n) same.1 (whole_told columns fields code _ _ _ refl refl refl (whole_is ∙ ap Some same.0))
told_least columns fields code column None (Some (found, number)) lengths cells many whole_is ids_is lengths_is cells_is many_is is =
    let same = told_pair found number code column is in
    let whole = whole_record columns fields whole_is in
    let kept : KeptBelow columns fields 4 = record { count = λ below. whole.count; utf8 = λ below. whole.utf8; small = λ below. whole.small; ids = λ below. absurd (omega (arith, below)); lengths = λ below. absurd (omega (arith, below)); cells = λ below. absurd (omega (arith, below)); values = λ below. absurd (omega (arith, below)) } in
    let first = first_is (missing_code columns.side) 1 columns.uses fields found number ids_is in
    let least = missing_least columns fields found number kept first in
    (record { code = MissingId; column = number; item = 0 }, sym same.0 ∙ least.0, sym same.1, least.1)
told_least columns fields code column None None (Some (found, number)) cells many whole_is ids_is lengths_is cells_is many_is is =
    let same = told_pair found number code column is in
    let whole = whole_record columns fields whole_is in
    let kept : KeptBelow columns fields 5 = record { count = λ below. whole.count; utf8 = λ below. whole.utf8; small = λ below. whole.small; ids = λ below. ids_is; lengths = λ below. absurd (omega (arith, below)); cells = λ below. absurd (omega (arith, below)); values = λ below. absurd (omega (arith, below)) } in
    let first = first_is (long_code columns.side) 1 columns.uses fields found number lengths_is in
    let least = long_least columns fields found number kept first in
    (record { code = IdTooLong; column = number; item = 0 }, sym same.0 ∙ least.0, sym same.1, least.1)
told_least columns fields code column None None None (Some (found, number)) many whole_is ids_is lengths_is cells_is many_is is =
    let same = told_pair found number code column is in
    let whole = whole_record columns fields whole_is in
    let kept : KeptBelow columns fields 6 = record { count = λ below. whole.count; utf8 = λ below. whole.utf8; small = λ below. whole.small; ids = λ below. ids_is; lengths = λ below. lengths_is; cells = λ below. absurd (omega (arith, below)); values = λ below. absurd (omega (arith, below)) } in
    let first = first_is refused_code 1 columns.uses fields found number cells_is in
    let (item, least) = refused_least columns fields found number kept first in
    (record { code = found; column = number; item = item }, sym same.0, sym same.1, least)
told_least columns fields code column None None None None (Some (found, number)) whole_is ids_is lengths_is cells_is many_is is =
    let same = told_pair found number code column is in
    let whole = whole_record columns fields whole_is in
    let kept : KeptBelow columns fields 7 = record { count = λ below. whole.count; utf8 = λ below. whole.utf8; small = λ below. whole.small; ids = λ below. ids_is; lengths = λ below. lengths_is; cells = λ below. cells_is; values = λ below. absurd (omega (arith, below)) } in
    let many = many_by (nat_le (value_count columns fields) 4096) found number many_is in
    (record { code = TooManyValues; column = 0; item = 0 }, sym same.0 ∙ many.1, sym same.1 ∙ many.2, whole_least columns fields TooManyValues ((refl, refl), many.0) kept)
told_least columns fields code column None None None None None whole_is ids_is lengths_is cells_is many_is is = cc is

-- the code and the column that are told are those of the least fault
pub has_least : (columns : Columns) (fields : Fields) (code : LogCode) (column : ℕ) → told columns fields ≡ Some (code, column) → HasLeast columns fields code column
has_least columns fields code column is = told_least columns fields code column _ _ _ _ _ refl refl refl refl refl is

none_left : (columns : Columns) (fields : Fields) (whole : Option LogCode) (ids lengths cells many : Option Told)
    → whole_code columns fields ≡ whole → first_told (missing_code columns.side) 1 columns.uses fields ≡ ids
    → first_told (long_code columns.side) 1 columns.uses fields ≡ lengths → first_told refused_code 1 columns.uses fields ≡ cells → many_told (value_count columns fields) ≡ many
    → first_of (told_or whole 0 (first_of ids (first_of lengths cells))) many ≡ None → KeptBelow columns fields 8
none_left columns fields (Some found) ids lengths cells many whole_is ids_is lengths_is cells_is many_is is = cc is
none_left columns fields None (Some found) lengths cells many whole_is ids_is lengths_is cells_is many_is is = cc is
none_left columns fields None None (Some found) cells many whole_is ids_is lengths_is cells_is many_is is = cc is
none_left columns fields None None None (Some found) many whole_is ids_is lengths_is cells_is many_is is = cc is
none_left columns fields None None None None (Some found) whole_is ids_is lengths_is cells_is many_is is = cc is
none_left columns fields None None None None None whole_is ids_is lengths_is cells_is many_is is =
    let whole = whole_record columns fields whole_is in
    record { count = λ below. whole.count; utf8 = λ below. whole.utf8; small = λ below. whole.small; ids = λ below. ids_is; lengths = λ below. lengths_is; cells = λ below. cells_is; values = λ below. few_by _ many_is }

-- where nothing is told all rules are kept
pub all_kept : (columns : Columns) (fields : Fields) → told columns fields ≡ None → KeptBelow columns fields 8
all_kept columns fields none = none_left columns fields _ _ _ _ _ refl refl refl refl refl none

-- the code of a fault is one that converting a record gives
record_code_by : (columns : Columns) (fields : Fields) (code : LogCode) (column item : ℕ) → IsFaultBy columns fields code column item → IsRecordCode code
record_code_by columns fields ColumnCount column item holds = tt
record_code_by columns fields NotUtf8 column item holds = tt
record_code_by columns fields RecordTooLarge column item holds = tt
record_code_by columns fields MissingId column item holds = tt
record_code_by columns fields IdTooLong column item holds = tt
record_code_by columns fields NotOfType column item holds = tt
record_code_by columns fields OutOfRange column item holds = tt
record_code_by columns fields TooManyValues column item holds = tt
record_code_by columns fields FromMissing column item holds = holds
record_code_by columns fields ToMissing column item holds = holds
record_code_by columns fields EdgeConflict column item holds = holds
record_code_by columns fields SingleConflict column item holds = holds
record_code_by columns fields Header column item holds = holds
record_code_by columns fields Compressed column item holds = holds
record_code_by columns fields ReadFault column item holds = holds
record_code_by columns fields FileTooLarge column item holds = holds
record_code_by columns fields FeedModified column item holds = holds
record_code_by columns fields SourceNotFound column item holds = holds
record_code_by columns fields ListFault column item holds = holds
record_code_by columns fields TooManyFiles column item holds = holds
record_code_by columns fields NoPreviousLoad column item holds = holds

pub record_code : (columns : Columns) (fields : Fields) (code : LogCode) (column : ℕ) → HasLeast columns fields code column → IsRecordCode code
record_code columns fields code column (fault, code_is, column_is, least) =
    subst IsRecordCode (sym code_is) (record_code_by columns fields fault.code fault.column fault.item least.holds)

row_by_side : (columns : Columns) (fields : Fields) (side : Side) → columns.side ≡ side → HasNoFault columns fields → IsRowOf columns fields (row_by side columns.uses fields (properties_of columns fields))
row_by_side columns fields side.Vertex is none = (none, is, refl, refl, refl)
row_by_side columns fields side.Edge is none = (none, is, refl, refl, refl, refl, refl)

-- a record of which nothing is told has the row of its values
pub row_is : (columns : Columns) (fields : Fields) (row : Row) → told columns fields ≡ None → row ≡ row_by columns.side columns.uses fields (properties_of columns fields) → IsRowOf columns fields row
row_is columns fields row none is = subst (IsRowOf columns fields) (sym is) (row_by_side columns fields columns.side refl (no_fault columns fields (all_kept columns fields none)))
