-- The faults that the rules meet are the record's faults, the least of them first.
use Rattle.std.specs.Prelude.{◌≡◌, ◌⊎◌, ◌+◌, ◌<◌, ℕ, zero, suc, Bool, true, false, cond, List, [], ◌∷◌, slice_get, None, Some, Ok, Err, refl}
use Rattle.std.specs.declared.option.Option.{Option}
use Rattle.std.specs.declared.result.Result.{Result}
use Rattle.std.specs.Str.{IsUtf8}
use Rattle.std.proofs.Common.{◌∙◌, sym, ap, arith, inl, inr}
use Rattle.bl_value.specs.Cells.{item_values, values_of}
use Rattle.bl_value.specs.declared.value.Value.{Value}
use Rattle.bl_value.specs.declared.cell.CellRefusal.{CellRefusal}
use Rattle.bl_value.specs.declared.cell.CellRefusal.TheVariants as refusal
use Rattle.bl_value.specs.declared.column.ColumnUse.{ColumnUse}
use Rattle.bl_value.specs.declared.column.ColumnUse.TheVariants.{Id, Label, From, To, Property}
use Rattle.bl_value.specs.declared.log_code.LogCode.{LogCode}
use Rattle.bl_value.specs.declared.log_code.LogCode.TheVariants.{NotUtf8, NotOfType, OutOfRange}
use Rattle.bl_rows.specs.Contents.{Fields}
use Rattle.bl_rows.specs.FirstFaults.{Told, first_told, refused_code, told_or, value_code}
use Rattle.bl_rows.specs.Rows.{IsRefused, property_items}
use Rattle.bl_rows.proofs.CellValues.{IsFirstRefused, IsTyped, first_refused, none_refused, once_read, once_refused, typed_values, values_are}

-- What tells a code of a cell.
abbrev pub Teller : Type 0
Teller = ColumnUse → List ℕ → Option LogCode

-- the cell at this place tells a code
pub record TellsAt (tells : Teller) (uses : List ColumnUse) (fields : Fields) (place : ℕ) (code : LogCode) : Type 0 where
  pub role : ColumnUse
  pub field : List ℕ
  pub use_is : slice_get uses place ≡ Some role
  pub field_is : slice_get fields place ≡ Some field
  pub told_is : tells role field ≡ Some code

-- the cell at this place, if there is one, tells nothing
abbrev pub IsSilentAt : Teller → List ColumnUse → Fields → ℕ → Type 0
IsSilentAt tells uses fields place =
    (role : ColumnUse) (field : List ℕ) → slice_get uses place ≡ Some role → slice_get fields place ≡ Some field → tells role field ≡ None

-- where nothing is told, no cell tells anything
pub silent : (tells : Teller) (number : ℕ) (uses : List ColumnUse) (fields : Fields) → first_told tells number uses fields ≡ None
    → (place : ℕ) → IsSilentAt tells uses fields place
silent tells number [] fields none place role field use_is field_is = cc use_is
silent tells number (r ∷ uses) [] none place role field use_is field_is = cc field_is
silent tells number (r ∷ uses) (f ∷ fields) none place role field use_is field_is = by (tells r f) refl none place use_is field_is (silent tells (number + 1) uses fields)
  where
    by : (code : Option LogCode) → tells r f ≡ code → told_or code number (first_told tells (number + 1) uses fields) ≡ None
        → (place : ℕ) → slice_get (r ∷ uses) place ≡ Some role → slice_get (f ∷ fields) place ≡ Some field
        → (first_told tells (number + 1) uses fields ≡ None → (place : ℕ) → IsSilentAt tells uses fields place)
        → tells role field ≡ None
    by (Some code) is none place use_is field_is more = cc none
    by None is none zero use_is field_is more = ap (λ r2. tells r2 field) (cc use_is) ∙ ap (λ f2. tells r f2) (cc field_is) ∙ is
    by None is none (suc place) use_is field_is more = more none place role field use_is field_is

-- what is told, the first cell tells that tells anything
pub record IsFirst (tells : Teller) (number : ℕ) (uses : List ColumnUse) (fields : Fields) (code : LogCode) (column : ℕ) : Type 0 where
  pub place : ℕ
  pub column_is : column ≡ number + place
  pub at : TellsAt tells uses fields place code
  pub before : (p : ℕ) → p < place → IsSilentAt tells uses fields p

first_later : (tells : Teller) (number : ℕ) (r : ColumnUse) (uses : List ColumnUse) (f : List ℕ) (fields : Fields) (code : LogCode) (column : ℕ)
    → tells r f ≡ None → IsFirst tells (number + 1) uses fields code column → IsFirst tells number (r ∷ uses) (f ∷ fields) code column
first_later tells number r uses f fields code column is first =
    record {
      place = suc first.place;
      column_is = omega (arith, first.column_is);
      at = record { role = first.at.role; field = first.at.field; use_is = first.at.use_is; field_is = first.at.field_is; told_is = first.at.told_is };
      before = before;
    }
  where
    before : (p : ℕ) → p < suc first.place → IsSilentAt tells (r ∷ uses) (f ∷ fields) p
    before zero below role field use_is field_is = ap (λ r2. tells r2 field) (cc use_is) ∙ ap (λ f2. tells r f2) (cc field_is) ∙ is
    before (suc p) below role field use_is field_is = first.before p (omega (arith, below)) role field use_is field_is

same_told : (a : LogCode) (b : ℕ) (c : LogCode) (d : ℕ) → told_or (Some a) b None ≡ Some (c, d) → (a ≡ c) × (b ≡ d)
same_told a b c d is =
    let same : ◌≡◌ {A = Told} (a, b) (c, d) = cc is in
    (ap (λ t. t.0) same, ap (λ t. t.1) same)

pub first_is : (tells : Teller) (number : ℕ) (uses : List ColumnUse) (fields : Fields) (code : LogCode) (column : ℕ)
    → first_told tells number uses fields ≡ Some (code, column) → IsFirst tells number uses fields code column
first_is tells number [] fields code column is = cc is
first_is tells number (r ∷ uses) [] code column is = cc is
first_is tells number (r ∷ uses) (f ∷ fields) code column is = by (tells r f) refl is (first_is tells (number + 1) uses fields code column)
  where
    by : (found : Option LogCode) → tells r f ≡ found → told_or found number (first_told tells (number + 1) uses fields) ≡ Some (code, column)
        → (first_told tells (number + 1) uses fields ≡ Some (code, column) → IsFirst tells (number + 1) uses fields code column)
        → IsFirst tells number (r ∷ uses) (f ∷ fields) code column
    by None one is more = first_later tells number r uses f fields code column one (more is)
    by (Some found) one is more =
        record {
          place = zero;
          column_is = omega (arith, (same_told found number code column is).1);
          at = record { role = r; field = f; use_is = refl; field_is = refl; told_is = one ∙ ap Some (same_told found number code column is).0 };
          before = λ p below. absurd (omega (arith, below));
        }

-- Tests of a cell as tellers.
pub code_if : (test : Bool) (code : LogCode) → test ≡ true → cond test (Some code) None ≡ None → ⊥
code_if true code is none = cc none
code_if false code is none = cc is

pub if_code : (test : Bool) (code found : LogCode) → cond test (Some code) None ≡ Some found → (test ≡ true) × (code ≡ found)
if_code true code found is = (refl, cc is)
if_code false code found is = cc is

-- The code of a refusal.
abbrev code_of : CellRefusal → LogCode
code_of refusal.NotOfType = NotOfType
code_of refusal.OutOfRange = OutOfRange
code_of refusal.NotUtf8 = NotUtf8
code_of refusal.NoMemory = NotUtf8

-- a refused item in UTF-8 is told
abbrev pub IsTold : CellRefusal → LogCode → Type 0
IsTold refused code = ((refused ≡ refusal.NotOfType) × (code ≡ NotOfType)) ⊎ ((refused ≡ refusal.OutOfRange) × (code ≡ OutOfRange))

told_values : (found : Result (List Value) CellRefusal) (code : LogCode) → value_code found ≡ Some code → (refused : CellRefusal) × (found ≡ Err refused) × IsTold refused code
told_values (Ok values) code is = cc is
told_values (Err refusal.NotOfType) code is = (refusal.NotOfType, refl, inl (refl, cc is))
told_values (Err refusal.OutOfRange) code is = (refusal.OutOfRange, refl, inr (refl, cc is))
told_values (Err refusal.NotUtf8) code is = cc is
told_values (Err refusal.NoMemory) code is = cc is

silent_values : (found : Result (List Value) CellRefusal) → IsTyped found → value_code found ≡ None → (values : List Value) × (found ≡ Ok values)
silent_values (Ok values) typed is = (values, refl)
silent_values (Err refusal.NotOfType) typed is = cc is
silent_values (Err refusal.OutOfRange) typed is = cc is
silent_values (Err refusal.NotUtf8) typed is = absurd typed
silent_values (Err refusal.NoMemory) typed is = absurd typed

-- a cell in UTF-8 that tells nothing has no refused item
pub silent_cell : (role : ColumnUse) (field : List ℕ) (item : ℕ) (refused : CellRefusal) → IsUtf8 field → refused_code role field ≡ None → IsRefused role field item refused → ⊥
silent_cell Id field item refused text none has = has
silent_cell Label field item refused text none has = has
silent_cell From field item refused text none has = has
silent_cell To field item refused text none has = has
silent_cell (Property column) field item refused text none (place, bytes, number, at, bad) =
    let (values, is) = silent_values (values_of column.kind column.many field) (typed_values column field text) none in
    let (all, read) = once_read (item_values column.kind (property_items column field)) values (sym (values_are column field) ∙ is) in
    let (value, good) = none_refused column.kind (property_items column field) all read place bytes at in
    ok_err value refused (sym good ∙ bad)
  where
    ok_err : (value : List Value) (refused : CellRefusal) → Ok value ≡ Err refused → ⊥
    ok_err value refused is = cc is

-- the first item that a cell tells of
pub record IsFirstItem (role : ColumnUse) (field : List ℕ) (code : LogCode) : Type 0 where
  pub item : ℕ
  pub refused : CellRefusal
  pub is_told : IsTold refused code
  pub has : IsRefused role field item refused
  pub first : (other : ℕ) (other_refused : CellRefusal) → other < item → IsRefused role field other other_refused → ⊥

pub first_item : (role : ColumnUse) (field : List ℕ) (code : LogCode) → refused_code role field ≡ Some code → IsFirstItem role field code
first_item Id field code is = cc is
first_item Label field code is = cc is
first_item From field code is = cc is
first_item To field code is = cc is
first_item (Property column) field code is =
    let (refused, found, told_is) = told_values (values_of column.kind column.many field) code is in
    let (place, bytes, first) = first_refused column.kind (property_items column field) refused (once_refused (item_values column.kind (property_items column field)) refused (sym (values_are column field) ∙ found)) in
    record {
      item = place + 1;
      refused = refused;
      is_told = told_is;
      has = (place, bytes, refl, first.at, first.is_refused);
      first = λ other other_refused below has. before place first other other_refused below has;
    }
  where
    before : {refused : CellRefusal} {bytes : List ℕ} (place : ℕ) → IsFirstRefused column.kind (property_items column field) refused place bytes
        → (other : ℕ) (other_refused : CellRefusal) → other < place + 1 → IsRefused (Property column) field other other_refused → ⊥
    before place first other other_refused below (p, item, number, at, bad) =
        let (value, good) = first.others p item (omega (arith, below, number)) at in
        ok_err value other_refused (sym good ∙ bad)
      where
        ok_err : (value : List Value) (refused : CellRefusal) → Ok value ≡ Err refused → ⊥
        ok_err value refused is = cc is
