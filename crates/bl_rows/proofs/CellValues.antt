-- What reading the cells of a record in UTF-8 may give, item by item.
use Rattle.std.specs.Prelude.{◌≡◌, ◌<◌, ℕ, zero, suc, Bool, true, false, not, cond, List, [], ◌∷◌, slice_get, Some, Ok, Err, refl}
use Rattle.std.specs.declared.result.Result.{Result}
use Rattle.std.specs.List.{All}
use Rattle.std.specs.Str.{IsUtf8}
use Rattle.std.proofs.lemmas.Str.{is_utf8-from_IsUtf8}
use Rattle.std.proofs.lemmas.List.{append-nil}
use Rattle.std.proofs.lemmas.List.Elements.{All-head, All-tail}
use Rattle.std.proofs.Common.{◌∙◌, sym, ap, subst, arith, ℤ}
use Rattle.bl_value.specs.Cells.{cell, each_once, fits, in_front, integer, is_date, is_empty_cell, is_integer, item_values, items, moment_of, one_value, text_cell, values_in, values_of, without_spaces}
use Rattle.bl_value.specs.declared.value.Value.{Value}
use Rattle.bl_value.specs.declared.value.Value.TheVariants.{Byte, Short, Int, Long, Date}
use Rattle.std.specs.Str.Parse.{signed_digits_value}
use Rattle.bl_value.specs.declared.value_type.ValueType.{ValueType}
use Rattle.bl_value.specs.declared.value_type.ValueType.TheVariants as type
use Rattle.bl_value.specs.declared.cell.CellRefusal.{CellRefusal}
use Rattle.bl_value.specs.declared.cell.CellRefusal.TheVariants.{NotUtf8, NotOfType, OutOfRange, NoMemory}
use Rattle.bl_value.specs.declared.column.Column.{Column}
use Rattle.bl_rows.specs.Rows.{property_items}
use Rattle.bl_value.proofs.ItemTexts.{items_are_utf8}

-- a value, or a refusal that is about the type
abbrev pub IsTyped : {A : Type 0} → Result A CellRefusal → Type 0
IsTyped (Ok value) = Unit {0}
IsTyped (Err NotOfType) = Unit {0}
IsTyped (Err OutOfRange) = Unit {0}
IsTyped (Err NotUtf8) = ⊥
IsTyped (Err NoMemory) = ⊥

typed_of_two : {A : Type 0} (test : Bool) (a b : Result A CellRefusal) → IsTyped a → IsTyped b → IsTyped (cond test a b)
typed_of_two true a b first second = first
typed_of_two false a b first second = second

typed_integer : (bits : ℕ) (value : ℤ → Value) (text : List ℕ) → IsTyped (integer bits value text)
typed_integer bits value text = typed_of_two {A = Value} (not (is_integer text)) (Err NotOfType) _ (tt {0}) (typed_of_two {A = Value} (fits bits (signed_digits_value 10 text)) (Ok (value (signed_digits_value 10 text))) (Err OutOfRange) (tt {0}) (tt {0}))

typed_text : (kind : ValueType) (bytes : List ℕ) → IsTyped (text_cell kind bytes)
typed_text type.Bool bytes = tt
typed_text type.Byte bytes = typed_integer 8 (λ x. Byte x) (without_spaces bytes)
typed_text type.Short bytes = typed_integer 16 (λ x. Short x) (without_spaces bytes)
typed_text type.Int bytes = typed_integer 32 (λ x. Int x) (without_spaces bytes)
typed_text type.Long bytes = typed_integer 64 (λ x. Long x) (without_spaces bytes)
typed_text type.Str bytes = tt
typed_text type.Date bytes = typed_of_two {A = Value} (is_date (without_spaces bytes)) (Ok (Date (moment_of (without_spaces bytes)))) (Err NotOfType) (tt {0}) (tt {0})

typed_cell : (kind : ValueType) (bytes : List ℕ) → IsUtf8 bytes → IsTyped (cell kind bytes)
typed_cell kind bytes text = rw (is_utf8-from_IsUtf8 bytes text) (typed_text kind bytes)

typed_one : (found : Result Value CellRefusal) → IsTyped found → IsTyped (one_value found)
typed_one (Ok value) typed = tt
typed_one (Err NotOfType) typed = tt
typed_one (Err OutOfRange) typed = tt
typed_one (Err NotUtf8) typed = typed
typed_one (Err NoMemory) typed = typed

typed_in : (kind : ValueType) (item : List ℕ) → IsUtf8 item → IsTyped (values_in kind item)
typed_in kind item text = typed_of_two {A = List Value} (is_empty_cell kind item) (Ok []) (one_value (cell kind item)) (tt {0}) (typed_one (cell kind item) (typed_cell kind item text))

typed_front : (values others : Result (List Value) CellRefusal) → IsTyped values → IsTyped others → IsTyped (in_front values others)
typed_front (Ok values) (Ok others) first second = tt
typed_front (Ok values) (Err NotOfType) first second = tt
typed_front (Ok values) (Err OutOfRange) first second = tt
typed_front (Ok values) (Err NotUtf8) first second = second
typed_front (Ok values) (Err NoMemory) first second = second
typed_front (Err NotOfType) others first second = tt
typed_front (Err OutOfRange) others first second = tt
typed_front (Err NotUtf8) others first second = first
typed_front (Err NoMemory) others first second = first

typed_all : (kind : ValueType) (found : List (List ℕ)) → All IsUtf8 found → IsTyped (item_values kind found)
typed_all kind [] texts = tt
typed_all kind (item ∷ others) texts =
    typed_front (values_in kind item) (item_values kind others) (typed_in kind item (All-head IsUtf8 item others texts)) (typed_all kind others (All-tail IsUtf8 item others texts))

typed_once : (values : Result (List Value) CellRefusal) → IsTyped values → IsTyped (each_once values)
typed_once (Ok values) typed = tt
typed_once (Err NotOfType) typed = tt
typed_once (Err OutOfRange) typed = tt
typed_once (Err NotUtf8) typed = typed
typed_once (Err NoMemory) typed = typed

typed_by : (kind : ValueType) (many : Bool) (bytes : List ℕ) → IsUtf8 bytes → IsTyped (values_of kind many bytes)
typed_by kind true bytes text = typed_once _ (typed_all kind (items bytes) (items_are_utf8 bytes text))
typed_by kind false bytes text = typed_once _ (typed_in kind bytes text)

-- reading a property cell in UTF-8 is never refused for its bytes
pub typed_values : (column : Column) (bytes : List ℕ) → IsUtf8 bytes → IsTyped (values_of column.kind column.many bytes)
typed_values column bytes text = typed_by column.kind column.many bytes text

pub never_not_utf8 : (column : Column) (bytes : List ℕ) → IsUtf8 bytes → values_of column.kind column.many bytes ≡ Err NotUtf8 → ⊥
never_not_utf8 column bytes text is = subst IsTyped is (typed_values column bytes text)

-- the values of a cell are those of its items, each once
items_by : (kind : ValueType) (many : Bool) (bytes : List ℕ) → values_of kind many bytes ≡ each_once (item_values kind (cond many (items bytes) (bytes ∷ [])))
items_by kind true bytes = refl
items_by kind false bytes = by (values_in kind bytes)
  where
    by : (found : Result (List Value) CellRefusal) → each_once found ≡ each_once (in_front found (Ok []))
    by (Err refused) = refl
    by (Ok values) = ap (λ all. each_once (Ok all)) (sym (append-nil values))

pub values_are : (column : Column) (bytes : List ℕ) → values_of column.kind column.many bytes ≡ each_once (item_values column.kind (property_items column bytes))
values_are column bytes = items_by column.kind column.many bytes

-- the item at this place is the first that is refused
pub record IsFirstRefused (kind : ValueType) (cells : List (List ℕ)) (refused : CellRefusal) (place : ℕ) (item : List ℕ) : Type 0 where
  pub at : slice_get cells place ≡ Some item
  pub is_refused : values_in kind item ≡ Err refused
  pub others : (p : ℕ) (i : List ℕ) → p < place → slice_get cells p ≡ Some i → (value : List Value) × (values_in kind i ≡ Ok value)

abbrev HasFirst : ValueType → List (List ℕ) → CellRefusal → Type 0
HasFirst kind cells refused = (place : ℕ) × (item : List ℕ) × IsFirstRefused kind cells refused place item

first_behind : (kind : ValueType) (bytes : List ℕ) (value : List Value) (others : List (List ℕ)) (refused : CellRefusal) → values_in kind bytes ≡ Ok value
    → HasFirst kind others refused → HasFirst kind (bytes ∷ others) refused
first_behind kind bytes value others refused is (place, item, first) =
    (suc place, item, record { at = first.at; is_refused = first.is_refused; others = before })
  where
    before : (p : ℕ) (i : List ℕ) → p < suc place → slice_get (bytes ∷ others) p ≡ Some i → (v : List Value) × (values_in kind i ≡ Ok v)
    before zero i below at = (value, subst (λ b. values_in kind b ≡ Ok value) (cc at) is)
    before (suc p) i below at = first.others p i (omega (arith, below)) at

abbrev error : CellRefusal → Result (List Value) CellRefusal
error e = Err e

same_refusal : (e f : CellRefusal) → error e ≡ error f → e ≡ f
same_refusal e f is = cc is

-- where values are refused, an item is
pub first_refused : (kind : ValueType) (cells : List (List ℕ)) (refused : CellRefusal) → item_values kind cells ≡ Err refused → HasFirst kind cells refused
first_refused kind [] refused is = cc is
first_refused kind (bytes ∷ others) refused is = by (values_in kind bytes) (item_values kind others) refl refl is (first_refused kind others refused)
  where
    by : (value : Result (List Value) CellRefusal) (values : Result (List Value) CellRefusal) → values_in kind bytes ≡ value → item_values kind others ≡ values
        → in_front value values ≡ Err refused → (item_values kind others ≡ Err refused → HasFirst kind others refused) → HasFirst kind (bytes ∷ others) refused
    by (Err e) values one all front more = (zero, bytes, record { at = refl; is_refused = one ∙ ap Err (same_refusal e refused front); others = λ p i below at. absurd (omega (arith, below)) })
    by (Ok value) (Err e) one all front more = first_behind kind bytes value others refused one (more (all ∙ ap Err (same_refusal e refused front)))
    by (Ok value) (Ok values) one all front more = cc front

-- where none are, no item is
pub none_refused : (kind : ValueType) (cells : List (List ℕ)) (values : List Value) → item_values kind cells ≡ Ok values
    → (place : ℕ) (item : List ℕ) → slice_get cells place ≡ Some item → (value : List Value) × (values_in kind item ≡ Ok value)
none_refused kind [] values is place item at = cc at
none_refused kind (bytes ∷ others) values is place item at = by (values_in kind bytes) (item_values kind others) refl refl is place at (none_refused kind others)
  where
    by : (value : Result (List Value) CellRefusal) (others_are : Result (List Value) CellRefusal) → values_in kind bytes ≡ value → item_values kind others ≡ others_are
        → in_front value others_are ≡ Ok values → (place : ℕ) → slice_get (bytes ∷ others) place ≡ Some item
        → ((vs : List Value) → item_values kind others ≡ Ok vs → (place : ℕ) (item : List ℕ) → slice_get others place ≡ Some item → (v : List Value) × (values_in kind item ≡ Ok v))
        → (v : List Value) × (values_in kind item ≡ Ok v)
    by (Err e) values2 one all front place at more = cc front
    by (Ok value) (Err e) one all front place at more = cc front
    by (Ok value) (Ok values2) one all front zero at more = (value, subst (λ b. values_in kind b ≡ Ok value) (cc at) one)
    by (Ok value) (Ok values2) one all front (suc place) at more = more values2 all place item at

pub once_refused : (values : Result (List Value) CellRefusal) (refused : CellRefusal) → each_once values ≡ Err refused → values ≡ Err refused
once_refused (Ok values) refused is = cc is
once_refused (Err e) refused is = cc is

pub once_read : (found : Result (List Value) CellRefusal) (values : List Value) → each_once found ≡ Ok values → (all : List Value) × (found ≡ Ok all)
once_read (Ok all) values is = (all, refl)
once_read (Err e) values is = cc is
