-- Values of items, put together.
use Rattle.std.proofs.Common.{◌≡◌, ℕ, Bool, true, false, List, [], ◌∷◌, ◌++◌, refl, sym, ap, ◌∙◌, append_assoc}
use Rattle.std.specs.Prelude.{◌||◌, nat_eq, not, Ok, Err}
use Rattle.std.specs.declared.result.Result.{Result}
use Rattle.std.specs.Bool.{OnTrue}
use Rattle.std.specs.List.{list_any}
use Rattle.std.specs.Ordering.{eq_by_cmp}
use Rattle.std.proofs.lemmas.List.{append-nil}
use Rattle.bl_value.specs.Cells.{cell, each_once, in_front, is_empty_cell, item_values, items, items_from, pieces_from, values_in, values_of}
use Rattle.bl_value.specs.ItemsLeft.{with_values}
use Rattle.bl_value.specs.Once.{once_behind}
use Rattle.bl_value.specs.Order.{value_cmp}
use Rattle.bl_value.specs.declared.cell.CellRefusal.{CellRefusal}
use Rattle.bl_value.specs.declared.value.Value.{Value}
use Rattle.bl_value.specs.declared.value_type.ValueType.{ValueType}
use Rattle.bl_value.proofs.OnceValues.{derived, same_order}
use Rattle.bl_value.proofs.Repeats.{once_more}

abbrev Values : Type 0
Values = Result (List Value) CellRefusal

-- the values behind none are each once
pub behind_none : (found : Values) → with_values [] found ≡ each_once found
behind_none (Ok values) = refl
behind_none (Err refusal) = refl

follow : (before after : List Value) (first others : Values) → with_values before first ≡ Ok after → with_values before (in_front first others) ≡ with_values after others
follow before after (Err refusal) others is = absurd cc
follow before after (Ok values) (Err refusal) is = refl
follow before after (Ok values) (Ok more) is =
    let same : before ++ once_behind (eq_by_cmp value_cmp) before values ≡ after = cc in
    ap Ok (once_more (eq_by_cmp value_cmp) before values more ∙ ap (λ front. front ++ once_behind (eq_by_cmp value_cmp) front more) same)

-- one more item's values behind those so far
pub values_more : (kind : ValueType) (before after : List Value) (item : List ℕ) (others : List (List ℕ)) → with_values before (values_in kind item) ≡ Ok after
    → with_values before (item_values kind (item ∷ others)) ≡ with_values after (item_values kind others)
values_more kind before after item others is = follow before after (values_in kind item) (item_values kind others) is

refused : (before : List Value) (first others : Values) (refusal : CellRefusal) → first ≡ Err refusal → with_values before (in_front first others) ≡ Err refusal
refused before (Err other) others refusal is = cc
refused before (Ok values) others refusal is = absurd cc

-- an item that is refused in front of others
pub values_refused : (kind : ValueType) (before : List Value) (item : List ℕ) (others : List (List ℕ)) (refusal : CellRefusal) → values_in kind item ≡ Err refusal
    → with_values before (item_values kind (item ∷ others)) ≡ Err refusal
values_refused kind before item others refusal is = refused before (values_in kind item) (item_values kind others) refusal is

alone : (found : Values) → each_once (in_front found (Ok [])) ≡ each_once found
alone (Err refusal) = refl
alone (Ok values) = ap (λ all. each_once (Ok all)) (append-nil values)

-- the values of a cell that is its own one item
pub one_item : (kind : ValueType) (cell : List ℕ) → items cell ≡ cell ∷ [] → values_of kind true cell ≡ each_once (values_in kind cell)
one_item kind cell is = ap (λ found. each_once (item_values kind found)) is ∙ alone (values_in kind cell)

neither : (a b : Bool) → (a || b) ≡ false → (a ≡ false) × (b ≡ false)
neither false false is = (refl, refl)
neither false true is = (refl, is)
neither true b is = cc

plain_from : (begun cell : List ℕ) → list_any (λ byte. nat_eq byte 59) cell ≡ false → list_any (λ byte. nat_eq byte 92) cell ≡ false
    → items_from begun (pieces_from false cell) ≡ (begun ++ cell) ∷ []
plain_from begun [] undivided unescaped = ap (λ item. item ∷ []) (sym (append-nil begun))
plain_from begun (byte ∷ rest) undivided unescaped =
    let first = neither (nat_eq byte 59) (list_any (λ b. nat_eq b 59) rest) undivided in
    let second = neither (nat_eq byte 92) (list_any (λ b. nat_eq b 92) rest) unescaped in
    rw (second.0, first.0) (plain_from (begun ++ byte ∷ []) rest first.1 second.1 ∙ ap (λ item. item ∷ []) (append_assoc begun (byte ∷ []) rest))

-- a cell without a semicolon and a backslash is its own one item
pub plain_items : (cell : List ℕ) → list_any (λ byte. nat_eq byte 59) cell ≡ false → list_any (λ byte. nat_eq byte 92) cell ≡ false → items cell ≡ cell ∷ []
plain_items cell undivided unescaped = plain_from [] cell undivided unescaped

pub one_where : (backslash : Bool) (cell : List ℕ) → list_any (λ byte. nat_eq byte 59) cell ≡ false → backslash ≡ list_any (λ byte. nat_eq byte 92) cell
    → OnTrue (not backslash) (items cell ≡ cell ∷ [])
one_where true cell undivided is = tt
one_where false cell undivided is = plain_items cell undivided (sym is)

-- one more value behind those so far, unless it is there
pub value_pushed : (kind : ValueType) (item : List ℕ) (before after : List Value) (value : Value) → is_empty_cell kind item ≡ false → cell kind item ≡ Ok value
    → after ≡ before ++ once_behind (eq_by_cmp derived) before (value ∷ []) → with_values before (values_in kind item) ≡ Ok after
value_pushed kind item before after value some is after_is =
    rw (some, is) (ap Ok (ap (λ cmp. before ++ once_behind (eq_by_cmp cmp) before (value ∷ [])) (sym same_order) ∙ sym after_is))
