-- The properties of a record without a fault are valid.
use Rattle.std.specs.Prelude.{◌≡◌, ◌==◌, ◌+◌, ◌≤◌, ℕ, nat_eq, Bool, true, false, ◌&&◌, cond, List, [], ◌∷◌, ◌++◌, length, map, sum_by, Ok, Err, refl}
use Rattle.std.specs.declared.result.Result.{Result}
use Rattle.std.specs.List.{All, AllByRecursion, IsDistinct}
use Rattle.std.specs.Ordering.{eq_by_cmp}
use Rattle.std.specs.Cmp.Lexicographic.{pointwise}
use Rattle.std.proofs.Common.{◌∙◌, sym, ap, arith}
use Rattle.std.proofs.lemmas.List.Elements.{All-nil, All-cons, All-head, All-tail, All-append}
use Rattle.std.proofs.lemmas.List.Sums.{sum_by-append, sum_by-cons}
use Rattle.std.proofs.lemmas.Map.Keys.{IsDistinct-cons, IsDistinct-head, IsDistinct-tail}
use Rattle.bl_value.specs.Cells.{cell, each_once, is_empty_cell, item_values, items, one_value, values_in as item_values_in}
use Rattle.bl_value.specs.Order.{value_cmp}
use Rattle.bl_value.specs.declared.value.Value.{Value}
use Rattle.bl_value.specs.declared.cell.CellRefusal.{CellRefusal}
use Rattle.bl_value.specs.declared.column.Side.{Side}
use Rattle.bl_value.specs.declared.column.Side.TheVariants as side
use Rattle.bl_value.specs.declared.column.Column.{Column}
use Rattle.bl_value.specs.declared.column.ColumnUse.{ColumnUse}
use Rattle.bl_value.specs.declared.column.ColumnUse.TheVariants.{Id, Label, From, To, Property}
use Rattle.bl_value.specs.declared.row.Property.{Property as RowProperty}
use Rattle.bl_rows.specs.Contents.{Fields}
use Rattle.bl_rows.specs.FirstFaults.{values_in_all}
use Rattle.bl_rows.specs.Rows.{properties_from, property_in, values_in, values_or_none}
use Rattle.bl_value.specs.ValidColumns.{IsColumn, IsColumnUse, is_same_use}
use Rattle.bl_value.specs.ValidRows.{AreApart, AreProperties, HasValues, IsProperty}
use Rattle.bl_value.proofs.OnceValues.{values_apart}
use Rattle.bl_value.proofs.Repeats.{none_apart}

apart_by : (found : Result (List Value) CellRefusal) → IsDistinct (eq_by_cmp value_cmp) (values_or_none (each_once found))
apart_by (Ok all) = values_apart all
apart_by (Err refused) = none_apart (eq_by_cmp value_cmp)

-- a cell that isn't an array has one value at most
one_by : (test : Bool) (found : Result Value CellRefusal) → length (values_or_none (each_once (cond test (Ok []) (one_value found)))) ≤ 1
one_by true found = omega arith
one_by false (Ok value) = omega arith
one_by false (Err refused) = omega arith

single_value : (column : Column) (bytes : List ℕ) (single many : Bool) → column.many ≡ many → (single && many) ≡ false → single ≡ true → length (values_in column bytes) ≤ 1
single_value column bytes true true many_is one is = cc one
single_value column bytes true false many_is one is = rw many_is (one_by (is_empty_cell column.kind bytes) (cell column.kind bytes))
single_value column bytes false many many_is one is = cc is

some_values : (values : List Value) → length values == 0 ≡ false → 1 ≤ length values
some_values [] is = cc is
some_values (value ∷ values) is = omega arith

-- the property of a cell that has values
abbrev made : ℕ → Column → List ℕ → RowProperty
made number column bytes = record { key = column.name; column = number; single = column.single; values = values_in column bytes }

made_is : (side : Side) (number : ℕ) (column : Column) (bytes : List ℕ) → IsColumn side column → length (values_in column bytes) == 0 ≡ false → HasValues (made number column bytes)
    → length (values_in column bytes) ≤ 4096 → IsProperty (made number column bytes)
made_is side number column bytes proper some has few =
    record {
      key = proper.name;
      each = has;
      some = some_values _ some;
      few = omega (arith, few);
      differ = apart_by (cond column.many (item_values column.kind (items bytes)) (item_values_in column.kind bytes));
      one = λ is. omega (arith, single_value column bytes column.single column.many refl proper.one is, some_values (values_in column bytes) some);
    }

property_is : (side : Side) (number : ℕ) (role : ColumnUse) (bytes : List ℕ) → IsColumnUse side role → All HasValues (property_in number role bytes) → values_in_all (property_in number role bytes) ≤ 4096
    → All IsProperty (property_in number role bytes)
property_is side number Id bytes proper has few = All-nil IsProperty
property_is side number Label bytes proper has few = All-nil IsProperty
property_is side number From bytes proper has few = All-nil IsProperty
property_is side number To bytes proper has few = All-nil IsProperty
property_is side number (Property column) bytes proper has few = by (length (values_in column bytes) == 0) refl has few
  where
    by : (test : Bool) → length (values_in column bytes) == 0 ≡ test → All HasValues (cond test [] (made number column bytes ∷ [])) → values_in_all (cond test [] (made number column bytes ∷ [])) ≤ 4096
        → All IsProperty (property_in number (Property column) bytes)
    by true is all small = rw is (All-nil IsProperty)
    by false is all small = rw is (All-cons IsProperty (made number column bytes) [] (made_is side number column bytes proper is (All-head HasValues (made number column bytes) [] all) (omega (arith, small))) (All-nil IsProperty))

all_left : (P : RowProperty → Type 0) (xs ys : List RowProperty) → All P (xs ++ ys) → All P xs
all_left P [] ys all = All-nil P
all_left P (x ∷ xs) ys all = All-cons P x xs (All-head P x (xs ++ ys) all) (all_left P xs ys (All-tail P x (xs ++ ys) all))

all_right : (P : RowProperty → Type 0) (xs ys : List RowProperty) → All P (xs ++ ys) → All P ys
all_right P [] ys all = all
all_right P (x ∷ xs) ys all = all_right P xs ys (All-tail P x (xs ++ ys) all)

each_property : (side : Side) (number : ℕ) (uses : List ColumnUse) (fields : Fields) → All (IsColumnUse side) uses → All HasValues (properties_from number uses fields)
    → values_in_all (properties_from number uses fields) ≤ 4096 → All IsProperty (properties_from number uses fields)
each_property side number [] fields proper has few = All-nil IsProperty
each_property side number (role ∷ uses) [] proper has few = All-nil IsProperty
each_property side number (role ∷ uses) (field ∷ fields) proper has few =
    let here = property_in number role field in
    let rest = properties_from (number + 1) uses fields in
    let count = sum_by-append (λ (property : RowProperty). length property.values) here rest in
    All-append IsProperty here rest
    (property_is side number role field (All-head (IsColumnUse side) role uses proper) (all_left HasValues here rest has) (omega (arith, count, few)))
    (each_property side (number + 1) uses fields (All-tail (IsColumnUse side) role uses proper) (all_right HasValues here rest has) (omega (arith, count, few)))

-- there are no more properties than values
fewer : (properties : List RowProperty) → All IsProperty properties → length properties ≤ values_in_all properties
fewer [] all = omega arith
fewer (property ∷ properties) all =
    omega (arith, (All-head IsProperty property properties all).some, sum_by-cons (λ (p : RowProperty). length p.values) property properties, fewer properties (All-tail IsProperty property properties all))

-- the keys of properties
abbrev keys_of : List RowProperty → List (List ℕ)
keys_of properties = map (λ property. property.key) properties

no_keys : AreApart []
unfolding IsDistinct
no_keys = tt

other_keys : (name : List ℕ) (column : Column) (number : ℕ) (uses : List ColumnUse) (fields : Fields) → column.name ≡ name
    → AllByRecursion (λ role. is_same_use (Property column) role ≡ false) uses → AllByRecursion (λ key. pointwise nat_eq name key ≡ false) (keys_of (properties_from number uses fields))
other_keys name column number [] fields is apart = tt
other_keys name column number (role ∷ uses) [] is apart = tt
other_keys name column number (Id ∷ uses) (field ∷ fields) is apart = other_keys name column (number + 1) uses fields is apart.1
other_keys name column number (Label ∷ uses) (field ∷ fields) is apart = other_keys name column (number + 1) uses fields is apart.1
other_keys name column number (From ∷ uses) (field ∷ fields) is apart = other_keys name column (number + 1) uses fields is apart.1
other_keys name column number (To ∷ uses) (field ∷ fields) is apart = other_keys name column (number + 1) uses fields is apart.1
other_keys name column number (Property other ∷ uses) (field ∷ fields) is apart =
    by (length (values_in other field) == 0) refl (other_keys name column (number + 1) uses fields is apart.1)
  where
    by : (test : Bool) → length (values_in other field) == 0 ≡ test → AllByRecursion (λ key. pointwise nat_eq name key ≡ false) (keys_of (properties_from (number + 1) uses fields))
        → AllByRecursion (λ key. pointwise nat_eq name key ≡ false) (keys_of (properties_from number (Property other ∷ uses) (field ∷ fields)))
    by true empty rest = rw empty rest
    by false some rest = rw some (ap (λ n. pointwise nat_eq n other.name) (sym is) ∙ apart.0, rest)

keys_apart : (number : ℕ) (uses : List ColumnUse) (fields : Fields) → IsDistinct is_same_use uses → AreApart (keys_of (properties_from number uses fields))
keys_apart number [] fields differ = no_keys
keys_apart number (role ∷ uses) [] differ = no_keys
keys_apart number (Id ∷ uses) (field ∷ fields) differ = keys_apart (number + 1) uses fields (IsDistinct-tail is_same_use Id uses differ)
keys_apart number (Label ∷ uses) (field ∷ fields) differ = keys_apart (number + 1) uses fields (IsDistinct-tail is_same_use Label uses differ)
keys_apart number (From ∷ uses) (field ∷ fields) differ = keys_apart (number + 1) uses fields (IsDistinct-tail is_same_use From uses differ)
keys_apart number (To ∷ uses) (field ∷ fields) differ = keys_apart (number + 1) uses fields (IsDistinct-tail is_same_use To uses differ)
keys_apart number (Property column ∷ uses) (field ∷ fields) differ =
    by (length (values_in column field) == 0) refl (keys_apart (number + 1) uses fields (IsDistinct-tail is_same_use (Property column) uses differ))
  where
    by : (test : Bool) → length (values_in column field) == 0 ≡ test → AreApart (keys_of (properties_from (number + 1) uses fields))
        → AreApart (keys_of (properties_from number (Property column ∷ uses) (field ∷ fields)))
    by true empty rest = rw empty rest
    by false some rest =
        rw some (IsDistinct-cons (pointwise nat_eq) column.name (keys_of (properties_from (number + 1) uses fields))
        (other_keys column.name column (number + 1) uses fields refl (IsDistinct-head is_same_use (Property column) uses differ)) rest)

pub properties_are : (side : Side) (uses : List ColumnUse) (fields : Fields) → All (IsColumnUse side) uses → IsDistinct is_same_use uses → All HasValues (properties_from 1 uses fields)
    → values_in_all (properties_from 1 uses fields) ≤ 4096 → AreProperties (properties_from 1 uses fields)
properties_are side uses fields proper differ has few =
    let each = each_property side 1 uses fields proper has few in
    record { each = each; few = omega (arith, fewer (properties_from 1 uses fields) each, few); differ = keys_apart 1 uses fields differ }

-- the properties of an edge are single
single_in : (number : ℕ) (role : ColumnUse) (bytes : List ℕ) → IsColumnUse side.Edge role → All (λ property. property.single ≡ true) (property_in number role bytes)
single_in number Id bytes proper = All-nil _
single_in number Label bytes proper = All-nil _
single_in number From bytes proper = All-nil _
single_in number To bytes proper = All-nil _
single_in number (Property column) bytes proper = by (length (values_in column bytes) == 0) refl
  where
    by : (test : Bool) → length (values_in column bytes) == 0 ≡ test → All (λ property. property.single ≡ true) (property_in number (Property column) bytes)
    by true is = rw is (All-nil _)
    by false is = rw is (All-cons (λ property. property.single ≡ true) (made number column bytes) [] (proper.edge refl) (All-nil _))

pub singles : (number : ℕ) (uses : List ColumnUse) (fields : Fields) → All (IsColumnUse side.Edge) uses → All (λ property. property.single ≡ true) (properties_from number uses fields)
singles number [] fields proper = All-nil _
singles number (role ∷ uses) [] proper = All-nil _
singles number (role ∷ uses) (field ∷ fields) proper =
    All-append (λ property. property.single ≡ true) (property_in number role field) (properties_from (number + 1) uses fields)
    (single_in number role field (All-head (IsColumnUse side.Edge) role uses proper))
    (singles (number + 1) uses fields (All-tail (IsColumnUse side.Edge) role uses proper))
