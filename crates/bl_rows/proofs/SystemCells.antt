-- The ids and labels of a record without a fault are valid.
use Rattle.std.specs.Prelude.{◌≡◌, nat_eq, ◌⊎◌, ◌==◌, ◌<◌, ◌≤◌, ℕ, zero, suc, Bool, true, false, not, ◌&&◌, cond, codes, List, [], ◌∷◌, length, filter, map, slice_get, None, Some, refl}
use Rattle.std.specs.List.{All, Contains, list_all}
use Rattle.std.specs.Str.{IsUtf8}
use Rattle.std.specs.Cmp.Lexicographic.{pointwise}
use Rattle.std.proofs.lemmas.Cmp.{nat_list_eq_equiv}
use Rattle.std.proofs.Common.{◌∙◌, sym, ap, subst, arith, inl, inr, eqb-true, leb-true}
use Rattle.std.proofs.lemmas.Option.{slice_get-get_or}
use Rattle.std.proofs.lemmas.Str.{IsUtf8-from_ascii}
use Rattle.std.proofs.lemmas.Str.Ascii.{IsAscii-from_all}
use Rattle.std.proofs.lemmas.List.Elements.{All-nil, All-cons, All-head, All-tail, All-map, All-weaker}
use Rattle.bl_value.specs.Cells.{items, without_spaces}
use Rattle.bl_value.specs.Valid.{IsId}
use Rattle.bl_value.specs.declared.column.Side.{Side}
use Rattle.bl_value.specs.declared.column.Side.TheVariants as side
use Rattle.bl_value.specs.declared.column.Columns.{Columns}
use Rattle.bl_value.specs.declared.column.ColumnUse.{ColumnUse}
use Rattle.bl_value.specs.declared.column.ColumnUse.TheVariants.{Id, Label, From, To, Property}
use Rattle.bl_value.specs.declared.log_code.LogCode.{LogCode}
use Rattle.bl_value.specs.declared.log_code.LogCode.TheVariants.{MissingId, IdTooLong}
use Rattle.bl_rows.specs.Contents.{Fields}
use Rattle.bl_rows.specs.FirstFaults.{long_code, missing_code}
use Rattle.bl_rows.specs.Rows.{edge_label, is_key_use, is_label_use, is_long, is_long_label, is_missing, is_short, labels_in, system_cell}
use Rattle.bl_value.specs.ValidRows.{AreLabels}
use Rattle.bl_rows.proofs.FirstCells.{silent}
use Rattle.bl_value.proofs.ItemTexts.{items_are_utf8}
use Rattle.bl_value.proofs.Repeats.{all_once, none_apart, once_apart}
use Rattle.bl_rows.proofs.RowFaults.{KeptBelow, text_at}
use Rattle.bl_rows.proofs.Texts.{texts_of}
use Rattle.bl_rows.proofs.TrimmedTexts.{utf8_without_spaces}

-- a system cell was found in this column
pub record IsFoundIn (is_wanted : ColumnUse → Bool) (uses : List ColumnUse) (fields : Fields) : Type 0 where
  pub place : ℕ
  pub role : ColumnUse
  pub field : List ℕ
  pub use_is : slice_get uses place ≡ Some role
  pub field_is : slice_get fields place ≡ Some field
  pub wanted_is : is_wanted role ≡ true
  pub cell_is : system_cell is_wanted uses fields ≡ without_spaces field

-- or there is no such column, and the cell is empty
abbrev pub IsMissingIn : (ColumnUse → Bool) → List ColumnUse → Fields → Type 0
IsMissingIn is_wanted uses fields =
    (system_cell is_wanted uses fields ≡ []) × ((place : ℕ) (role : ColumnUse) → slice_get uses place ≡ Some role → place < length fields → is_wanted role ≡ false)

pub found_or : (is_wanted : ColumnUse → Bool) (uses : List ColumnUse) (fields : Fields) → IsFoundIn is_wanted uses fields ⊎ IsMissingIn is_wanted uses fields
found_or is_wanted [] fields = inr (refl, λ place role at within. cc at)
found_or is_wanted (r ∷ uses) [] = inr (refl, λ place role at within. absurd (omega (arith, within)))
found_or is_wanted (r ∷ uses) (f ∷ fields) = by (is_wanted r) refl (found_or is_wanted uses fields)
  where
    by : (test : Bool) → is_wanted r ≡ test → IsFoundIn is_wanted uses fields ⊎ IsMissingIn is_wanted uses fields
        → IsFoundIn is_wanted (r ∷ uses) (f ∷ fields) ⊎ IsMissingIn is_wanted (r ∷ uses) (f ∷ fields)
    by true is more = inl (record { place = zero; role = r; field = f; use_is = refl; field_is = refl; wanted_is = is; cell_is = rw is refl })
    by false is (inl found) =
        inl (record { place = suc found.place; role = found.role; field = found.field; use_is = found.use_is; field_is = found.field_is; wanted_is = found.wanted_is; cell_is = rw is found.cell_is })
    by false is (inr (empty, missing)) = inr (rw is empty, later)
      where
        later : (place : ℕ) (role : ColumnUse) → slice_get (r ∷ uses) place ≡ Some role → place < length (f ∷ fields) → is_wanted role ≡ false
        later zero role at within = ap is_wanted (sym (same_use r role at)) ∙ is
          where
            same_use : (a b : ColumnUse) → Some a ≡ Some b → a ≡ b
            same_use a b same = cc same
        later (suc place) role at within = missing place role at (omega (arith, within))

not_some : (test : Bool) (code : LogCode) → cond test (Some code) None ≡ None → test ≡ false
not_some true code is = cc is
not_some false code is = refl

some_length : (text : List ℕ) → length text == 0 ≡ false → 1 ≤ length text
some_length [] is = cc is
some_length (byte ∷ text) is = omega arith

not_false : (test : Bool) → not test ≡ false → test ≡ true
not_false true is = refl
not_false false is = cc is

-- what the rules about ids say of a cell
id_rules : (side : Side) (role : ColumnUse) (field : List ℕ) → is_key_use side role ≡ true → is_missing side role field ≡ false → is_long side role field ≡ false
    → (1 ≤ length (without_spaces field)) × (length (without_spaces field) ≤ 1024)
id_rules side.Vertex Id field key missing long = (some_length _ missing, leb-true _ 1024 (not_false _ long))
id_rules side.Edge Id field key missing long = (some_length _ missing, leb-true _ 1024 (not_false _ long))
id_rules side.Edge From field key missing long = (some_length _ missing, leb-true _ 1024 (not_false _ long))
id_rules side.Edge To field key missing long = (some_length _ missing, leb-true _ 1024 (not_false _ long))
id_rules side.Vertex From field key missing long = cc key
id_rules side.Vertex To field key missing long = cc key
id_rules side.Vertex Label field key missing long = cc key
id_rules side.Edge Label field key missing long = cc key
id_rules side.Vertex (Property column) field key missing long = cc key
id_rules side.Edge (Property column) field key missing long = cc key

contained : (uses : List ColumnUse) (role : ColumnUse) → Contains uses role → (place : ℕ) × (place < length uses) × (slice_get uses place ≡ Some role)
contained uses role (k, within, is) = (k, within, slice_get-get_or uses k role within ∙ ap Some is)

-- the id in a column that the file has
pub id_is : (columns : Columns) (fields : Fields) → KeptBelow columns fields 8 → (is_wanted : ColumnUse → Bool) (role : ColumnUse) → is_wanted role ≡ true
    → ((other : ColumnUse) → is_wanted other ≡ true → is_key_use columns.side other ≡ true) → Contains columns.uses role → IsId (system_cell is_wanted columns.uses fields)
id_is columns fields kept is_wanted role wanted_is all_keys contains = by (found_or is_wanted columns.uses fields)
  where
    by : IsFoundIn is_wanted columns.uses fields ⊎ IsMissingIn is_wanted columns.uses fields → IsId (system_cell is_wanted columns.uses fields)
    by (inl found) =
        let missing = silent (missing_code columns.side) 1 columns.uses fields (kept.ids (omega arith)) found.place found.role found.field found.use_is found.field_is in
        let long = silent (long_code columns.side) 1 columns.uses fields (kept.lengths (omega arith)) found.place found.role found.field found.use_is found.field_is in
        let bounds = id_rules columns.side found.role found.field (all_keys found.role found.wanted_is) (not_some _ MissingId missing) (not_some _ IdTooLong long) in
        subst IsId (sym found.cell_is) (record {
          utf8 = utf8_without_spaces found.field (text_at fields found.place found.field (texts_of fields (kept.utf8 (omega arith))) found.field_is);
          some = bounds.0;
          short = bounds.1;
        })
    by (inr (empty, missing)) =
        let (place, within, at) = contained columns.uses role contains in
        absurd (both_ways (is_wanted role) wanted_is (missing place role at (omega (arith, within, eqb-true (length fields) (length columns.uses) (kept.count (omega arith))))))
      where
        both_ways : (test : Bool) → test ≡ true → test ≡ false → ⊥
        both_ways test a b = cc (a, b)

-- the label cell
label_facts : (columns : Columns) (fields : Fields) → KeptBelow columns fields 8
    → (system_cell is_label_use columns.uses fields ≡ []) ⊎ (IsUtf8 (system_cell is_label_use columns.uses fields) × (is_long_label columns.side (system_cell is_label_use columns.uses fields) ≡ false))
label_facts columns fields kept = by (found_or is_label_use columns.uses fields)
  where
    long_label : (role : ColumnUse) (field : List ℕ) → is_label_use role ≡ true → is_long columns.side role field ≡ false → is_long_label columns.side (without_spaces field) ≡ false
    long_label Label field is long = long
    long_label Id field is long = cc is
    long_label From field is long = cc is
    long_label To field is long = cc is
    long_label (Property column) field is long = cc is

    by : IsFoundIn is_label_use columns.uses fields ⊎ IsMissingIn is_label_use columns.uses fields
        → (system_cell is_label_use columns.uses fields ≡ []) ⊎ (IsUtf8 (system_cell is_label_use columns.uses fields) × (is_long_label columns.side (system_cell is_label_use columns.uses fields) ≡ false))
    by (inr (empty, missing)) = inl empty
    by (inl found) =
        let long = silent (long_code columns.side) 1 columns.uses fields (kept.lengths (omega arith)) found.place found.role found.field found.use_is found.field_is in
        inr (rw found.cell_is (
          utf8_without_spaces found.field (text_at fields found.place found.field (texts_of fields (kept.utf8 (omega arith))) found.field_is),
          long_label found.role found.field found.wanted_is (not_some _ IdTooLong long),
        ))

edge_ascii : All (λ byte. byte < 128) (codes "edge")
edge_ascii =
    All-cons (λ byte. byte < 128) 101 (100 ∷ 103 ∷ 101 ∷ []) (omega arith)
    (All-cons (λ byte. byte < 128) 100 (103 ∷ 101 ∷ []) (omega arith)
    (All-cons (λ byte. byte < 128) 103 (101 ∷ []) (omega arith) (All-cons (λ byte. byte < 128) 101 [] (omega arith) (All-nil (λ byte. byte < 128)))))

edge_is_id : IsId (codes "edge")
edge_is_id = record { utf8 = IsUtf8-from_ascii (codes "edge") (IsAscii-from_all (codes "edge") edge_ascii); some = omega arith; short = omega arith }

true_false : true ≡ false → ⊥
true_false is = cc is

edge_label_by : (label_cell : List ℕ) → (label_cell ≡ []) ⊎ (IsUtf8 label_cell × (is_long_label side.Edge label_cell ≡ false)) → IsId (edge_label label_cell)
edge_label_by label_cell facts = by (length label_cell == 0) refl facts
  where
    by : (test : Bool) → length label_cell == 0 ≡ test → (label_cell ≡ []) ⊎ (IsUtf8 label_cell × (is_long_label side.Edge label_cell ≡ false)) → IsId (edge_label label_cell)
    by true is facts = rw is edge_is_id
    by false is (inl empty) = absurd (true_false (ap (λ c. length c == 0) (sym empty) ∙ is))
    by false is (inr (text, long)) = rw is (record { utf8 = text; some = some_length label_cell is; short = leb-true (length label_cell) 1024 (not_false (is_short label_cell) long) })

pub edge_label_is : (columns : Columns) (fields : Fields) → KeptBelow columns fields 8 → columns.side ≡ side.Edge → IsId (edge_label (system_cell is_label_use columns.uses fields))
edge_label_is columns fields kept edge =
    edge_label_by (system_cell is_label_use columns.uses fields)
    (subst (λ s. (system_cell is_label_use columns.uses fields ≡ []) ⊎ (IsUtf8 (system_cell is_label_use columns.uses fields) × (is_long_label s (system_cell is_label_use columns.uses fields) ≡ false))) edge (label_facts columns fields kept))

-- the labels of a vertex
short_each : (labels : List (List ℕ)) → list_all is_short labels ≡ true → All (λ label. length label ≤ 1024) labels
short_each [] all = All-nil _
short_each (label ∷ labels) all = by (is_short label) refl all (short_each labels)
  where
    by : (test : Bool) → is_short label ≡ test → (test && list_all is_short labels) ≡ true → (list_all is_short labels ≡ true → All (λ l. length l ≤ 1024) labels)
        → All (λ l. length l ≤ 1024) (label ∷ labels)
    by true is rest more = All-cons (λ l. length l ≤ 1024) label labels (leb-true _ 1024 is) (more rest)
    by false is rest more = cc rest

-- a text that isn't empty
abbrev IsSomeText : List ℕ → Type 0
IsSomeText text = IsUtf8 text × (1 ≤ length text)

some_each : (texts : List (List ℕ)) → All IsUtf8 texts → All IsSomeText (filter (λ label. not (length label == 0)) texts)
some_each [] all = All-nil _
some_each (text ∷ texts) all = by (length text == 0) refl (some_each texts (All-tail IsUtf8 text texts all))
  where
    by : (test : Bool) → length text == 0 ≡ test → All IsSomeText (filter (λ label. not (length label == 0)) texts) → All IsSomeText (filter (λ label. not (length label == 0)) (text ∷ texts))
    by true is more = rw is more
    by false is more = rw is (All-cons IsSomeText text _ (All-head IsUtf8 text texts all, some_length text is) more)

labels_some : (label_cell : List ℕ) → IsUtf8 label_cell → All IsSomeText (labels_in label_cell)
labels_some label_cell text =
    all_once IsSomeText (pointwise nat_eq) [] _ (some_each (map without_spaces (items label_cell))
    (All-map IsUtf8 without_spaces (items label_cell) (All-weaker IsUtf8 (λ item. IsUtf8 (without_spaces item)) utf8_without_spaces (items label_cell) (items_are_utf8 label_cell text))))

all_both : (P Q R : List ℕ → Type 0) → ((x : List ℕ) → P x → Q x → R x) → (xs : List (List ℕ)) → All P xs → All Q xs → All R xs
all_both P Q R both [] p q = All-nil R
all_both P Q R both (x ∷ xs) p q = All-cons R x xs (both x (All-head P x xs p) (All-head Q x xs q)) (all_both P Q R both xs (All-tail P x xs p) (All-tail Q x xs q))

labels_by : (label_cell : List ℕ) → (label_cell ≡ []) ⊎ (IsUtf8 label_cell × (is_long_label side.Vertex label_cell ≡ false)) → All IsId (labels_in label_cell)
labels_by label_cell (inl is) = subst (λ c. All IsId (labels_in c)) (sym is) (All-nil IsId)
labels_by label_cell (inr (text, long)) =
    all_both IsSomeText (λ label. length label ≤ 1024) IsId (λ label some short. record { utf8 = some.0; some = some.1; short = short })
    (labels_in label_cell) (labels_some label_cell text) (short_each (labels_in label_cell) (not_false _ long))

pub labels_are : (columns : Columns) (fields : Fields) → KeptBelow columns fields 8 → columns.side ≡ side.Vertex → length (labels_in (system_cell is_label_use columns.uses fields)) ≤ 4096
    → AreLabels (labels_in (system_cell is_label_use columns.uses fields))
labels_are columns fields kept vertex few =
    let cell = system_cell is_label_use columns.uses fields in
    record {
      each = labels_by cell (subst (λ s. (cell ≡ []) ⊎ (IsUtf8 cell × (is_long_label s cell ≡ false))) vertex (label_facts columns fields kept));
      few = omega (arith, few);
      differ = once_apart (pointwise nat_eq) nat_list_eq_equiv [] _ (none_apart (pointwise nat_eq));
    }
