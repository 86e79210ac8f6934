-- The fields of a record that passed the test of UTF-8.
use Rattle.std.specs.Prelude.{◌≡◌, ℕ, Bool, true, false, ◌&&◌, ◌==◌, List, length, None, Some, [], ◌∷◌, refl}
use Rattle.std.proofs.Common.{sym}
use Rattle.bl_value.specs.declared.column.Columns.{Columns}
use Rattle.bl_value.specs.declared.log_code.LogCode.{LogCode}
use Rattle.bl_rows.specs.Contents.{Fields}
use Rattle.bl_rows.specs.FirstFaults.{are_small, whole_code}
use Rattle.std.specs.List.{All, list_all}
use Rattle.std.specs.Str.{IsUtf8, is_utf8}
use Rattle.std.proofs.lemmas.Str.{IsUtf8-from_is_utf8}
use Rattle.std.proofs.lemmas.List.Elements.{All-nil, All-cons}

some_none : (code : LogCode) → None ≡ Some code → ⊥
some_none code is = cc is

pub both : (a b : Bool) → (a && b) ≡ true → (a ≡ true) × (b ≡ true)
both true b h = (refl, h)
both false b h = absurd (cc)

pub texts_of : (fields : List (List ℕ)) → list_all is_utf8 fields ≡ true → All IsUtf8 fields
texts_of [] h = All-nil IsUtf8
texts_of (field ∷ fields) h =
    let parts : (is_utf8 field ≡ true) × (list_all is_utf8 fields ≡ true) = both _ _ h in
    All-cons IsUtf8 field fields (IsUtf8-from_is_utf8 field parts.0) (texts_of fields parts.1)

-- the three tests of a record as a whole
pub record IsWhole (columns : Columns) (fields : Fields) : Type 0 where
  pub count : (length fields == length columns.uses) ≡ true
  pub utf8 : list_all is_utf8 fields ≡ true
  pub small : are_small fields ≡ true

whole_by : (columns : Columns) (fields : Fields) (a b c : Bool) → length fields == length columns.uses ≡ a → list_all is_utf8 fields ≡ b → are_small fields ≡ c
    → whole_code columns fields ≡ None → IsWhole columns fields
whole_by columns fields true true true count utf8 small none = record { count = count; utf8 = utf8; small = small }
whole_by columns fields true true false count utf8 small none = absurd (some_none _ (sym (rw (count, utf8, small) at none)))
whole_by columns fields true false c count utf8 small none = absurd (some_none _ (sym (rw (count, utf8) at none)))
whole_by columns fields false b c count utf8 small none = absurd (some_none _ (sym (rw count at none)))

-- they are passed where no code is told
pub whole_record : (columns : Columns) (fields : Fields) → whole_code columns fields ≡ None → IsWhole columns fields
whole_record columns fields none = whole_by columns fields _ _ _ refl refl refl none
