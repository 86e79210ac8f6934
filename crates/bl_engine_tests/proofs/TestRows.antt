-- The rows of tests.
use Rattle.std.proofs.Common.{◌≡◌, ◌≤◌, ℕ, List, [], ◌∷◌, ◌++◌, length, true, sym, ◌∙◌, ap, subst, arith}
use Rattle.std.specs.List.{All, IsDistinct}
use Rattle.std.proofs.lemmas.List.Elements.{All-nil, All-cons, All-push}
use Rattle.bl_value.specs.Valid.{IsId}
use Rattle.bl_value.specs.ValidRows.{AreApart, AreLabels, AreProperties, IsProperty, IsRow}
use Rattle.bl_value.specs.declared.row.Property.{Property}
use Rattle.bl_value.specs.declared.row.DigestRow.{DigestRow}
use Rattle.bl_job.specs.Batched.{AreValidRows}

none_apart : AreApart []
unfolding IsDistinct
none_apart = tt

one_apart : (text : List ℕ) → AreApart (text ∷ [])
unfolding IsDistinct
one_apart text = (tt, tt)

pub one_label : (none labels : List (List ℕ)) (label : List ℕ) → none ≡ [] → labels ≡ none ++ label ∷ [] → IsId label → AreLabels labels
one_label none labels label empty is valid = subst AreLabels (sym (is ∙ ap (λ (l : List (List ℕ)). l ++ label ∷ []) empty)) (record {
  each = All-cons IsId label [] valid (All-nil IsId);
  few = omega arith;
  differ = one_apart label;
})

pub no_properties : (properties : List Property) → properties ≡ [] → AreProperties properties
no_properties properties is = subst AreProperties (sym is) (record { each = All-nil IsProperty; few = omega arith; differ = none_apart })

pub none_single : (properties : List Property) → properties ≡ [] → All (λ (property : Property). property.single ≡ true) properties
none_single properties is = subst (All (λ (property : Property). property.single ≡ true)) (sym is) (All-nil (λ (property : Property). property.single ≡ true))

pub one_more : (rows more : List DigestRow) (row : DigestRow) → more ≡ rows ++ row ∷ [] → AreValidRows rows → IsRow row.row → AreValidRows more
one_more rows more row is valid one = subst AreValidRows (sym is) (All-push (λ (r : DigestRow). IsRow r.row) rows row valid one)
