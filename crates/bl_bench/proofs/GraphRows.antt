-- The parts of rows.
use Rattle.std.proofs.Common.{◌≡◌, ◌≤◌, ℕ, Bool, List, [], ◌∷◌, ◌++◌, length, true, false, nat_eq, refl, sym, ◌∙◌, ap, subst, arith}
use Rattle.std.specs.List.{All, IsDistinct}
use Rattle.std.specs.Ordering.{eq_by_cmp}
use Rattle.std.specs.Cmp.Lexicographic.{pointwise}
use Rattle.std.proofs.lemmas.List.Elements.{All-nil, All-cons}
use Rattle.bl_value.specs.Order.{value_cmp}
use Rattle.bl_value.specs.Valid.{IsId, IsValue}
use Rattle.bl_value.specs.ValidRows.{AreApart, AreLabels, AreProperties, IsProperty}
use Rattle.bl_value.specs.declared.value.Value.{Value}
use Rattle.bl_value.specs.declared.row.Property.{Property}

one_apart : {X : Type 0} (alike : X → X → Bool) (item : X) → IsDistinct alike (item ∷ [])
unfolding IsDistinct
one_apart alike item = (tt, tt)

two_apart : {X : Type 0} (alike : X → X → Bool) (one other : X) → alike one other ≡ false → IsDistinct alike (one ∷ other ∷ [])
unfolding IsDistinct
two_apart alike one other differ = ((differ, tt), (tt, tt))

pub one_value : (none values : List Value) (value : Value) → none ≡ [] → values ≡ none ++ value ∷ [] → IsDistinct (eq_by_cmp value_cmp) values
one_value none values value empty is =
    subst (IsDistinct (eq_by_cmp value_cmp)) (sym (is ∙ ap (λ (l : List Value). l ++ value ∷ []) empty)) (one_apart (eq_by_cmp value_cmp) value)

pub one_label : (none labels : List (List ℕ)) (label : List ℕ) → none ≡ [] → labels ≡ none ++ label ∷ [] → IsId label → AreLabels labels
one_label none labels label empty is valid = subst AreLabels (sym (is ∙ ap (λ (l : List (List ℕ)). l ++ label ∷ []) empty)) (record {
  each = All-cons IsId label [] valid (All-nil IsId);
  few = omega arith;
  differ = one_apart (pointwise nat_eq) label;
})

pub one_property : (none properties : List Property) (property : Property) → none ≡ [] → properties ≡ none ++ property ∷ [] → IsProperty property → AreProperties properties
one_property none properties property empty is valid = subst AreProperties (sym (is ∙ ap (λ (l : List Property). l ++ property ∷ []) empty)) (record {
  each = All-cons IsProperty property [] valid (All-nil IsProperty);
  few = omega arith;
  differ = one_apart (pointwise nat_eq) property.key;
})

abbrev IsSingle : Property → Type 0
IsSingle property = property.single ≡ true

pub one_single : (none properties : List Property) (property : Property) → none ≡ [] → properties ≡ none ++ property ∷ [] → property.single ≡ true → All (λ (it : Property). it.single ≡ true) properties
one_single none properties property empty is single =
    subst (All IsSingle) (sym (is ∙ ap (λ (l : List Property). l ++ property ∷ []) empty)) (All-cons IsSingle property [] single (All-nil IsSingle))

pub two_properties : (none one both : List Property) (first second : Property) → none ≡ [] → one ≡ none ++ first ∷ [] → both ≡ one ++ second ∷ [] → IsProperty first → IsProperty second → pointwise nat_eq first.key second.key ≡ false → AreProperties both
two_properties none one both first second empty is more valid other differ =
    subst AreProperties (sym (more ∙ ap (λ (l : List Property). l ++ second ∷ []) (is ∙ ap (λ (l : List Property). l ++ first ∷ []) empty))) (record {
      each = All-cons IsProperty first (second ∷ []) valid (All-cons IsProperty second [] other (All-nil IsProperty));
      few = omega arith;
      differ = two_apart (pointwise nat_eq) first.key second.key differ;
    })
