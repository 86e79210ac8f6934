-- Conflicts, and the first of them in a list of properties.
use Rattle.std.specs.Prelude.{◌≡◌, ◌==◌, ℕ, ◌+◌, ◌<◌, Bool, true, false, cond, not, if◌then◌else◌, filter, length, List, [], ◌∷◌, drop, Some, refl}
use Rattle.std.specs.List.{find}
use Rattle.std.proofs.Common.{get_or, sym, ap, ◌∙◌, arith}
use Rattle.std.proofs.lemmas.Bool.{false≢true, eqb-true}
use Rattle.std.proofs.lemmas.List.{at_drop_more}
use Rattle.bl_outside.specs.OrderedSet as set
use Rattle.bl_value.specs.declared.value.Value.{Value}
use Rattle.bl_value.specs.declared.column.Side.{Side}
use Rattle.bl_value.specs.declared.row.Property.{Property}
use Rattle.bl_graph.specs.Graph.{Graph, values_at}
use Rattle.bl_graph.specs.Admission.{conflicts, replaced, is_among}

left_none : (xs : List Value) → not (length xs == 0) ≡ false → xs ≡ []
left_none [] h = refl
left_none (x ∷ xs) h = absurd (unless (length (x ∷ xs)) h (λ e. omega (arith, e)))
  where
    unless : (n : ℕ) → not (n == 0) ≡ false → (n ≡ 0 → ⊥) → ⊥
    unless n g none = none (eqb-true n 0 (turned (n == 0) g))
      where
        turned : (b : Bool) → not b ≡ false → b ≡ true
        turned true e = refl
        turned false e = sym e

-- nothing is replaced where there is no conflict
pub none_replaced : (graph : Graph) (side : Side) (id : List ℕ) (property : Property) → conflicts graph side id property ≡ false → replaced graph side id property ≡ []
none_replaced graph side id property h = left_none (replaced graph side id property) h

-- and where there is one, all values but the property's own
pub others_replaced : (graph : Graph) (side : Side) (id : List ℕ) (property : Property) → conflicts graph side id property ≡ true → filter (λ value. not (is_among property.values value)) (set.items (values_at graph side id property.key)) ≡ replaced graph side id property
others_replaced graph side id property h = by property.single h
  where
    by : (b : Bool) → not (length (if b then filter (λ value. not (is_among property.values value)) (set.items (values_at graph side id property.key)) else []) == 0) ≡ true → filter (λ value. not (is_among property.values value)) (set.items (values_at graph side id property.key)) ≡ (if b then filter (λ value. not (is_among property.values value)) (set.items (values_at graph side id property.key)) else [])
    by true g = refl
    by false g = absurd (false≢true g)

-- the first that passes isn't the one at i
pub find_more : {X : Type 0} (p : X → Bool) (xs : List X) (i : ℕ) (x : X) → i < length xs → x ≡ get_or xs i x → false ≡ p x → find p (drop i xs) ≡ find p xs → find p (drop (i + 1) xs) ≡ find p xs
find_more p xs i x h is fails so_far =
    sym (at_drop_more (find p) xs i x h ∙ ap (λ b. cond b (Some (get_or xs i x)) (find p (drop (i + 1) xs))) (ap p (sym is) ∙ sym fails)) ∙ so_far
