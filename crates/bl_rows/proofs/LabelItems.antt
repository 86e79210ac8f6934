-- The labels of a vertex, item by item.
use Rattle.std.specs.Prelude.{◌≡◌, ◌==◌, ℕ, nat_eq, Bool, true, false, not, cond, List, [], ◌∷◌, ◌++◌, length, refl}
use Rattle.std.specs.Cmp.Lexicographic.{pointwise, slice_cmp}
use Rattle.std.specs.Ordering.{eq_by_cmp, nat_cmp}
use Rattle.std.proofs.Common.{◌∙◌, sym, ap}
use Rattle.std.proofs.lemmas.Map.Text.{is_eq-slice_cmp}
use Rattle.bl_value.specs.Cells.{without_spaces}
use Rattle.bl_value.specs.Once.{once_behind}
use Rattle.bl_value.proofs.Repeats.{once_more}
use Rattle.bl_rows.specs.Rows.{some_labels}

same_tests : eq_by_cmp (slice_cmp nat_cmp) ≡ pointwise nat_eq
same_tests = λ i a b. is_eq-slice_cmp a b i

-- one label more, unless it is there
pub label_pushed : (before after : List (List ℕ)) (item label : List ℕ) → (length (without_spaces item) == 0) ≡ false → label ≡ without_spaces item
    → after ≡ before ++ once_behind (eq_by_cmp (slice_cmp nat_cmp)) before (label ∷ []) → after ≡ before ++ once_behind (pointwise nat_eq) before (some_labels (item ∷ []))
label_pushed before after item label some is pushed =
    rw some (pushed ∙ (λ i. before ++ once_behind (same_tests i) before (is i ∷ [])))

in_front : (test : Bool) (label : List ℕ) (labels : List (List ℕ)) → cond test (label ∷ labels) labels ≡ cond test (label ∷ []) [] ++ labels
in_front true label labels = refl
in_front false label labels = refl

-- those of one item more
pub labels_more : (before after : List (List ℕ)) (item : List ℕ) (others : List (List ℕ)) → after ≡ before ++ once_behind (pointwise nat_eq) before (some_labels (item ∷ []))
    → before ++ once_behind (pointwise nat_eq) before (some_labels (item ∷ others)) ≡ after ++ once_behind (pointwise nat_eq) after (some_labels others)
labels_more before after item others is =
    ap (λ labels. before ++ once_behind (pointwise nat_eq) before labels) (in_front (not (length (without_spaces item) == 0)) (without_spaces item) (some_labels others))
    ∙ once_more (pointwise nat_eq) before (some_labels (item ∷ [])) (some_labels others)
    ∙ ap (λ front. front ++ once_behind (pointwise nat_eq) front (some_labels others)) (sym is)
