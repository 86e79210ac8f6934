-- No label is longer than its cell.
use Rattle.std.specs.Prelude.{◌≡◌, nat_eq, ◌==◌, ◌+◌, ◌≤◌, ℕ, Bool, true, false, not, ◌&&◌, cond, List, [], ◌∷◌, ◌++◌, length, map, reverse, refl}
use Rattle.std.specs.List.{All, list_all}
use Rattle.std.specs.Cmp.Lexicographic.{pointwise}
use Rattle.std.proofs.Common.{ap, arith, le-leb}
use Rattle.std.proofs.lemmas.List.{length-append, length-reverse}
use Rattle.std.proofs.lemmas.List.Elements.{All-nil, All-cons, All-filter, All-head, All-map, All-tail, All-weaker}
use Rattle.bl_value.specs.Cells.{items, items_from, pieces_from, without_spaces, without_spaces_in_front}
use Rattle.bl_value.specs.declared.column.Side.TheVariants as side
use Rattle.bl_rows.specs.Rows.{is_long_label, is_short, labels_in}
use Rattle.bl_value.proofs.Repeats.{all_once}

abbrev with_held : Bool → List ℕ → List ℕ
with_held held bytes = cond held (92 ∷ bytes) bytes

abbrev IsWithin : ℕ → List ℕ → Type 0
IsWithin most text = length text ≤ most

items_within : (most : ℕ) (held : Bool) (begun bytes : List ℕ) → length begun + length (with_held held bytes) ≤ most → All (IsWithin most) (items_from begun (pieces_from held bytes))
items_within most false begun [] fits = All-cons (IsWithin most) begun [] (omega (arith, fits)) (All-nil (IsWithin most))
items_within most true begun [] fits = All-cons (IsWithin most) (begun ++ 92 ∷ []) [] (omega (arith, fits, length-append begun (92 ∷ []))) (All-nil (IsWithin most))
items_within most true begun (byte ∷ rest) fits = by (byte == 59) (byte == 92) refl refl (λ b held. items_within most held b rest)
  where
    by : (a b : Bool) → byte == 59 ≡ a → byte == 92 ≡ b
        → ((b : List ℕ) (held : Bool) → length b + length (with_held held rest) ≤ most → All (IsWithin most) (items_from b (pieces_from held rest)))
        → All (IsWithin most) (items_from begun (pieces_from true (byte ∷ rest)))
    by true b is other more = rw is (more (begun ++ 59 ∷ []) false (omega (arith, fits, length-append begun (59 ∷ []))))
    by false true is other more = rw (is, other) (more (begun ++ 92 ∷ []) true (omega (arith, fits, length-append begun (92 ∷ []))))
    by false false is other more =
        rw (is, other, is) (more ((begun ++ 92 ∷ []) ++ byte ∷ []) false (omega (arith, fits, length-append (begun ++ 92 ∷ []) (byte ∷ []), length-append begun (92 ∷ []))))
items_within most false begun (byte ∷ rest) fits = by (byte == 92) (byte == 59) refl refl (λ b held. items_within most held b rest)
  where
    by : (a b : Bool) → byte == 92 ≡ a → byte == 59 ≡ b
        → ((b : List ℕ) (held : Bool) → length b + length (with_held held rest) ≤ most → All (IsWithin most) (items_from b (pieces_from held rest)))
        → All (IsWithin most) (items_from begun (pieces_from false (byte ∷ rest)))
    by true b is other more = rw is (more begun true (omega (arith, fits)))
    by false true is other more = rw (is, other) (All-cons (IsWithin most) begun _ (omega (arith, fits)) (more [] false (omega (arith, fits))))
    by false false is other more = rw (is, other) (more (begun ++ byte ∷ []) false (omega (arith, fits, length-append begun (byte ∷ []))))

front_within : (text : List ℕ) → length (without_spaces_in_front text) ≤ length text
front_within [] = omega arith
front_within (byte ∷ rest) = by (byte == 32) (front_within rest)
  where
    by : (test : Bool) → length (without_spaces_in_front rest) ≤ length rest → length (cond test (without_spaces_in_front rest) (byte ∷ rest)) ≤ length (byte ∷ rest)
    by true more = omega (arith, more)
    by false more = omega arith

spaces_within : (text : List ℕ) → length (without_spaces text) ≤ length text
spaces_within text =
    omega (arith, length-reverse (without_spaces_in_front (reverse (without_spaces_in_front text))), front_within (reverse (without_spaces_in_front text)), length-reverse (without_spaces_in_front text), front_within text)

all_short : (labels : List (List ℕ)) → All (IsWithin 1024) labels → list_all is_short labels ≡ true
all_short [] all = refl
all_short (label ∷ labels) all =
    λ i. le-leb (length label) 1024 (All-head (IsWithin 1024) label labels all) i && all_short labels (All-tail (IsWithin 1024) label labels all) i

-- a cell of at most 1,024 bytes has no longer label
pub short_cell : (label_cell : List ℕ) → length label_cell ≤ 1024 → is_long_label side.Vertex label_cell ≡ false
short_cell label_cell short =
    ap not (all_short (labels_in label_cell)
    (all_once (IsWithin 1024) (pointwise nat_eq) [] _ (All-filter (λ label. not (length label == 0)) (IsWithin 1024) (map without_spaces (items label_cell))
    (All-map (IsWithin 1024) without_spaces (items label_cell)
    (All-weaker (IsWithin 1024) (λ item. IsWithin 1024 (without_spaces item)) (λ item within. omega (arith, within, spaces_within item)) (items label_cell)
    (items_within 1024 false [] label_cell (omega (arith, short))))))))
