-- The items of an array cell in UTF-8 are in UTF-8.
use Rattle.std.specs.Prelude.{◌≡◌, ◌==◌, ◌<◌, ℕ, Bool, true, false, cond, List, [], ◌∷◌, ◌++◌, length, refl}
use Rattle.std.specs.List.{All}
use Rattle.std.specs.Str.{IsUtf8}
use Rattle.std.proofs.Math.Utf8.{encode}
use Rattle.std.proofs.lemmas.Str.{IsUtf8-append, IsUtf8-drop, IsUtf8-encode, IsUtf8-past_char, IsUtf8-take, IsCharBoundary-before_ascii, encode_ascii}
use Rattle.std.proofs.lemmas.List.{length-append, append-nil}
use Rattle.std.proofs.lemmas.List.Elements.{All-nil, All-cons}
use Rattle.std.proofs.Math.Seq.{drop-append_seam, take-append_seam, get_or-append_seam}
use Rattle.std.proofs.Common.{sym, ap, subst, append_assoc, arith, eqb-true, rules}
use Rattle.bl_value.specs.Cells.{items, items_from, pieces_from}

-- what stands before an ASCII byte
pub utf8_before : (xs : List ℕ) (byte : ℕ) (ys : List ℕ) → byte < 128 → IsUtf8 (xs ++ byte ∷ ys) → IsUtf8 xs
utf8_before xs byte ys ascii text =
    subst IsUtf8 (take-append_seam xs (byte ∷ ys))
    (IsUtf8-take (xs ++ byte ∷ ys) (length xs) text (IsCharBoundary-before_ascii (xs ++ byte ∷ ys) (length xs) (omega (arith, length-append xs (byte ∷ ys))) (omega (arith, ascii, get_or-append_seam xs byte ys 0))))

-- what stands behind one
pub utf8_behind : (xs : List ℕ) (byte : ℕ) (ys : List ℕ) → byte < 128 → IsUtf8 (xs ++ byte ∷ ys) → IsUtf8 ys
utf8_behind xs byte ys ascii text =
    let from : IsUtf8 (byte ∷ ys) =
    subst IsUtf8 (drop-append_seam xs (byte ∷ ys))
    (IsUtf8-drop (xs ++ byte ∷ ys) (length xs) text (IsCharBoundary-before_ascii (xs ++ byte ∷ ys) (length xs) (omega (arith, length-append xs (byte ∷ ys))) (omega (arith, ascii, get_or-append_seam xs byte ys 0)))) in
    IsUtf8-past_char (byte ∷ ys) ys byte from (sym (ap (λ bytes. bytes ++ ys) (encode_ascii byte ascii)))

-- a byte that moves to what has begun
moved : (begun : List ℕ) (byte : ℕ) (rest : List ℕ) → IsUtf8 (begun ++ byte ∷ rest) → IsUtf8 ((begun ++ byte ∷ []) ++ rest)
moved begun byte rest text = subst IsUtf8 (sym (append_assoc begun (byte ∷ []) rest)) text

-- the bytes of a cell, where a backslash may be held
abbrev with_held : Bool → List ℕ → List ℕ
with_held held bytes = cond held (92 ∷ bytes) bytes

ascii_semicolon : (rest : List ℕ) → IsUtf8 rest → IsUtf8 (59 ∷ rest)
ascii_semicolon rest text = subst IsUtf8 (ap (λ bytes. bytes ++ rest) (encode_ascii 59 (omega arith))) (IsUtf8-append (encode 59) rest (IsUtf8-encode 59 (search rules)) text)

items_utf8 : (held : Bool) (begun bytes : List ℕ) → IsUtf8 (begun ++ with_held held bytes) → All IsUtf8 (items_from begun (pieces_from held bytes))
items_utf8 false begun [] text = All-cons IsUtf8 begun [] (subst IsUtf8 (append-nil begun) text) (All-nil IsUtf8)
items_utf8 true begun [] text = All-cons IsUtf8 (begun ++ 92 ∷ []) [] text (All-nil IsUtf8)
items_utf8 true begun (byte ∷ rest) text = by (byte == 59) (byte == 92) refl refl (λ b held. items_utf8 held b rest)
  where
    by : (a b : Bool) → byte == 59 ≡ a → byte == 92 ≡ b
        → ((b : List ℕ) (held : Bool) → IsUtf8 (b ++ with_held held rest) → All IsUtf8 (items_from b (pieces_from held rest)))
        → All IsUtf8 (items_from begun (pieces_from true (byte ∷ rest)))
    by true b is other more =
        rw is (more (begun ++ 59 ∷ []) false
        (moved begun 59 rest (IsUtf8-append begun (59 ∷ rest) (utf8_before begun 92 (byte ∷ rest) (omega arith) text)
        (ascii_semicolon rest (utf8_behind (begun ++ 92 ∷ []) byte rest (omega (arith, eqb-true byte 59 is)) (moved begun 92 (byte ∷ rest) text))))))
    by false true is other more =
        rw (is, other) (more (begun ++ 92 ∷ []) true (moved begun 92 (92 ∷ rest) (subst (λ b. IsUtf8 (begun ++ 92 ∷ b ∷ rest)) (eqb-true byte 92 other) text)))
    by false false is other more =
        rw (is, other, is) (more ((begun ++ 92 ∷ []) ++ byte ∷ []) false (moved (begun ++ 92 ∷ []) byte rest (moved begun 92 (byte ∷ rest) text)))
items_utf8 false begun (byte ∷ rest) text = by (byte == 92) (byte == 59) refl refl (λ b held. items_utf8 held b rest)
  where
    by : (a b : Bool) → byte == 92 ≡ a → byte == 59 ≡ b
        → ((b : List ℕ) (held : Bool) → IsUtf8 (b ++ with_held held rest) → All IsUtf8 (items_from b (pieces_from held rest)))
        → All IsUtf8 (items_from begun (pieces_from false (byte ∷ rest)))
    by true b is other more = rw is (more begun true (subst (λ b. IsUtf8 (begun ++ b ∷ rest)) (eqb-true byte 92 is) text))
    by false true is other more =
        rw (is, other) (All-cons IsUtf8 begun _ (utf8_before begun byte rest (omega (arith, eqb-true byte 59 other)) text)
        (more [] false (utf8_behind begun byte rest (omega (arith, eqb-true byte 59 other)) text)))
    by false false is other more = rw (is, other) (more (begun ++ byte ∷ []) false (moved begun byte rest text))

pub items_are_utf8 : (bytes : List ℕ) → IsUtf8 bytes → All IsUtf8 (items bytes)
items_are_utf8 bytes text = items_utf8 false [] bytes text
