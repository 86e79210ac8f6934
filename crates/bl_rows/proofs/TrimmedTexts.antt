-- A text without the spaces at its ends is still UTF-8.
use Rattle.std.specs.Prelude.{◌≡◌, ◌==◌, ℕ, Bool, true, false, cond, List, [], ◌∷◌, ◌++◌, length, reverse, refl}
use Rattle.std.specs.Str.{IsUtf8}
use Rattle.std.proofs.lemmas.Str.{IsUtf8-past_char, IsUtf8-take, IsCharBoundary-before_ascii, encode_ascii}
use Rattle.std.proofs.lemmas.List.{reverse-append, reverse-reverse, length-append}
use Rattle.std.proofs.Math.Seq.{take-append_seam, get_or-append_seam}
use Rattle.std.proofs.Common.{sym, ap, subst, arith, eqb-true}
use Rattle.bl_value.specs.Cells.{without_spaces, without_spaces_in_front}

-- one of two texts, where the first needs its test
utf8_of_two : (test : Bool) (xs ys : List ℕ) → (test ≡ true → IsUtf8 xs) → IsUtf8 ys → IsUtf8 (cond test xs ys)
utf8_of_two true xs ys first second = first refl
utf8_of_two false xs ys first second = second

-- what stands behind a space in front
utf8_behind_space : (byte : ℕ) (rest : List ℕ) → byte ≡ 32 → IsUtf8 (byte ∷ rest) → IsUtf8 rest
utf8_behind_space byte rest is text = IsUtf8-past_char (byte ∷ rest) rest byte text (sym (ap (λ bytes. bytes ++ rest) (encode_ascii byte (omega arith))))

-- what stands before a space at the end
utf8_before_space : (rest : List ℕ) (byte : ℕ) → byte ≡ 32 → IsUtf8 (rest ++ byte ∷ []) → IsUtf8 rest
utf8_before_space rest byte is text =
    subst IsUtf8 (take-append_seam rest (byte ∷ []))
    (IsUtf8-take (rest ++ byte ∷ []) (length rest) text (IsCharBoundary-before_ascii (rest ++ byte ∷ []) (length rest) (omega (arith, length-append rest (byte ∷ []))) (omega (arith, is, get_or-append_seam rest byte [] 0))))

utf8_without_front : (cell : List ℕ) → IsUtf8 cell → IsUtf8 (without_spaces_in_front cell)
utf8_without_front [] text = text
utf8_without_front (byte ∷ rest) text =
    utf8_of_two (byte == 32) (without_spaces_in_front rest) (byte ∷ rest) (λ is. utf8_without_front rest (utf8_behind_space byte rest (eqb-true byte 32 is) text)) text

reverse_of_two : (test : Bool) (xs ys : List ℕ) → cond test (reverse xs) (reverse ys) ≡ reverse (cond test xs ys)
reverse_of_two true xs ys = refl
reverse_of_two false xs ys = refl

-- the same of a text that is read from its end
utf8_without_end : (cell : List ℕ) → IsUtf8 (reverse cell) → IsUtf8 (reverse (without_spaces_in_front cell))
utf8_without_end [] text = text
utf8_without_end (byte ∷ rest) text =
    subst IsUtf8 (reverse_of_two (byte == 32) (without_spaces_in_front rest) (byte ∷ rest))
    (utf8_of_two (byte == 32) (reverse (without_spaces_in_front rest)) (reverse (byte ∷ rest))
    (λ is. utf8_without_end rest (utf8_before_space (reverse rest) byte (eqb-true byte 32 is) (subst IsUtf8 (reverse-append (byte ∷ []) rest) text))) text)

pub utf8_without_spaces : (cell : List ℕ) → IsUtf8 cell → IsUtf8 (without_spaces cell)
utf8_without_spaces cell text =
    utf8_without_end (reverse (without_spaces_in_front cell)) (subst IsUtf8 (sym (reverse-reverse (without_spaces_in_front cell))) (utf8_without_front cell text))
