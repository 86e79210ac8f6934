-- Fields of a head, one after another.
use Rattle.std.proofs.Common.{
  ◌≡◌,
  ◌∙◌,
  ◌+◌,
  ◌*◌,
  ◌-◌,
  ◌<◌,
  ◌≤◌,
  ℕ,
  Bool,
  true,
  false,
  ◌&&◌,
  ◌||◌,
  ◌==◌,
  not,
  nat_lt,
  cond,
  List,
  [],
  ◌∷◌,
  length,
  take,
  drop,
  None,
  Some,
  suc,
  refl,
  sym,
  ap,
  arith,
}
use Rattle.std.specs.Char.{digit_value, is_ascii_digit}
use Rattle.std.specs.List.{list_all, list_any, position, position_or_len}
use Rattle.std.specs.Str.Parse.{digits_value_after}
use Rattle.std.proofs.lemmas.Bool.{ltb-false, ltb-true}
use Rattle.std.proofs.lemmas.Bool.Decides.{nat_tests}
use Rattle.form_urlencoded.specs.Form.{onto_first, split}
use Rattle.bl_http.specs.Fields.{is_close, says_close}

-- the number of the digits when they follow those of n, where each is a digit
abbrev pub number_after : ℕ → List ℕ → ℕ
number_after n [] = n
number_after n (c ∷ cs) = number_after (n * 10 + (c - 48)) cs

-- it only grows
pub number_after-larger : (n : ℕ) (cs : List ℕ) → n ≤ number_after n cs
number_after-larger n [] = omega arith
number_after-larger n (c ∷ cs) = omega (arith, number_after-larger (n * 10 + (c - 48)) cs)

digit_is : (c : ℕ) → is_ascii_digit c ≡ true → digit_value c ≡ c - 48
digit_is c digit = grind (arith, nat_tests)

first : (a b : Bool) → (a && b) ≡ true → a ≡ true
first true b both = refl
first false b both = cc

second : (a b : Bool) → (a && b) ≡ true → b ≡ true
second true b both = both
second false b both = cc

-- the value of digits
pub digits_value-number : (cs : List ℕ) (n : ℕ) → list_all is_ascii_digit cs ≡ true → digits_value_after 10 n cs ≡ number_after n cs
digits_value-number [] n digits = refl
digits_value-number (c ∷ cs) n digits =
    ap (λ d. digits_value_after 10 (n * 10 + d) cs) (digit_is c (first _ _ digits))
    ∙ digits_value-number cs (n * 10 + (c - 48)) (second _ _ digits)

-- the place of the first comma, or the length
abbrev comma : List ℕ → ℕ
comma xs = position_or_len (λ b. b == 44) xs

-- one byte more in front
split_step : (t : Bool) (x : ℕ) (xs : List ℕ)
    → (comma xs < length xs → split 44 xs ≡ take (comma xs) xs ∷ split 44 (drop (comma xs + 1) xs))
    → cond (not t) (1 + comma xs) 0 < suc (length xs)
    → cond t ([] ∷ split 44 xs) (onto_first x (split 44 xs))
    ≡ take (cond (not t) (1 + comma xs) 0) (x ∷ xs) ∷ split 44 (drop (cond (not t) (1 + comma xs) 0 + 1) (x ∷ xs))
split_step true x xs later few = refl
split_step false x xs later few =
    let one : suc (comma xs) ≡ 1 + comma xs = omega arith in
    let two : suc (comma xs + 1) ≡ 1 + comma xs + 1 = omega arith in
    ap (λ ps. onto_first x ps) (later (omega (arith, few)))
    ∙ ap (λ k. take k (x ∷ xs) ∷ split 44 (drop (comma xs + 1) xs)) one
    ∙ ap (λ k. take (1 + comma xs) (x ∷ xs) ∷ split 44 (drop k (x ∷ xs))) two

-- a text with a comma is what stands before it, and the parts of the rest
split_at : (xs : List ℕ) → comma xs < length xs → split 44 xs ≡ take (comma xs) xs ∷ split 44 (drop (comma xs + 1) xs)
unfolding split
split_at [] few = absurd (omega arith)
split_at (x ∷ xs) few = split_step (x == 44) x xs (split_at xs) few

last_step : (t : Bool) (x : ℕ) (xs : List ℕ) → (length xs ≤ comma xs → split 44 xs ≡ xs ∷ []) → suc (length xs) ≤ cond (not t) (1 + comma xs) 0
    → cond t ([] ∷ split 44 xs) (onto_first x (split 44 xs)) ≡ (x ∷ xs) ∷ []
last_step true x xs later few = absurd (omega arith)
last_step false x xs later few = ap (λ ps. onto_first x ps) (later (omega (arith, few)))

-- one without is one part
split_last : (xs : List ℕ) → length xs ≤ comma xs → split 44 xs ≡ xs ∷ []
unfolding split
split_last [] few = refl
split_last (x ∷ xs) few = last_step (x == 44) x xs (split_last xs) few

found : (n size i : ℕ) (t : Bool) → nat_lt n size ≡ t → cond t (Some n) None ≡ Some i → (n ≡ i) × (n < size)
found n size i true is same = (cc, ltb-true n size is)
found n size i false is same = absurd cc

missed : (n size : ℕ) (t : Bool) → nat_lt n size ≡ t → cond t (Some n) None ≡ None → size ≤ n
missed n size true is same = absurd cc
missed n size false is same = omega (arith, ltb-false n size is)

-- what a value says that has a comma
says_first : (rest : List ℕ) (i : ℕ) → Some i ≡ position (λ b. b == 44) rest → says_close rest ≡ (is_close (take i rest) || says_close (drop (i + 1) rest))
says_first rest i is =
    let (same, few) = found (comma rest) (length rest) i (nat_lt (comma rest) (length rest)) refl (sym is) in
    ap (λ ps. list_any is_close ps) (split_at rest few)
    ∙ ap (λ k. is_close (take k rest) || says_close (drop (k + 1) rest)) same

-- its first word is not `close`
pub says_later : (rest : List ℕ) (i : ℕ) → Some i ≡ position (λ b. b == 44) rest → false ≡ is_close (take i rest) → says_close rest ≡ says_close (drop (i + 1) rest)
says_later rest i is not_here = says_first rest i is ∙ ap (λ b. b || says_close (drop (i + 1) rest)) (sym not_here)

-- its first word is
pub says_here : (rest : List ℕ) (i : ℕ) → Some i ≡ position (λ b. b == 44) rest → true ≡ is_close (take i rest) → says_close rest ≡ true
says_here rest i is here = says_first rest i is ∙ ap (λ b. b || says_close (drop (i + 1) rest)) (sym here)

or_none : (b : Bool) → (b || false) ≡ b
or_none true = refl
or_none false = refl

-- it has no comma
pub says_last : (rest : List ℕ) → None ≡ position (λ b. b == 44) rest → says_close rest ≡ is_close rest
says_last rest is =
    ap (λ ps. list_any is_close ps) (split_last rest (missed (comma rest) (length rest) (nat_lt (comma rest) (length rest)) refl (sym is)))
    ∙ or_none (is_close rest)
