-- Parts that are read are the parts that were written, and what was written is read again.
use Rattle.std.proofs.Common.{◌≡◌, ℕ, zero, suc, ◌+◌, ◌^◌, ◌<◌, ◌≤◌, Bool, true, false, cond, ltb, List, [], ◌∷◌, ◌++◌, length, get_or, take, drop, Option, Some, None, refl, sym, ap, subst, ◌∙◌, append_assoc, arith, inl, inr}
use Rattle.std.specs.List.{AllByRecursion, flat_map}
use Rattle.std.specs.Int.{Width, w32, byte_len, from_be_bytes, to_be_bytes}
use mir.Val.{bits}
use Rattle.std.proofs.lemmas.Bool.{cases_lt, ltb-false, le-ltb}
use Rattle.std.proofs.lemmas.List.{take_at, drop_at, take-append-drop, length-append, length-take, get_or-drop, get_or-take, get_or_past}
use Rattle.std.proofs.lemmas.List.Elements.{All-from_recursion, recursion_from_All}
use Rattle.bl_entry.specs.Reading.{◌>>=◌, both_at, made_at, tested_at, items_at, front_at, number_at, list_at}
use Rattle.bl_entry.specs.Encoding.{list_bytes, u32_bytes}
use Rattle.bl_entry.specs.Valid.{IsList}

abbrev pub IsBytes : List ℕ → Type 0
IsBytes bytes = (i : ℕ) → get_or bytes i 0 < 256

IsBytes-drop : (n : ℕ) (bytes : List ℕ) → IsBytes bytes → IsBytes (drop n bytes)
IsBytes-drop n bytes h i = rw get_or-drop (h (n + i))

IsBytes-take : (n : ℕ) (bytes : List ℕ) → IsBytes bytes → IsBytes (take n bytes)
IsBytes-take n bytes h i =
    elim (cases_lt i n) [
      | inl lt ↦ rw (get_or-take n bytes i 0 lt) (h i)
      | inr le ↦ rw (get_or_past (take n bytes) i 0 (omega (arith, length-take n bytes))) (omega arith)
    ]

pub IsBytes-rest : (b : ℕ) (bytes : List ℕ) → IsBytes (b ∷ bytes) → IsBytes bytes
IsBytes-rest b bytes h i = h (suc i)

-- the value of a step that did not fail
pub bind_some : {A B : Type 0} (r : Option A) (f : A → Option B) (y : B) → (r >>= f) ≡ Some y → (x : A) × (r ≡ Some x) × (f x ≡ Some y)
bind_some (Some x) f y e = (x, refl, e)
bind_some None f y e = absurd cc

-- tests that did not fail
pub guard_not : {A : Type 0} (b : Bool) (x y : A) → cond b None (Some x) ≡ Some y → (b ≡ false) × (x ≡ y)
guard_not true x y e = absurd cc
guard_not false x y e = (refl, cc)

pub guard_is : {A : Type 0} (b : Bool) (x y : A) → cond b (Some x) None ≡ Some y → (b ≡ true) × (x ≡ y)
guard_is true x y e = (refl, cc)
guard_is false x y e = absurd cc

abbrev some : {A : Type 0} → A → Option A
some x = Some x

pub some_is : {A : Type 0} (x y : A) → some x ≡ some y → x ≡ y
some_is x y e = cc

-- what a reader took from the front
pub record Takes (bytes text rest : List ℕ) : Type 0 where
  pub parts : bytes ≡ text ++ rest
  pub rest_fits : IsBytes rest

pub Takes-then : (a x b y c : List ℕ) → Takes a x b → Takes b y c → Takes a (x ++ y) c
Takes-then a x b y c p q = record { parts = p.parts ∙ ap (λ (t : List ℕ). x ++ t) q.parts ∙ sym (append_assoc x y c); rest_fits = q.rest_fits }

pub record Parses {X : Type 0} (print : X → List ℕ) (Valid : X → Type 0) (at : List ℕ → Option (X × List ℕ)) : Type 0 where
  -- what is read is printed so
  pub takes : (bytes : List ℕ) (x : X) (rest : List ℕ) → IsBytes bytes → at bytes ≡ Some (x, rest) → Takes bytes (print x) rest × Valid x
  -- what is printed so is read, whatever follows it
  pub again : (x : X) (rest : List ℕ) → Valid x → at (print x ++ rest) ≡ Some (x, rest)

-- ---- one part after another, a part made of another, a part that passes a test

module _ {A B : Type 0} {p : A → List ℕ} {V : A → Type 0} {a : List ℕ → Option (A × List ℕ)} {q : B → List ℕ} {W : B → Type 0} {b : List ℕ → Option (B × List ℕ)} where
  pub both_parses : Parses p V a → Parses q W b → Parses (λ (z : A × B). p z.0 ++ q z.1) (λ z. V z.0 × W z.1) (both_at a b)
  both_parses one two =
      record {
        takes = λ bytes x rest fits e.
            let s = bind_some (a bytes) (λ x. b x.1 >>= λ y. Some ((x.0, y.0), y.1)) (x, rest) e in
            let t = bind_some (b s.0.1) (λ y. Some ((s.0.0, y.0), y.1)) (x, rest) s.2 in
            let first = one.takes bytes s.0.0 s.0.1 fits s.1 in
            let second = two.takes s.0.1 t.0.0 t.0.1 first.0.rest_fits t.1 in
            let made : (A × B) × List ℕ = ((s.0.0, t.0.0), t.0.1) in
            subst (λ (y : (A × B) × List ℕ). Takes bytes (p y.0.0 ++ q y.0.1) y.1 × (V y.0.0 × W y.0.1)) (some_is made (x, rest) t.2)
            (Takes-then bytes (p s.0.0) s.0.1 (q t.0.0) t.0.1 first.0 second.0, (first.1, second.1));
        again = λ x rest valid.
            ap (both_at a b) (append_assoc (p x.0) (q x.1) rest)
            ∙ ap (λ (r : Option (A × List ℕ)). r >>= λ x. b x.1 >>= λ y. Some ((x.0, y.0), y.1)) (one.again x.0 (q x.1 ++ rest) valid.0)
            ∙ ap (λ (r : Option (B × List ℕ)). r >>= λ y. Some ((x.0, y.0), y.1)) (two.again x.1 rest valid.1);
      }

module _ {A X : Type 0} {p : A → List ℕ} {V : A → Type 0} {a : List ℕ → Option (A × List ℕ)} (f : A → X) (g : X → A) (W : X → Type 0) where
  pub made_parses : ((x : X) → W x → V (g x) × (f (g x) ≡ x)) → ((y : A) → V y → W (f y) × (g (f y) ≡ y)) → Parses p V a → Parses (λ x. p (g x)) W (made_at f a)
  made_parses back forth one =
      record {
        takes = λ bytes x rest fits e.
            let s = bind_some (a bytes) (λ x. Some (f x.0, x.1)) (x, rest) e in
            let first = one.takes bytes s.0.0 s.0.1 fits s.1 in
            let made : X × List ℕ = (f s.0.0, s.0.1) in
            subst (λ (y : X × List ℕ). Takes bytes (p (g y.0)) y.1 × W y.0) (some_is made (x, rest) s.2)
            (subst (λ (z : A). Takes bytes (p z) s.0.1) (sym (forth s.0.0 first.1).1) first.0, (forth s.0.0 first.1).0);
        again = λ x rest valid.
            ap (λ (r : Option (A × List ℕ)). r >>= λ y. Some (f y.0, y.1)) (one.again (g x) rest (back x valid).0) ∙ ap (λ (y : X). some (y, rest)) (back x valid).1;
      }

-- a part of one kind: its tag, and what is behind it
module _ {A X : Type 0} {p : A → List ℕ} {V : A → Type 0} {a : List ℕ → Option (A × List ℕ)} (f : A → X) (print : X → List ℕ) (Valid : X → Type 0) (tag : ℕ) where
  pub tagged_takes : Parses p V a → ((y : A) → print (f y) ≡ tag ∷ p y) → ((y : A) → V y → Valid (f y)) → (bytes : List ℕ) (x : X) (rest : List ℕ) → IsBytes (tag ∷ bytes) → made_at f a bytes ≡ Some (x, rest) → Takes (tag ∷ bytes) (print x) rest × Valid x
  tagged_takes one is valid bytes x rest fits e =
      let s = bind_some (a bytes) (λ x. Some (f x.0, x.1)) (x, rest) e in
      let first = one.takes bytes s.0.0 s.0.1 (IsBytes-rest tag bytes fits) s.1 in
      let made : X × List ℕ = (f s.0.0, s.0.1) in
      subst (λ (y : X × List ℕ). Takes (tag ∷ bytes) (print y.0) y.1 × Valid y.0) (some_is made (x, rest) s.2)
      (record { parts = ap (λ (l : List ℕ). tag ∷ l) first.0.parts ∙ ap (λ (l : List ℕ). l ++ s.0.1) (sym (is s.0.0)); rest_fits = first.0.rest_fits }, valid s.0.0 first.1)

  pub tagged_again : Parses p V a → (y : A) (rest : List ℕ) → V y → made_at f a (p y ++ rest) ≡ Some (f y, rest)
  tagged_again one y rest valid = ap (λ (r : Option (A × List ℕ)). r >>= λ z. Some (f z.0, z.1)) (one.again y rest valid)

-- a kind that has nothing behind its tag
pub alone_takes : {X : Type 0} (print : X → List ℕ) (Valid : X → Type 0) (tag : ℕ) (y : X) → print y ≡ tag ∷ [] → Valid y → (bytes : List ℕ) (x : X) (rest : List ℕ) → IsBytes (tag ∷ bytes) → some {A = X × List ℕ} (y, bytes) ≡ Some (x, rest) → Takes (tag ∷ bytes) (print x) rest × Valid x
alone_takes {X} print Valid tag y is valid bytes x rest fits e =
    let made : X × List ℕ = (y, bytes) in
    subst (λ (z : X × List ℕ). Takes (tag ∷ bytes) (print z.0) z.1 × Valid z.0) (some_is made (x, rest) e)
    (record { parts = ap (λ (l : List ℕ). l ++ bytes) (sym is); rest_fits = IsBytes-rest tag bytes fits }, valid)

module _ {A : Type 0} {p : A → List ℕ} {V : A → Type 0} {a : List ℕ → Option (A × List ℕ)} (test : A → Bool) where
  pub tested_parses : Parses p V a → Parses p (λ x. V x × (test x ≡ true)) (tested_at test a)
  tested_parses one =
      record {
        takes = λ bytes x rest fits e.
            let s = bind_some (a bytes) (λ x. cond (test x.0) (Some x) None) (x, rest) e in
            let first = one.takes bytes s.0.0 s.0.1 fits s.1 in
            let g = guard_is (test s.0.0) s.0 (x, rest) s.2 in
            subst (λ (y : A × List ℕ). Takes bytes (p y.0) y.1 × (V y.0 × (test y.0 ≡ true))) g.1 (first.0, (first.1, g.0));
        again = λ x rest valid.
            ap (λ (r : Option (A × List ℕ)). r >>= λ y. cond (test y.0) (Some y) None) (one.again x rest valid.0) ∙ ap (λ b. cond b (Some (x, rest)) None) valid.1;
      }

-- ---- the same with other words for what is valid

pub valid_parses : {A : Type 0} {p : A → List ℕ} {V : A → Type 0} {a : List ℕ → Option (A × List ℕ)} (W : A → Type 0) → ((x : A) → V x → W x) → ((x : A) → W x → V x) → Parses p V a → Parses p W a
valid_parses W to from one =
    record {
      takes = λ bytes x rest fits e. let t = one.takes bytes x rest fits e in (t.0, to x t.1);
      again = λ x rest valid. one.again x rest (from x valid);
    }

-- ---- as many bytes

pub front_takes : (n : ℕ) (bytes text rest : List ℕ) → IsBytes bytes → front_at n bytes ≡ Some (text, rest) → Takes bytes text rest × ((length text ≡ n) × IsBytes text)
front_takes n bytes text rest fits e =
    let g = guard_not (ltb (length bytes) n) (take n bytes, drop n bytes) (text, rest) e in
    let long : n ≤ length bytes = ltb-false _ _ g.0 in
    subst (λ (y : List ℕ × List ℕ). Takes bytes y.0 y.1 × ((length y.0 ≡ n) × IsBytes y.0)) g.1
    (record { parts = sym (take-append-drop n bytes); rest_fits = IsBytes-drop n bytes fits }, (omega (arith, length-take n bytes), IsBytes-take n bytes fits))

pub front_again : (n : ℕ) (text rest : List ℕ) → length text ≡ n → front_at n (text ++ rest) ≡ Some (text, rest)
front_again n text rest len =
    let long : ltb (length (text ++ rest)) n ≡ false = le-ltb _ _ (omega (arith, length-append text rest)) in
    rw (long, take_at text rest n len, drop_at text rest n len) refl

-- ---- numbers

pub record IsWide (w : Width) : Type 0 where
  pub len : (n : ℕ) → length (to_be_bytes w n) ≡ byte_len w
  pub back : (bytes : List ℕ) → length bytes ≡ byte_len w → IsBytes bytes → to_be_bytes w (from_be_bytes w bytes) ≡ bytes
  pub again : (n : ℕ) → n < 2 ^ bits w → from_be_bytes w (to_be_bytes w n) ≡ n
  pub below : (bytes : List ℕ) → IsBytes bytes → from_be_bytes w bytes < 2 ^ bits w

pub number_parses : (w : Width) → IsWide w → Parses (to_be_bytes w) (λ n. n < 2 ^ bits w) (number_at w)
number_parses w wide =
    record {
      takes = λ bytes n rest fits e.
          let s = bind_some (front_at (byte_len w) bytes) (λ x. Some (from_be_bytes w x.0, x.1)) (n, rest) e in
          let t = front_takes (byte_len w) bytes s.0.0 s.0.1 fits s.1 in
          let made : ℕ × List ℕ = (from_be_bytes w s.0.0, s.0.1) in
          subst (λ (y : ℕ × List ℕ). Takes bytes (to_be_bytes w y.0) y.1 × (y.0 < 2 ^ bits w)) (some_is made (n, rest) s.2)
          (subst (λ (text : List ℕ). Takes bytes text s.0.1) (sym (wide.back s.0.0 t.1.0 t.1.1)) t.0, wide.below s.0.0 t.1.1);
      again = λ n rest lt.
          ap (λ (r : Option (List ℕ × List ℕ)). r >>= λ x. Some (from_be_bytes w x.0, x.1)) (front_again (byte_len w) (to_be_bytes w n) rest (wide.len n))
          ∙ ap (λ (k : ℕ). Some (k, rest)) (wide.again n lt);
    }

-- ---- lists

module _ {A : Type 0} {p : A → List ℕ} {V : A → Type 0} {a : List ℕ → Option (A × List ℕ)} (one : Parses p V a) where
  items_take : (n : ℕ) (bytes : List ℕ) (xs : List A) (rest : List ℕ) → IsBytes bytes → items_at a n bytes ≡ Some (xs, rest) → Takes bytes (flat_map p xs) rest × ((length xs ≡ n) × AllByRecursion V xs)
  items_take zero bytes xs rest fits e =
      let made : List A × List ℕ = ([], bytes) in
      subst (λ (y : List A × List ℕ). Takes bytes (flat_map p y.0) y.1 × ((length y.0 ≡ 0) × AllByRecursion V y.0)) (some_is made (xs, rest) e) (record { parts = refl; rest_fits = fits }, (refl, tt))
  items_take (suc n) bytes xs rest fits e =
      let s = bind_some (a bytes) (λ x. items_at a n x.1 >>= λ ys. Some (x.0 ∷ ys.0, ys.1)) (xs, rest) e in
      let t = bind_some (items_at a n s.0.1) (λ ys. Some (s.0.0 ∷ ys.0, ys.1)) (xs, rest) s.2 in
      let first = one.takes bytes s.0.0 s.0.1 fits s.1 in
      let second = items_take n s.0.1 t.0.0 t.0.1 first.0.rest_fits t.1 in
      let made : List A × List ℕ = (s.0.0 ∷ t.0.0, t.0.1) in
      subst (λ (y : List A × List ℕ). Takes bytes (flat_map p y.0) y.1 × ((length y.0 ≡ suc n) × AllByRecursion V y.0)) (some_is made (xs, rest) t.2)
      (Takes-then bytes (p s.0.0) s.0.1 (flat_map p t.0.0) t.0.1 first.0 second.0, (ap suc second.1.0, (first.1, second.1.1)))

  items_again : (xs : List A) (rest : List ℕ) → AllByRecursion V xs → items_at a (length xs) (flat_map p xs ++ rest) ≡ Some (xs, rest)
  items_again [] rest valid = refl
  items_again (x ∷ xs) rest valid =
      ap (items_at a (suc (length xs))) (append_assoc (p x) (flat_map p xs) rest)
      ∙ ap (λ (r : Option (A × List ℕ)). r >>= λ y. items_at a (length xs) y.1 >>= λ ys. Some (y.0 ∷ ys.0, ys.1)) (one.again x (flat_map p xs ++ rest) valid.0)
      ∙ ap (λ (r : Option (List A × List ℕ)). r >>= λ ys. Some (x ∷ ys.0, ys.1)) (items_again xs rest valid.1)

  pub list_parses : IsWide w32 → Parses (list_bytes p) (IsList V) (list_at a)
  list_parses wide =
      record {
        takes = λ bytes xs rest fits e.
            let s = bind_some (number_at w32 bytes) (λ n. items_at a n.0 n.1) (xs, rest) e in
            let count = (number_parses w32 wide).takes bytes s.0.0 s.0.1 fits s.1 in
            let items = items_take s.0.0 s.0.1 xs rest count.0.rest_fits s.2 in (
              subst (λ (n : ℕ). Takes bytes (u32_bytes n ++ flat_map p xs) rest) (sym items.1.0) (Takes-then bytes (u32_bytes s.0.0) s.0.1 (flat_map p xs) rest count.0 items.0),
              (subst (λ (n : ℕ). n < 2 ^ 32) (sym items.1.0) count.1, All-from_recursion V xs items.1.1),
            );
        again = λ xs rest valid.
            ap (list_at a) (append_assoc (u32_bytes (length xs)) (flat_map p xs) rest)
            ∙ ap (λ (r : Option (ℕ × List ℕ)). r >>= λ n. items_at a n.0 n.1) ((number_parses w32 wide).again (length xs) (flat_map p xs ++ rest) valid.0)
            ∙ items_again xs rest (recursion_from_All V xs valid.1);
      }

-- ---- no part begins another

pub one_form : {A : Type 0} {p : A → List ℕ} {V : A → Type 0} {a : List ℕ → Option (A × List ℕ)} → Parses p V a → (x y : A) (r s : List ℕ) → V x → V y → p x ++ r ≡ p y ++ s → (x ≡ y) × (r ≡ s)
one_form {A} {p} {V} {a} one x y r s vx vy e =
    let same : some {A = A × List ℕ} (x, r) ≡ some {A = A × List ℕ} (y, s) = sym (one.again x r vx) ∙ ap a e ∙ one.again y s vy in
    let pair : (x, r) ≡ (y, s) = some_is (x, r) (y, s) same in
    (ap (λ (z : A × List ℕ). z.0) pair, ap (λ (z : A × List ℕ). z.1) pair)
