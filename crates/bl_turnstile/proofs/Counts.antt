-- Prefixes, and how often a number stands in the lists of all views.
use Rattle.std.proofs.Common.{◌≡◌, ℕ, zero, suc, ◌+◌, ◌<◌, ◌≤◌, Bool, true, false, eqb, List, [], ◌∷◌, ◌++◌, length, drop, get_or, set, sym, refl, ap, ◌∙◌, subst, arith, eq-eqb, ne_eqb, append_assoc, append-nil, length-append}
use mathlib.Core.Logic.{dite}
use mathlib.Core.Option.{some, some-injective, some-ne-none}
use native.Mathlib.Decide.{ℕ_discrete, dec_le}
use lib.ListN.{get_elem?}
use Rattle.bl_turnstile.specs.declared.standing.Standing.{Standing}
use Rattle.bl_turnstile.specs.Entries.{Entries, IsPrefix, one, times, numbered, longer}
use Rattle.bl_turnstile.specs.Rule.{total}

pub below : {A : Type 0} (l : List A) (i : ℕ) (a : A) → get_elem? l i ≡ some a → i < length l
below [] i a e = absurd (some-ne-none a (sym e))
below (x ∷ xs) zero a e = omega arith
below (x ∷ xs) (suc i) a e = let h = below xs i a e in omega arith

pub prefix_trans : (xs ys zs : Entries) → IsPrefix xs ys → IsPrefix ys zs → IsPrefix xs zs
prefix_trans xs ys zs p q = (p.0 ++ q.0, q.1 ∙ ap (λ l. l ++ q.0) p.1 ∙ append_assoc xs p.0 q.0)

pub prefix_self : (xs : Entries) → IsPrefix xs xs
prefix_self xs = ([], sym (append-nil xs))

pub prefix_nil : (xs : Entries) → IsPrefix [] xs
prefix_nil xs = (xs, refl)

pub prefix_length : (xs ys : Entries) → IsPrefix xs ys → length xs ≤ length ys
prefix_length xs ys p = omega (arith, ap (λ (l : Entries). length l) p.1, length-append xs p.0)

-- of two beginnings of one list the shorter begins the longer
both_begin : (a b ra rb : Entries) → a ++ ra ≡ b ++ rb → length a ≤ length b → IsPrefix a b
both_begin [] b ra rb e h = prefix_nil b
both_begin (x ∷ xs) [] ra rb e h = absurd (omega arith)
both_begin (x ∷ xs) (y ∷ ys) ra rb e h =
    let t = both_begin xs ys ra rb (ap (λ (l : Entries). drop 1 l) e) (omega arith) in
    (t.0, λ k. get_or (sym e k) 0 x ∷ t.1 k)

pub begins : (a b c : Entries) → IsPrefix a c → IsPrefix b c → length a ≤ length b → IsPrefix a b
begins a b c p q h = both_begin a b p.0 q.0 (sym p.1 ∙ q.1) h

drop_more : (a b : Entries) → drop (length a) (a ++ b) ≡ b
drop_more [] b = refl
drop_more (x ∷ xs) b = drop_more xs b

drop_less : (a b : Entries) → length b ≤ length a → drop (length a) b ≡ []
drop_less [] [] h = refl
drop_less [] (y ∷ ys) h = absurd (omega arith)
drop_less (x ∷ xs) [] h = refl
drop_less (x ∷ xs) (y ∷ ys) h = drop_less xs ys (omega arith)

-- the longer one is one of the two, and both begin it
pub longer_is : (a b : Entries) → IsPrefix a b → longer a b ≡ b
longer_is a b p = ap (λ l. a ++ drop (length a) l) p.1 ∙ ap (λ l. a ++ l) (drop_more a p.0) ∙ sym p.1

pub longer_is' : (a b : Entries) → length b ≤ length a → longer a b ≡ a
longer_is' a b h = ap (λ l. a ++ l) (drop_less a b h) ∙ append-nil a

pub longer_of : (P : Entries → Type 0) (a b c : Entries) → IsPrefix a c → IsPrefix b c → P a → P b → P (longer a b)
longer_of P a b c p q pa pb = dite (dec_le (length a) (length b))
    (λ h. subst P (sym (longer_is a b (begins a b c p q h))) pb)
    (λ h. subst P (sym (longer_is' a b (omega (arith, h)))) pa)

pub longer_begins : (a b c : Entries) → IsPrefix a c → IsPrefix b c → IsPrefix b (longer a b)
longer_begins a b c p q = dite (dec_le (length a) (length b))
    (λ h. subst (IsPrefix b) (sym (longer_is a b (begins a b c p q h))) (prefix_self b))
    (λ h. subst (IsPrefix b) (sym (longer_is' a b (omega (arith, h)))) (begins b a c q p (omega (arith, h))))

pub longer_length : (a b c : Entries) → IsPrefix a c → IsPrefix b c → (length a ≤ length (longer a b)) × (length b ≤ length (longer a b))
longer_length a b c p q = (prefix_length a (longer a b) (drop (length a) b, refl), prefix_length b (longer a b) (longer_begins a b c p q))

one_small : (b : Bool) → one b ≤ 1
one_small true = omega arith
one_small false = omega arith

pub times_append : (x : ℕ) (xs ys : List ℕ) → times x (xs ++ ys) ≡ times x xs + times x ys
times_append x [] ys = omega arith
times_append x (z ∷ zs) ys = let h = times_append x zs ys in let n : ℕ = one (eqb z x) in omega (arith, h)

pub numbered_times : (x n k : ℕ) → (times x (numbered n k) ≤ 1) × (0 < times x (numbered n k) → (n ≤ x) × (x < n + k))
numbered_times x n zero = (omega arith, λ h. absurd (omega arith))
numbered_times x n (suc k) =
    let t = numbered_times x (suc n) k in
    dite (ℕ_discrete n x)
    (λ e. let o : one (eqb n x) ≡ 1 = ap one (eq-eqb n x e) in
    let z : ¬ (0 < times x (numbered (suc n) k)) = λ h. let q = t.1 h in omega (arith, e, q.0) in
    (omega (arith, o, z), λ h. (omega (arith, e), omega (arith, e))))
    (λ ne. let o : one (eqb n x) ≡ 0 = ap one (ne_eqb n x ne) in
    (omega (arith, o, t.0), λ h. let q = t.1 (omega (arith, o, h)) in (omega (arith, q.0), omega (arith, q.1))))

pub total_set : (f : Standing → ℕ) (views : List Standing) (i : ℕ) (v w : Standing) → get_elem? views i ≡ some v → total f (set views i w) + f v ≡ total f views + f w
total_set f [] i v w e = absurd (some-ne-none v (sym e))
total_set f (x ∷ xs) zero v w e = let h : f x ≡ f v = ap f (some-injective x v e) in omega (arith, h)
total_set f (x ∷ xs) (suc i) v w e = let h = total_set f xs i v w e in omega (arith, h)

pub total_snoc : (f : Standing → ℕ) (views : List Standing) (w : Standing) → total f (views ++ w ∷ []) ≡ total f views + f w
total_snoc f [] w = omega arith
total_snoc f (x ∷ xs) w = let h = total_snoc f xs w in omega (arith, h)

pub total_least : (f : Standing → ℕ) (views : List Standing) (i : ℕ) (v : Standing) → get_elem? views i ≡ some v → f v ≤ total f views
total_least f [] i v e = absurd (some-ne-none v (sym e))
total_least f (x ∷ xs) zero v e = let h : f x ≡ f v = ap f (some-injective x v e) in omega (arith, h)
total_least f (x ∷ xs) (suc i) v e = let h = total_least f xs i v e in omega (arith, h)

pub total_none : (f : Standing → ℕ) (views : List Standing) → ((i : ℕ) (v : Standing) → get_elem? views i ≡ some v → f v ≡ 0) → total f views ≡ 0
total_none f [] h = refl
total_none f (x ∷ xs) h = omega (arith, h 0 x refl, total_none f xs (λ i v e. h (suc i) v e))
