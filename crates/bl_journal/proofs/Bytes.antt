-- Frames in lists of bytes.
use Rattle.std.proofs.Common.{◌≡◌, ◌≢◌, ℕ, suc, zero, ◌+◌, ◌<◌, ◌≤◌, ◌^◌, Bool, true, false, List, [], ◌∷◌, ◌++◌, length, take, drop, Some, None, refl, sym, ◌∙◌, ap, subst, arith}
use Rattle.std.specs.Prelude.{if◌then◌else◌, ◌&&◌, nat_lt}
use Rattle.std.specs.Int.{w32, to_be_bytes}
use Rattle.std.proofs.lemmas.Option.{none-some}
use Rattle.std.proofs.lemmas.Bool.{lt-ltb, ltb-true, ne_eqb, and_parts}
use Rattle.std.proofs.lemmas.Nat.{from_be_bytes-to_be_bytes_4}
use Rattle.bl_journal.specs.Frames.{number, Found, prefixed, is_frame, body_of, frames_from}

-- a closed gate ends the frames
pub closed : (place gate : ℕ) (rest : List ℕ) → gate ≢ 1 → frames_from place 0 (gate ∷ rest) ≡ ([], None)
closed place gate rest shut = ap (λ b. if b then (if is_frame rest (number rest) then prefixed (body_of rest (number rest) ∷ []) (frames_from (place + 1) (4 + number rest) rest) else ([], Some place)) else ([], None)) (ne_eqb gate 1 shut)

-- an open gate is a frame's, or no journal
opened : (place : ℕ) (rest : List ℕ) (b : Bool) (x : Found) (body : List ℕ) → (if b then prefixed (body ∷ []) x else ([], Some place)) ≡ ([], None) → ⊥
opened place rest true x body is = let e : body ∷ x.0 ≡ [] = ap (λ (f : Found). f.0) is in cc
opened place rest false x body is = let e : Some place ≡ None = ap (λ (f : Found). f.1) is in none-some place (sym e)

-- where nothing is met the gate is closed
pub gate_closed : (place gate : ℕ) (rest : List ℕ) → frames_from place 0 (gate ∷ rest) ≡ ([], None) → gate ≢ 1
gate_closed place gate rest is open_gate =
    opened place rest (is_frame rest (number rest)) (frames_from (place + 1) (4 + number rest) rest) (body_of rest (number rest))
    (subst (λ g. frames_from place 0 (g ∷ rest) ≡ ([], None)) open_gate is)

-- over the bytes of a frame to the next gate
pub skips : (place n : ℕ) (bytes : List ℕ) → n ≤ length bytes → frames_from place n bytes ≡ frames_from (place + n) 0 (drop n bytes)
skips place zero bytes le = ap (λ p. frames_from p 0 bytes) (let e : place ≡ place + 0 = omega arith in e)
skips place (suc n) [] le = absurd (omega arith)
skips place (suc n) (b ∷ bytes) le = skips (place + 1) n bytes (omega arith) ∙ ap (λ p. frames_from p 0 (drop n bytes)) (let e : place + 1 + n ≡ place + suc n = omega arith in e)

pub frame_bound : (rest : List ℕ) (n : ℕ) → is_frame rest n ≡ true → (0 < n) × (4 + n < length rest)
frame_bound rest n is = let t = and_parts (nat_lt 0 n) (nat_lt (4 + n) (length rest)) is in (ltb-true 0 n t.0, ltb-true (4 + n) (length rest) t.1)

pub frame_is : (rest : List ℕ) (n : ℕ) → 0 < n → 4 + n < length rest → is_frame rest n ≡ true
frame_is rest n some long = ap (λ b. b && nat_lt (4 + n) (length rest)) (lt-ltb 0 n some) ∙ lt-ltb (4 + n) (length rest) long

-- one frame, and then what is behind it
pub one_frame : (place n : ℕ) (rest : List ℕ) → number rest ≡ n → is_frame rest n ≡ true → frames_from place 0 (1 ∷ rest) ≡ prefixed (body_of rest n ∷ []) (frames_from (place + 5 + n) 0 (drop (4 + n) rest))
one_frame place n rest is whole =
    let long = frame_bound rest n whole in
    let F : ℕ → Found = λ k. if is_frame rest k then prefixed (body_of rest k ∷ []) (frames_from (place + 1) (4 + k) rest) else ([], Some place) in
    let here : F (number rest) ≡ F n = ap F is in
    let there : F n ≡ prefixed (body_of rest n ∷ []) (frames_from (place + 1) (4 + n) rest) = ap (λ b. if b then prefixed (body_of rest n ∷ []) (frames_from (place + 1) (4 + n) rest) else ([], Some place)) whole in
    let over : frames_from (place + 1) (4 + n) rest ≡ frames_from (place + 5 + n) 0 (drop (4 + n) rest) =
    skips (place + 1) (4 + n) rest (omega (arith, long.1)) ∙ ap (λ p. frames_from p 0 (drop (4 + n) rest)) (let e : place + 1 + (4 + n) ≡ place + 5 + n = omega arith in e) in
    here ∙ there ∙ ap (λ f. prefixed (body_of rest n ∷ []) f) over

-- an open gate without a frame behind it
pub no_frame : (place : ℕ) (rest : List ℕ) → is_frame rest (number rest) ≡ false → frames_from place 0 (1 ∷ rest) ≡ ([], Some place)
no_frame place rest is = ap (λ b. if b then prefixed (body_of rest (number rest) ∷ []) (frames_from (place + 1) (4 + number rest) rest) else ([], Some place)) is

-- the number is in the first four bytes
pub number_take : (rest : List ℕ) → number (take 4 rest) ≡ number rest
number_take (a ∷ b ∷ c ∷ d ∷ rest) = refl
number_take [] = refl
number_take (a ∷ []) = refl
number_take (a ∷ b ∷ []) = refl
number_take (a ∷ b ∷ c ∷ []) = refl

pub number_front : (xs ys : List ℕ) → take 4 xs ≡ take 4 ys → number xs ≡ number ys
number_front xs ys same = sym (number_take xs) ∙ ap number same ∙ number_take ys

pub number_four : (n : ℕ) (rest : List ℕ) → n < 2 ^ 32 → number (to_be_bytes w32 n ++ rest) ≡ n
number_four n rest small = from_be_bytes-to_be_bytes_4 n small
