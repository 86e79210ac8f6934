-- The first unended file, by a walk over the files and by its place.
use Rattle.std.specs.Prelude.{◌≡◌, ℕ, zero, suc, ◌+◌, ◌-◌, ◌||◌, Bool, true, false, cond, List, [], ◌∷◌, refl, Some, None}
use Rattle.std.specs.List.{list_any}
use Rattle.std.proofs.Common.{sym, ap, subst, ◌∙◌, arith}
use Rattle.std.proofs.lemmas.Bool.{true≢false, or_right}
use Rattle.bl_files.specs.declared.feed.Feed.{Feed}
use Rattle.bl_files.specs.Statuses.{is_open}
use Rattle.bl_queue.specs.declared.job.Job.{Job}
use Rattle.bl_queue.proofs.ChangedJobs.{some_is}
use Rattle.bl_world.specs.Works.{Placed, first_open}
use Rattle.bl_world.specs.Worlds.{AreNext, IsFirstOpen}

some_placed : (a b : Placed) → Some a ≡ Some b → a ≡ b
some_placed a b h = cc

-- the file that a walk finds, and its place from 0
pub record IsFound (start : ℕ) (feeds : List Feed) (found : Placed) : Type 0 where
  pub place : ℕ
  pub place_is : found.place ≡ start + place
  pub first : IsFirstOpen feeds place found.feed

pub open_found : (start : ℕ) (feeds : List Feed) (found : Placed) → first_open start feeds ≡ Some found → IsFound start feeds found
open_found start [] found h = absurd (cc)
open_found start (feed ∷ feeds) found h = by (is_open feed.status) refl h (open_found (start + 1) feeds found) where
  by : (b : Bool) → is_open feed.status ≡ b → cond b (Some (record { place = start; feed = feed })) (first_open (start + 1) feeds) ≡ Some found → (first_open (start + 1) feeds ≡ Some found → IsFound (start + 1) feeds found) → IsFound start (feed ∷ feeds) found
  by true is h rest =
      let here : Placed = record { place = start; feed = feed } in
      let same : here ≡ found = some_placed here found h in
      let at : found.place ≡ start = ap (λ (p : Placed). p.place) (sym same) in
      record { place = zero; place_is = omega (arith, at); first = (is, ap (λ (p : Placed). p.feed) same) }
  by false is h rest =
      let later : IsFound (start + 1) feeds found = rest h in
      record { place = suc later.place; place_is = omega (arith, later.place_is); first = (is, later.first) }

pub first_found : (start : ℕ) (feeds : List Feed) (place : ℕ) (of : Feed) → IsFirstOpen feeds place of → first_open start feeds ≡ Some (record { place = start + place; feed = of })
first_found start [] place of h = absurd h
first_found start (f ∷ feeds) zero of h =
    let at : start ≡ start + zero = omega arith in
    ap (λ b. cond b (Some (record { place = start; feed = f })) (first_open (start + 1) feeds)) h.0 ∙ (λ i. Some (record { place = at i; feed = h.1 i }))
first_found start (f ∷ feeds) (suc place) of h =
    let at : start + 1 + place ≡ start + suc place = omega arith in
    ap (λ b. cond b (Some (record { place = start; feed = f })) (first_open (start + 1) feeds)) h.0
    ∙ first_found (start + 1) feeds place of h.1
    ∙ ap (λ p. Some (record { place = p; feed = of })) at

-- there is one such file at most
pub one_first : (feeds : List Feed) (place : ℕ) (a b : Feed) → IsFirstOpen feeds place a → IsFirstOpen feeds place b → a ≡ b
one_first [] place a b one two = absurd one
one_first (f ∷ feeds) zero a b one two = sym one.1 ∙ two.1
one_first (f ∷ feeds) (suc place) a b one two = one_first feeds place a b one.1 two.1

pub one_place : (feeds : List Feed) (p q : ℕ) (a b : Feed) → IsFirstOpen feeds p a → IsFirstOpen feeds q b → p ≡ q
one_place [] p q a b one two = absurd one
one_place (f ∷ feeds) zero zero a b one two = refl
one_place (f ∷ feeds) zero (suc q) a b one two = absurd (true≢false (sym one.0 ∙ two.0))
one_place (f ∷ feeds) (suc p) zero a b one two = absurd (true≢false (sym two.0 ∙ one.0))
one_place (f ∷ feeds) (suc p) (suc q) a b one two = ap suc (one_place feeds p q a b one.1 two.1)

pub same_front : (jobs : List Job) (number feed : ℕ) (a b : Job) (x y : Feed) → AreNext jobs number feed a x → AreNext jobs number feed b y → a ≡ b
same_front jobs number feed a b x y one two = some_is a b (sym one.0 ∙ two.0)

pub same_next : (jobs : List Job) (number feed : ℕ) (a b : Job) (x y : Feed) → AreNext jobs number feed a x → AreNext jobs number feed b y → x ≡ y
same_next jobs number feed a b x y one two =
    one_first b.feeds (feed - 1) x y (subst (λ (j : Job). IsFirstOpen j.feeds (feed - 1) x) (same_front jobs number feed a b x y one two) one.3) two.3

-- a file is open where the first one is found
pub some_first : (feeds : List Feed) (place : ℕ) (of : Feed) → IsFirstOpen feeds place of → list_any (λ (f : Feed). is_open f.status) feeds ≡ true
some_first [] place of h = absurd h
some_first (f ∷ feeds) zero of h = ap (λ b. b || list_any (λ (g : Feed). is_open g.status) feeds) h.0
some_first (f ∷ feeds) (suc place) of h = or_right (is_open f.status) (list_any (λ (g : Feed). is_open g.status) feeds) (some_first feeds place of h.1)

-- none is where none is found
pub none_first : (start : ℕ) (feeds : List Feed) → first_open start feeds ≡ None → list_any (λ (f : Feed). is_open f.status) feeds ≡ false
none_first start [] h = refl
none_first start (f ∷ feeds) h = by (is_open f.status) refl h (none_first (start + 1) feeds) where
  by : (b : Bool) → is_open f.status ≡ b → cond b (Some (record { place = start; feed = f })) (first_open (start + 1) feeds) ≡ None → (first_open (start + 1) feeds ≡ None → list_any (λ (g : Feed). is_open g.status) feeds ≡ false) → (b || list_any (λ (g : Feed). is_open g.status) feeds) ≡ false
  by true is h rest = absurd (cc)
  by false is h rest = rest h
