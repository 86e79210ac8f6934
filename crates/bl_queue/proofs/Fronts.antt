-- The first unended job, and the list in which it is called up.
use Rattle.std.specs.Prelude.{◌≡◌, ◌<◌, ◌≤◌, ℕ, nat_lt, Bool, true, false, cond, List, [], ◌∷◌, length, position, refl, Some, None}
use Rattle.std.proofs.Common.{ap, ◌∙◌, arith, get_or, set, suc, zero}
use Rattle.std.specs.List.{position_or_len}
use Rattle.std.proofs.lemmas.List.Sums.{fails_before_first}
use Rattle.std.proofs.lemmas.List.Quantifiers.{position-Some}
use Rattle.bl_queue.specs.declared.job.Job.{Job}
use Rattle.bl_queue.specs.Jobs.{is_unended}
use Rattle.bl_queue.specs.Doomed.{called_up, with_front}

pub with_front_at : (jobs : List Job) (i : ℕ) (d : Job) → i < length jobs → is_unended (get_or jobs i d) ≡ true → ((k : ℕ) → k < i → is_unended (get_or jobs k d) ≡ false) → with_front jobs ≡ set jobs i (called_up (get_or jobs i d))
with_front_at [] i d within is none = absurd (omega arith)
with_front_at (job ∷ jobs) zero d within is none = ap (λ b. cond b (called_up job ∷ jobs) (job ∷ with_front jobs)) is
with_front_at (job ∷ jobs) (suc i) d within is none =
    ap (λ b. cond b (called_up job ∷ jobs) (job ∷ with_front jobs)) (none 0 (omega arith))
    ∙ ap (λ l. job ∷ l) (with_front_at jobs i d (omega arith) is (λ k below. none (suc k) (omega arith)))

pub with_front_none : (jobs : List Job) → ((k : ℕ) (d : Job) → k < length jobs → is_unended (get_or jobs k d) ≡ false) → with_front jobs ≡ jobs
with_front_none [] none = refl
with_front_none (job ∷ jobs) none =
    ap (λ b. cond b (called_up job ∷ jobs) (job ∷ with_front jobs)) (none 0 job (omega arith))
    ∙ ap (λ l. job ∷ l) (with_front_none jobs (λ k d below. none (suc k) d (omega arith)))

none_by : {X : Type 0} (p : X → Bool) (xs : List X) (b : Bool) → nat_lt (position_or_len p xs) (length xs) ≡ b → cond b (Some (position_or_len p xs)) None ≡ None → length xs ≤ position_or_len p xs
none_by p xs true is h = absurd (cc)
none_by p xs false is h = grind arith

pub none_at : {X : Type 0} (p : X → Bool) (xs : List X) → position p xs ≡ None → (k : ℕ) (d : X) → k < length xs → p (get_or xs k d) ≡ false
none_at p xs h k d below =
    let past : length xs ≤ position_or_len p xs = none_by p xs (nat_lt (position_or_len p xs) (length xs)) refl h in
    fails_before_first p xs k d (omega arith)

pub called_up_at : (jobs : List Job) (i : ℕ) (d : Job) → position is_unended jobs ≡ Some i → with_front jobs ≡ set jobs i (called_up (get_or jobs i d))
called_up_at jobs i d h =
    let at = position-Some is_unended jobs i d h in
    with_front_at jobs i d at.0 at.1 at.2
