-- One item of a list is changed, found by its place.
use Rattle.std.specs.Prelude.{◌≡◌, ◌<◌, ℕ, ◌==◌, false, cond, List, [], ◌∷◌, length, map, position, refl, All, AllPairs, Some, None, IsSomeAnd, slice_get}
use Rattle.std.proofs.Common.{ap, ◌∙◌, arith, get_or, set, suc, zero}
use Rattle.std.proofs.lemmas.Bool.{eqb-true, eq-eqb, ne_eqb}
use Rattle.std.proofs.lemmas.List.Folds.{map_fixed}
use Rattle.std.proofs.lemmas.List.Quantifiers.{position-Some}
use Rattle.bl_files.specs.declared.feed.Feed.{Feed}
use Rattle.bl_queue.specs.declared.job.Job.{Job}
use Rattle.bl_queue.specs.Changes.{with_job}
use Rattle.bl_queue.specs.Runs.{with_feed}
use Rattle.bl_queue.proofs.Fronts.{none_at}
use Rattle.bl_queue.proofs.CalledJobs.{pairs_head, pairs_tail}

module _ (number : ℕ) (change : Job → Job) where
  abbrev changed : Job → Job
  changed job = cond (job.number == number) (change job) job

  others : (jobs : List Job) → All (λ job. (job.number == number) ≡ false) jobs → with_job number change jobs ≡ jobs
  others jobs apart = map_fixed changed jobs (λ k d below. ap (λ b. cond b (change (get_or jobs k d)) (get_or jobs k d)) (apart k d below))

  pub at_place : (jobs : List Job) → AllPairs (λ a b. a.number < b.number) jobs → (i : ℕ) (d : Job) → i < length jobs → (get_or jobs i d).number ≡ number → with_job number change jobs ≡ set jobs i (change (get_or jobs i d))
  at_place [] up i d within is = absurd (omega arith)
  at_place (job ∷ jobs) up zero d within is =
      ap (λ b. cond b (change job) job ∷ map changed jobs) (eq-eqb job.number number is)
      ∙ ap (λ l. change job ∷ l) (others jobs (λ k e below. let more : job.number < (get_or jobs k e).number = pairs_head (λ a b. a.number < b.number) job jobs up k e below in ne_eqb (get_or jobs k e).number number (λ (same : (get_or jobs k e).number ≡ number). omega arith)))
  at_place (job ∷ jobs) up (suc i) d within is =
      let less : job.number < (get_or jobs i d).number = pairs_head (λ a b. a.number < b.number) job jobs up i d (omega arith) in
      ap (λ b. cond b (change job) job ∷ map changed jobs) (ne_eqb job.number number (λ (same : job.number ≡ number). omega arith))
      ∙ ap (λ l. job ∷ l) (at_place jobs (pairs_tail (λ a b. a.number < b.number) job jobs up) i d (omega arith) is)

  pub changed_at : (jobs : List Job) → AllPairs (λ a b. a.number < b.number) jobs → (i : ℕ) (d : Job) → position (λ job. job.number == number) jobs ≡ Some i → with_job number change jobs ≡ set jobs i (change (get_or jobs i d))
  changed_at jobs up i d h =
      let at = position-Some (λ (job : Job). job.number == number) jobs i d h in
      at_place jobs up i d at.0 (eqb-true (get_or jobs i d).number number at.1)

  pub changed_none : (jobs : List Job) → position (λ job. job.number == number) jobs ≡ None → with_job number change jobs ≡ jobs
  changed_none jobs h = others jobs (λ k d below. none_at (λ (job : Job). job.number == number) jobs h k d below)

pub feed_at : (change : Feed → Feed) (feeds : List Feed) (i : ℕ) (d : Feed) → i < length feeds → with_feed i change feeds ≡ set feeds i (change (get_or feeds i d))
feed_at change [] i d within = absurd (omega arith)
feed_at change (feed ∷ feeds) zero d within = refl
feed_at change (feed ∷ feeds) (suc i) d within = ap (λ l. feed ∷ l) (feed_at change feeds i d (omega arith))

pub some_within : (place : ℕ) (feeds : List Feed) (P : Feed → Type 0) → IsSomeAnd (slice_get feeds place) P → place < length feeds
some_within place [] P h = absurd h
some_within zero (feed ∷ feeds) P h = omega arith
some_within (suc place) (feed ∷ feeds) P h = omega (arith, some_within place feeds P h)

-- an item at a place
pub some_at : {X : Type 0} (place : ℕ) (xs : List X) (d : X) (P : X → Type 0) → place < length xs → P (get_or xs place d) → IsSomeAnd (slice_get xs place) P
some_at place [] d P within h = absurd (omega arith)
some_at zero (x ∷ xs) d P within h = h
some_at (suc place) (x ∷ xs) d P within h = some_at place xs d P (omega arith) h

pub some_get : {X : Type 0} (place : ℕ) (xs : List X) (d : X) (P : X → Type 0) → IsSomeAnd (slice_get xs place) P → (place < length xs) × P (get_or xs place d)
some_get place [] d P h = absurd h
some_get zero (x ∷ xs) d P h = (omega arith, h)
some_get (suc place) (x ∷ xs) d P h = let rest = some_get place xs d P h in (omega (arith, rest.0), rest.1)

-- the job of a number, where it was found
pub found_there : (number : ℕ) (jobs : List Job) (place : ℕ) (P : Job → Type 0) → position (λ job. job.number == number) jobs ≡ Some place → ((job : Job) → job.number ≡ number → P job) → IsSomeAnd (slice_get jobs place) P
found_there number [] place P h make = absurd (cc)
found_there number (job ∷ jobs) place P h make =
    let at = position-Some (λ (x : Job). x.number == number) (job ∷ jobs) place job h in
    some_at place (job ∷ jobs) job P at.0 (make (get_or (job ∷ jobs) place job) (eqb-true (get_or (job ∷ jobs) place job).number number at.1))
