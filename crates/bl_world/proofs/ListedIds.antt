-- The ids of the jobs so far, and one job more.
use Rattle.std.specs.Prelude.{◌≡◌, ℕ, ◌<◌, Bool, true, false, cond, List, [], ◌∷◌, ◌++◌, length, map, filter, refl}
use Rattle.std.proofs.Common.{ap, arith, get_or, take, zero, suc}
use Rattle.bl_queue.specs.declared.job.Job.{Job}

pub ids_more : (such : Job → Bool) (jobs : List Job) (i : ℕ) (d : Job) → i < length jobs → map (λ (job : Job). job.id) (filter such (take (suc i) jobs)) ≡ map (λ (job : Job). job.id) (filter such (take i jobs)) ++ cond (such (get_or jobs i d)) ((get_or jobs i d).id ∷ []) []
ids_more such [] i d within = absurd (omega arith)
ids_more such (job ∷ jobs) zero d within = by (such job) where
  by : (b : Bool) → map (λ (j : Job). j.id) (cond b (job ∷ []) []) ≡ cond b (job.id ∷ []) []
  by true = refl
  by false = refl
ids_more such (job ∷ jobs) (suc i) d within = by (such job) (ids_more such jobs i d (omega arith)) where
  by : (b : Bool) → map (λ (j : Job). j.id) (filter such (take (suc i) jobs)) ≡ map (λ (j : Job). j.id) (filter such (take i jobs)) ++ cond (such (get_or jobs i d)) ((get_or jobs i d).id ∷ []) []
      → map (λ (j : Job). j.id) (cond b (job ∷ filter such (take (suc i) jobs)) (filter such (take (suc i) jobs))) ≡ map (λ (j : Job). j.id) (cond b (job ∷ filter such (take i jobs)) (filter such (take i jobs))) ++ cond (such (get_or jobs i d)) ((get_or jobs i d).id ∷ []) []
  by true h = ap (λ l. job.id ∷ l) h
  by false h = h
