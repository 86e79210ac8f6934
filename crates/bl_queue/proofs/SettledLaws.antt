-- The list that settles another is one, and a list as it always is has settled.
use Rattle.std.specs.Prelude.{◌≡◌, ◌<◌, ℕ, Bool, true, false, cond, List, [], ◌∷◌, length, refl, Contains, IfSome, Some}
use Rattle.std.proofs.Common.{sym, ap, subst, ◌∙◌, arith, inl, inr, get_or}
use Rattle.std.specs.List.{AllZip}
use Rattle.std.proofs.lemmas.Bool.{true≢false}
use Rattle.std.proofs.lemmas.List.{get_or_default, same_lists}
use Rattle.std.proofs.lemmas.List.Elements.{All-contains}
use Rattle.bl_queue.specs.declared.job.Job.{Job}
use Rattle.bl_queue.specs.declared.job_status.JobStatus.TheVariants.{NotStarted}
use Rattle.bl_queue.specs.Statuses.{has_failed}
use Rattle.bl_queue.specs.Jobs.{AreJobs, IsUnfailed, Kept, front_job, is_unended, waits}
use Rattle.bl_queue.specs.Changes.{IsChanged, with_job}
use Rattle.bl_queue.specs.Doomed.{IsFate, IsSettled, LeadsToFailure, called_up, with_front}
use Rattle.bl_queue.proofs.DoomedJobs.{all_zip, not_failed, zip_at, zip_same}

one_fate : (moment : ℕ) (jobs : List Job) (old a b : Job) → IsFate moment jobs old a → IsFate moment jobs old b → a ≡ b
one_fate moment jobs old a b (inl x) (inl y) = x.1 ∙ sym y.1
one_fate moment jobs old a b (inl x) (inr y) = absurd (y.0 x.0)
one_fate moment jobs old a b (inr x) (inl y) = absurd (x.0 y.0)
one_fate moment jobs old a b (inr x) (inr y) = x.1 ∙ sym y.1

one_end : (moment : ℕ) (jobs xs ys zs : List Job) → AllZip (IsFate moment jobs) xs ys → AllZip (IsFate moment jobs) xs zs → ys ≡ zs
one_end moment jobs xs ys zs one two =
    same_lists ys zs (sym (zip_same (IsFate moment jobs) xs ys one) ∙ zip_same (IsFate moment jobs) xs zs two)
    (λ k d below.
    let within : k < length xs = omega (arith, zip_same (IsFate moment jobs) xs ys one) in
    one_fate moment jobs (get_or xs k d) (get_or ys k d) (get_or zs k d) (zip_at (IsFate moment jobs) xs ys one k d within) (zip_at (IsFate moment jobs) xs zs two k d within))

pub one_settled : (moment : ℕ) (before a b : List Job) → IsSettled moment before a → IsSettled moment before b → a ≡ b
one_settled moment before a b one two = one.2 ∙ ap with_front (one_end moment before before one.0 two.0 one.1 two.1) ∙ sym two.2

front_stays : (jobs : List Job) → IfSome (front_job jobs) (λ job. waits job ≡ false) → with_front jobs ≡ jobs
front_stays [] h = refl
front_stays (job ∷ jobs) h = by (is_unended job) h (front_stays jobs) where
  by : (b : Bool) → IfSome (cond b (Some job) (front_job jobs)) (λ x. waits x ≡ false) → (IfSome (front_job jobs) (λ x. waits x ≡ false) → with_front jobs ≡ jobs) → cond b (called_up job ∷ jobs) (job ∷ with_front jobs) ≡ job ∷ jobs
  by true h rest = ap (λ b. cond b (record job { status = NotStarted }) job ∷ jobs) h
  by false h rest = ap (λ l. job ∷ l) (rest h)

module _ (kept : Kept) (are : AreJobs kept) where
  no_walk : (walk : List Job) (job : Job) → Contains kept.jobs job → is_unended job ≡ true → LeadsToFailure kept.jobs job walk → ⊥
  no_walk [] job there unended failed = not_failed job.status unended failed
  no_walk (next ∷ []) job there unended walks =
      let unfailed : IsUnfailed kept.jobs job = All-contains (λ (x : Job). is_unended x ≡ true → IsUnfailed kept.jobs x) kept.jobs job are.unfailed there unended in
      true≢false (sym walks.2 ∙ All-contains (λ (x : Job). Contains job.request.dependencies x.id → has_failed x.status ≡ false) kept.jobs next unfailed walks.1.0 walks.1.1)
  no_walk (next ∷ after ∷ walk) job there unended walks = no_walk (after ∷ walk) next walks.1.0 walks.2.0 walks.2

  stays : (moment : ℕ) (old new : Job) → Contains kept.jobs old → IsFate moment kept.jobs old new → new ≡ old
  stays moment old new there (inl fate) = absurd (no_walk fate.0.1 old there fate.0.0 fate.0.2)
  stays moment old new there (inr fate) = fate.1

  pub settled_stays : (moment : ℕ) (after : List Job) → IsSettled moment kept.jobs after → after ≡ kept.jobs
  settled_stays moment after settled =
      let zip = settled.1 in
      let same = zip_same (IsFate moment kept.jobs) kept.jobs settled.0 zip in
      let all : settled.0 ≡ kept.jobs = same_lists settled.0 kept.jobs (sym same) (λ k d below.
      let within : k < length kept.jobs = omega (arith, same) in
      stays moment (get_or kept.jobs k d) (get_or settled.0 k d) (k, within, get_or_default kept.jobs k (get_or kept.jobs k d) d within) (zip_at (IsFate moment kept.jobs) kept.jobs settled.0 zip k d within)) in
      settled.2 ∙ ap with_front all ∙ front_stays kept.jobs are.front

  -- it settles itself
  pub settled_itself : (moment : ℕ) → IsSettled moment kept.jobs kept.jobs
  settled_itself moment = (
    kept.jobs,
    all_zip (IsFate moment kept.jobs) kept.jobs kept.jobs refl (λ k d below.
        let job : Job = get_or kept.jobs k d in
        inr ((λ doomed. no_walk doomed.1 job (k, below, get_or_default kept.jobs k job d below) doomed.0 doomed.2), refl)),
    sym (front_stays kept.jobs are.front),
  )

-- a change after which the jobs are as they always are is one that settles them
pub changed_so : (moment number : ℕ) (change : Job → Job) (old new : Kept) → AreJobs new → new ≡ record old { jobs = with_job number change old.jobs } → IsChanged moment number change old new
changed_so moment number change old new are is =
    let same : new.jobs ≡ with_job number change old.jobs = ap (λ (k : Kept). k.jobs) is in
    (new.jobs, subst (λ l. IsSettled moment l new.jobs) same (settled_itself new are moment), is ∙ ap (λ l. record { last = old.last; jobs = l }) (sym same))
