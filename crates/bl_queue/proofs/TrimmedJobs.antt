-- The list of jobs from which the oldest ended one is dropped.
use Rattle.std.specs.Prelude.{◌≡◌, ◌+◌, ◌<◌, ◌≤◌, ℕ, nat_lt, Bool, true, false, not, cond, List, [], ◌∷◌, length, take, drop, remove, count_by, refl, All, AllPairs, Contains, IfSome, Some}
use Rattle.std.proofs.Common.{sym, ap, subst, arith, get_or, suc, zero, inl, inr}
use Rattle.std.specs.List.{position_or_len}
use Rattle.std.proofs.lemmas.Bool.{cases_lt, cond_both, ltb-false, ltb-true, true≢false, not_from_false}
use Rattle.std.proofs.lemmas.List.Edits.{length-remove}
use Rattle.std.proofs.lemmas.List.Elements.{All-append, All-drop, All-head, All-tail, All-take, All-weaker}
use Rattle.std.proofs.lemmas.List.Quantifiers.{all_pairs_remove}
use Rattle.std.proofs.lemmas.List.Sums.{fails_before_first, passes_at_first, sum_by-remove}
use Rattle.bl_files.specs.Carried.{AreFeeds}
use Rattle.bl_queue.specs.declared.job.Job.{Job}
use Rattle.bl_queue.specs.declared.job_status.JobStatus.TheVariants.{InQueue}
use Rattle.bl_queue.specs.Statuses.{has_ended, has_failed, is_in_progress, is_in_queue, is_to_start}
use Rattle.bl_queue.specs.Limits.{most_kept}
use Rattle.bl_queue.specs.Jobs.{AreJobs, IsFeed, IsNumbered, IsUnfailed, front_job, has_open, is_unended, number_in, waits}
use Rattle.bl_queue.specs.Changes.{trimmed}
use Rattle.bl_queue.proofs.FatedJobs.{AreSteady, count_cons}
use Rattle.bl_queue.proofs.CalledJobs.{pairs_head}
use Rattle.bl_queue.proofs.SettledJobs.{AreSettled, are_jobs}

-- ---- of many jobs one has ended

all_wait : (jobs : List Job) → All (λ job. waits job ≡ true) jobs → count_by waits jobs ≡ length jobs
all_wait [] all = refl
all_wait (job ∷ jobs) all =
    let one : ◌≡◌ {A = ℕ} (cond (waits job) 1 0) 1 = ap (λ b. cond {A = ℕ} b 1 0) (All-head (λ x. waits x ≡ true) job jobs all) in
    omega (arith, count_cons job jobs, one, all_wait jobs (All-tail (λ x. waits x ≡ true) job jobs all))

-- where none has ended all but the first wait
most_wait : (jobs : List Job) → AllPairs (λ a b. is_unended a ≡ true → is_unended b ≡ true → b.status ≡ InQueue) jobs → All (λ job. is_unended job ≡ true) jobs → length jobs ≤ count_by waits jobs + 1
most_wait [] behind all = omega arith
most_wait (job ∷ jobs) behind all =
    let rest : All (λ x. waits x ≡ true) jobs = λ k d below. ap is_in_queue (pairs_head (λ a b. is_unended a ≡ true → is_unended b ≡ true → b.status ≡ InQueue) job jobs behind k d below (All-head (λ x. is_unended x ≡ true) job jobs all) (All-tail (λ x. is_unended x ≡ true) job jobs all k d below)) in
    omega (arith, count_cons job jobs, all_wait jobs rest)

abbrev pub first_ended : List Job → ℕ
first_ended jobs = position_or_len (λ job. has_ended job.status) jobs

one_ended : (last : ℕ) (jobs : List Job) → AreSteady last jobs → most_kept < length jobs → first_ended jobs < length jobs
one_ended last jobs steady many =
    elim (cases_lt (first_ended jobs) (length jobs)) [
      | inl within ↦ within
      | inr past ↦ absurd (omega (arith, steady.queued, most_wait jobs steady.behind (λ k d below. not_from_false (has_ended (get_or jobs k d).status) (fails_before_first (λ job. has_ended job.status) jobs k d (omega arith)))))
    ]

-- ---- an ended job goes

all_remove : (P : Job → Type 0) (jobs : List Job) (i : ℕ) → All P jobs → All P (remove jobs i)
all_remove P jobs i all = All-append P (take i jobs) (drop (suc i) jobs) (All-take P i jobs all) (All-drop P (suc i) jobs all)

front_remove : (jobs : List Job) (i : ℕ) (d : Job) → i < length jobs → is_unended (get_or jobs i d) ≡ false → front_job (remove jobs i) ≡ front_job jobs
front_remove [] i d within is = absurd (omega arith)
front_remove (job ∷ jobs) zero d within is = sym (ap (λ b. cond b (Some job) (front_job jobs)) is)
front_remove (job ∷ jobs) (suc i) d within is = ap (λ o. cond (is_unended job) (Some job) o) (front_remove jobs i d (omega arith) is)

module _ (last : ℕ) (jobs : List Job) (i : ℕ) (d : Job) (within : i < length jobs) (is : AreSettled last jobs) (ended : is_unended (get_or jobs i d) ≡ false) where
  pub removed : AreSettled last (remove jobs i)
  removed = record {
    steady = record {
      rising = all_pairs_remove (λ a b. a.number < b.number) jobs i within is.steady.rising;
      numbered = all_remove (λ job. IsNumbered last job) jobs i is.steady.numbered;
      behind = all_pairs_remove (λ a b. is_unended a ≡ true → is_unended b ≡ true → b.status ≡ InQueue) jobs i within is.steady.behind;
      queued = omega (arith, sum_by-remove (λ (job : Job). cond (waits job) 1 0) jobs i d within, is.steady.queued);
      earlier = all_remove (λ job. is_unended job ≡ true → All (λ id. number_in id < job.number) job.request.dependencies) jobs i is.steady.earlier;
      running = all_remove (λ job. has_open job ≡ is_in_progress job.status) jobs i is.steady.running;
      fresh = all_remove (λ job. is_to_start job.status ≡ true → job.feeds ≡ []) jobs i is.steady.fresh;
      feeds = all_remove (λ job. AreFeeds job.feeds) jobs i is.steady.feeds;
      each = all_remove (λ job. All IsFeed job.feeds) jobs i is.steady.each;
    };
    unfailed = all_remove (λ job. is_unended job ≡ true → IsUnfailed (remove jobs i) job) jobs i
        (All-weaker (λ job. is_unended job ≡ true → IsUnfailed jobs job) (λ job. is_unended job ≡ true → IsUnfailed (remove jobs i) job)
        (λ job all unended. all_remove (λ other. Contains job.request.dependencies other.id → has_failed other.status ≡ false) jobs i (all unended)) jobs is.unfailed);
    front = subst (λ o. IfSome o (λ job. waits job ≡ false)) (sym (front_remove jobs i d within ended)) is.front;
  }

not_unended : (b : Bool) → b ≡ true → not b ≡ false
not_unended true h = refl
not_unended false h = absurd (true≢false (sym h))

trimmed_by : (last : ℕ) (jobs : List Job) → AreSettled last jobs → length jobs ≤ most_kept + 1 → most_kept < length jobs → AreJobs (record { last = last; jobs = remove jobs (first_ended jobs) })
trimmed_by last [] is few many = absurd (omega arith)
trimmed_by last (d ∷ rest) is few many =
    let jobs : List Job = d ∷ rest in
    let within : first_ended jobs < length jobs = one_ended last jobs is.steady many in
    let ended : is_unended (get_or jobs (first_ended jobs) d) ≡ false = not_unended _ (passes_at_first (λ (job : Job). has_ended job.status) jobs d within) in
    are_jobs last (remove jobs (first_ended jobs)) (removed last jobs (first_ended jobs) d within is ended) (omega (arith, length-remove jobs (first_ended jobs) within))

pub trimmed_are : (last : ℕ) (jobs : List Job) → AreSettled last jobs → length jobs ≤ most_kept + 1 → AreJobs (record { last = last; jobs = trimmed jobs })
trimmed_are last jobs is few =
    cond_both (nat_lt most_kept (length jobs)) (remove jobs (first_ended jobs)) jobs (λ l. AreJobs (record { last = last; jobs = l }))
    (λ h. trimmed_by last jobs is few (ltb-true most_kept (length jobs) h))
    (λ h. are_jobs last jobs is (ltb-false most_kept (length jobs) h))
