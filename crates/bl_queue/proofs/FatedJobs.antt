-- What a list of jobs keeps when the doomed ones end.
use Rattle.std.specs.Prelude.{◌≡◌, ◌+◌, ◌<◌, ◌≤◌, ℕ, Bool, true, false, cond, List, [], ◌∷◌, length, count_by, refl, All, AllPairs, Contains}
use Rattle.std.proofs.Common.{sym, ap, subst, ◌∙◌, arith, inl, inr, get_or}
use Rattle.std.specs.List.{AllZip}
use Rattle.std.proofs.lemmas.Bool.{cases_Bool, true≢false}
use Rattle.std.proofs.lemmas.List.{get_or_default}
use Rattle.std.proofs.lemmas.List.Elements.{All-contains, All-weaker}
use Rattle.std.proofs.lemmas.List.Sums.{sum_by-cons}
use Rattle.bl_files.specs.Carried.{AreFeeds}
use Rattle.bl_queue.specs.declared.job.Job.{Job}
use Rattle.bl_queue.specs.declared.job_status.JobStatus.TheVariants.{InQueue}
use Rattle.bl_queue.specs.Statuses.{has_failed, is_in_progress, is_to_start}
use Rattle.bl_queue.specs.Limits.{most_queued}
use Rattle.bl_queue.specs.Jobs.{IsFeed, IsDependency, IsNumbered, IsUnfailed, has_open, is_unended, number_in, waits}
use Rattle.bl_queue.specs.Doomed.{IsDoomed, IsFate, LeadsToFailure, unsatisfied}
use Rattle.bl_queue.specs.Pass.{AreOrdered}
use Rattle.bl_queue.proofs.DoomedJobs.{dependency_stands, leads, not_failed, zip_at, zip_same}

-- what the list is before, between and after the steps of a change
pub record AreSteady (last : ℕ) (jobs : List Job) : Type 0 where
  pub rising : AllPairs (λ a b. a.number < b.number) jobs
  pub numbered : All (λ job. IsNumbered last job) jobs
  pub behind : AllPairs (λ a b. is_unended a ≡ true → is_unended b ≡ true → b.status ≡ InQueue) jobs
  pub queued : count_by waits jobs ≤ most_queued
  pub earlier : All (λ job. is_unended job ≡ true → All (λ id. number_in id < job.number) job.request.dependencies) jobs
  pub running : All (λ job. has_open job ≡ is_in_progress job.status) jobs
  pub fresh : All (λ job. is_to_start job.status ≡ true → job.feeds ≡ []) jobs
  pub feeds : All (λ job. AreFeeds job.feeds) jobs
  pub each : All (λ job. All IsFeed job.feeds) jobs

pub ordered : (last : ℕ) (jobs : List Job) → AreSteady last jobs → AreOrdered jobs
ordered last jobs steady = record {
  rising = steady.rising;
  ids = All-weaker (λ job. IsNumbered last job) (λ job. number_in job.id ≡ job.number) (λ job numbered. numbered.id) jobs steady.numbered;
  earlier = steady.earlier;
}

pub count_cons : (x : Job) (xs : List Job) → count_by waits (x ∷ xs) ≡ cond (waits x) 1 0 + count_by waits xs
count_cons x xs = sum_by-cons (λ (job : Job). cond (waits job) 1 0) x xs

fewer_by : (a b : Bool) (m n : ℕ) → (b ≡ true → a ≡ true) → n ≤ m → cond b 1 0 + n ≤ cond a 1 0 + m
fewer_by true true m n h less = omega arith
fewer_by true false m n h less = omega arith
fewer_by false true m n h less = absurd (true≢false (sym (h refl)))
fewer_by false false m n h less = omega arith

-- fewer wait where each that waits did so before
pub fewer_wait : (xs ys : List Job) → AllZip (λ x y. waits y ≡ true → waits x ≡ true) xs ys → count_by waits ys ≤ count_by waits xs
fewer_wait [] [] zip = omega arith
fewer_wait [] (y ∷ ys) zip = absurd zip
fewer_wait (x ∷ xs) [] zip = absurd zip
fewer_wait (x ∷ xs) (y ∷ ys) zip = omega (arith, count_cons x xs, count_cons y ys, fewer_by (waits x) (waits y) (count_by waits xs) (count_by waits ys) zip.0 (fewer_wait xs ys zip.1))

module _ (moment last : ℕ) (before : List Job) (steady : AreSteady last before) (calm : All (λ job. is_in_progress job.status ≡ true → IsUnfailed before job) before) where
  doomed_rests : (job : Job) → Contains before job → IsDoomed before job → is_in_progress job.status ≡ false
  doomed_rests job kept doomed =
      elim (cases_Bool (is_in_progress job.status)) [
        | inl running ↦ absurd (walked running doomed.1 doomed.2)
        | inr resting ↦ resting
      ] where
        walked : is_in_progress job.status ≡ true → (walk : List Job) → LeadsToFailure before job walk → ⊥
        walked running [] failed = not_failed job.status doomed.0 failed
        walked running (next ∷ []) walks =
            let unfailed : IsUnfailed before job = All-contains (λ (x : Job). is_in_progress x.status ≡ true → IsUnfailed before x) before job calm kept running in
            true≢false (sym walks.2 ∙ All-contains (λ (x : Job). Contains job.request.dependencies x.id → has_failed x.status ≡ false) before next unfailed walks.1.0 walks.1.1)
        walked running (next ∷ after ∷ walk) walks =
            let below : walks.1.0.0 < kept.0 = dependency_stands moment before (ordered last before steady) kept.0 job next kept.1 kept.2 doomed.0 walks.1 in
            let is_next : get_or before walks.1.0.0 job ≡ next = get_or_default before walks.1.0.0 job next walks.1.0.1 ∙ walks.1.0.2 in
            let queued : (get_or before kept.0 job).status ≡ InQueue = steady.behind walks.1.0.0 kept.0 job below kept.1 (ap is_unended is_next ∙ walks.2.0) (ap is_unended kept.2 ∙ doomed.0) in
            true≢false (sym running ∙ ap (λ (x : Job). is_in_progress x.status) (sym kept.2) ∙ ap is_in_progress queued)

  by_fate : (P : Job → Type 0) (old new : Job) → IsFate moment before old new → (IsDoomed before old → P (unsatisfied moment old)) → P old → P new
  by_fate P old new (inl fate) doomed stays = subst P (sym fate.1) (doomed fate.0)
  by_fate P old new (inr fate) doomed stays = subst P (sym fate.1) stays

  module _ (ended : List Job) (fates : AllZip (IsFate moment before) before ended) where
    same : length ended ≡ length before
    same = sym (zip_same (IsFate moment before) before ended fates)

    fate_at : (k : ℕ) (d : Job) → k < length ended → IsFate moment before (get_or before k d) (get_or ended k d)
    fate_at k d below = zip_at (IsFate moment before) before ended fates k d (omega (arith, same))

    fated_all : (P : Job → Type 0) → ((job : Job) → Contains before job → IsDoomed before job → P job → P (unsatisfied moment job)) → All P before → All P ended
    fated_all P ends all k d below =
        let within : k < length before = omega (arith, same) in
        let old : Job = get_or before k d in
        by_fate P old (get_or ended k d) (fate_at k d below) (λ doomed. ends old (k, within, get_or_default before k old d within) doomed (all k d within)) (all k d within)

    same_number : (k : ℕ) (d : Job) → k < length ended → (get_or ended k d).number ≡ (get_or before k d).number
    same_number k d below = by_fate (λ (x : Job). x.number ≡ (get_or before k d).number) (get_or before k d) (get_or ended k d) (fate_at k d below) (λ doomed. refl) refl

    unended_same : (k : ℕ) (d : Job) → k < length ended → is_unended (get_or ended k d) ≡ true → (¬ IsDoomed before (get_or before k d)) × (get_or ended k d ≡ get_or before k d)
    unended_same k d below unended =
        elim (fate_at k d below) [
          | inl fate ↦ absurd (true≢false (sym unended ∙ ap is_unended fate.1))
          | inr fate ↦ fate
        ]

    ended_rising : AllPairs (λ a b. a.number < b.number) ended
    ended_rising i j d less below =
        let up : (get_or before i d).number < (get_or before j d).number = steady.rising i j d less (omega (arith, same)) in
        omega (arith, same_number i d (omega arith), same_number j d below)

    ended_behind : AllPairs (λ a b. is_unended a ≡ true → is_unended b ≡ true → b.status ≡ InQueue) ended
    ended_behind i j d less below one two =
        let a = unended_same i d (omega arith) one in
        let b = unended_same j d below two in
        ap (λ (x : Job). x.status) b.1 ∙ steady.behind i j d less (omega (arith, same)) (ap is_unended (sym a.1) ∙ one) (ap is_unended (sym b.1) ∙ two)

    waited : (old new : Job) → IsFate moment before old new → waits new ≡ true → waits old ≡ true
    waited old new (inl fate) h = absurd (true≢false (sym h ∙ ap waits fate.1))
    waited old new (inr fate) h = ap waits (sym fate.1) ∙ h

    zip_waited : (xs ys : List Job) → AllZip (IsFate moment before) xs ys → AllZip (λ x y. waits y ≡ true → waits x ≡ true) xs ys
    zip_waited [] [] zip = tt
    zip_waited [] (y ∷ ys) zip = absurd zip
    zip_waited (x ∷ xs) [] zip = absurd zip
    zip_waited (x ∷ xs) (y ∷ ys) zip = (waited x y zip.0, zip_waited xs ys zip.1)

    pub ended_steady : AreSteady last ended
    ended_steady = record {
      rising = ended_rising;
      numbered = fated_all (λ job. IsNumbered last job) (λ job kept doomed is. record { least = is.least; most = is.most; id = is.id; run = is.run }) steady.numbered;
      behind = ended_behind;
      queued = omega (arith, fewer_wait before ended (zip_waited before ended fates), steady.queued);
      earlier = fated_all (λ job. is_unended job ≡ true → All (λ id. number_in id < job.number) job.request.dependencies) (λ job kept doomed is h. is doomed.0) steady.earlier;
      running = fated_all (λ job. has_open job ≡ is_in_progress job.status) (λ job kept doomed is. is ∙ doomed_rests job kept doomed) steady.running;
      fresh = fated_all (λ job. is_to_start job.status ≡ true → job.feeds ≡ []) (λ job kept doomed is h. absurd (true≢false (sym h))) steady.fresh;
      feeds = fated_all (λ job. AreFeeds job.feeds) (λ job kept doomed is. is) steady.feeds;
      each = fated_all (λ job. All IsFeed job.feeds) (λ job kept doomed is. is) steady.each;
    }

    unfailed_by : (old other new : Job) → is_unended old ≡ true → (¬ IsDoomed before old) → IsDependency before old other → IsFate moment before other new → (b : Bool) → has_failed new.status ≡ b → b ≡ false
    unfailed_by old other new unended safe dependency fate true failed =
        let walk = leads moment before (ordered last before steady) old other new unended dependency failed fate in
        absurd (safe (unended, walk.0, walk.1))
    unfailed_by old other new unended safe dependency fate false failed = refl

    -- a job that is left depends on none that failed
    pub ended_unfailed : All (λ job. is_unended job ≡ true → IsUnfailed ended job) ended
    ended_unfailed k d below unended j e inside named =
        let left = unended_same k d below unended in
        let old : Job = get_or before k d in
        let other : Job = get_or before j e in
        let within : j < length before = omega (arith, same) in
        let new : Job = get_or ended j e in
        let id_is : new.id ≡ other.id = by_fate (λ (x : Job). x.id ≡ other.id) other new (fate_at j e inside) (λ doomed. refl) refl in
        let depends : Contains old.request.dependencies other.id = subst (λ (x : Job). Contains x.request.dependencies other.id) left.1 (subst (λ id. Contains (get_or ended k d).request.dependencies id) id_is named) in
        unfailed_by old other new (ap is_unended (sym left.1) ∙ unended) left.0 ((j, within, get_or_default before j other e within), depends) (fate_at j e inside) (has_failed new.status) refl
