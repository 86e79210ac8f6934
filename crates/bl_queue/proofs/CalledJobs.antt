-- What a list of jobs keeps when its first unended job is called up.
use Rattle.std.specs.Prelude.{◌≡◌, ◌<◌, ◌≤◌, ℕ, Bool, true, false, not, cond, List, [], ◌∷◌, length, count_by, refl, All, AllPairs, Contains, IfSome, Some}
use Rattle.std.proofs.Common.{sym, ap, subst, ◌∙◌, arith, suc}
use Rattle.std.proofs.lemmas.Bool.{true≢false, cond_both}
use Rattle.std.proofs.lemmas.List.Elements.{All-cons, All-head, All-nil, All-tail, All-weaker}
use Rattle.std.proofs.lemmas.List.Kept.{AllPairs-cons}
use Rattle.bl_files.specs.Carried.{AreFeeds}
use Rattle.bl_queue.specs.declared.job.Job.{Job}
use Rattle.bl_queue.specs.declared.job_status.JobStatus.{JobStatus}
use Rattle.bl_queue.specs.declared.job_status.JobStatus.TheVariants.{NotStarted, InQueue, InProgress, Completed, CancelledByUser, Failed, DependencyNotSatisfied}
use Rattle.bl_queue.specs.Statuses.{has_ended, has_failed, is_in_progress, is_in_queue, is_to_start}
use Rattle.bl_queue.specs.Jobs.{IsFeed, IsNumbered, IsUnfailed, front_job, has_open, is_unended, number_in, waits}
use Rattle.bl_queue.specs.Doomed.{called_up, with_front}
use Rattle.bl_queue.proofs.FatedJobs.{AreSteady, count_cons}

-- ---- a job that is called up

called : (P : Job → Type 0) (job : Job) → (waits job ≡ true → P (record job { status = NotStarted })) → P job → P (called_up job)
called P job changed same = cond_both (waits job) (record job { status = NotStarted }) job P changed (λ h. same)

called_number : (job : Job) → (called_up job).number ≡ job.number
called_number job = called (λ x. x.number ≡ job.number) job (λ h. refl) refl

called_id : (job : Job) → (called_up job).id ≡ job.id
called_id job = called (λ x. x.id ≡ job.id) job (λ h. refl) refl

called_waits : (job : Job) → waits (called_up job) ≡ false
called_waits job = by (waits job) refl where
  by : (b : Bool) → waits job ≡ b → waits (cond b (record job { status = NotStarted }) job) ≡ false
  by true h = refl
  by false h = h

pub queued_unended : (s : JobStatus) → is_in_queue s ≡ true → not (has_ended s) ≡ true
queued_unended InQueue h = refl
queued_unended NotStarted h = refl
queued_unended InProgress h = refl
queued_unended Completed h = absurd (true≢false (sym h))
queued_unended CancelledByUser h = absurd (true≢false (sym h))
queued_unended Failed h = absurd (true≢false (sym h))
queued_unended DependencyNotSatisfied h = absurd (true≢false (sym h))

pub queued_rests : (s : JobStatus) → is_in_queue s ≡ true → is_in_progress s ≡ false
queued_rests InQueue h = refl
queued_rests NotStarted h = refl
queued_rests InProgress h = absurd (true≢false (sym h))
queued_rests Completed h = refl
queued_rests CancelledByUser h = refl
queued_rests Failed h = refl
queued_rests DependencyNotSatisfied h = refl

pub queued_to_start : (s : JobStatus) → is_in_queue s ≡ true → is_to_start s ≡ true
queued_to_start InQueue h = refl
queued_to_start NotStarted h = refl
queued_to_start InProgress h = absurd (true≢false (sym h))
queued_to_start Completed h = absurd (true≢false (sym h))
queued_to_start CancelledByUser h = absurd (true≢false (sym h))
queued_to_start Failed h = absurd (true≢false (sym h))
queued_to_start DependencyNotSatisfied h = absurd (true≢false (sym h))

called_unended : (job : Job) → is_unended job ≡ true → is_unended (called_up job) ≡ true
called_unended job unended = called (λ x. is_unended x ≡ true) job (λ h. refl) unended

-- ---- the list

front_by : (P : List Job → Type 0) (job : Job) (jobs : List Job) → (is_unended job ≡ true → P (called_up job ∷ jobs)) → (is_unended job ≡ false → P (job ∷ with_front jobs)) → P (with_front (job ∷ jobs))
front_by P job jobs unended ended = cond_both (is_unended job) (called_up job ∷ jobs) (job ∷ with_front jobs) P unended ended

pub front_all : (P : Job → Type 0) → ((job : Job) → P job → P (called_up job)) → (jobs : List Job) → All P jobs → All P (with_front jobs)
front_all P calls [] all = All-nil P
front_all P calls (job ∷ jobs) all =
    front_by (λ l. All P l) job jobs
    (λ unended. All-cons P (called_up job) jobs (calls job (All-head P job jobs all)) (All-tail P job jobs all))
    (λ ended. All-cons P job (with_front jobs) (All-head P job jobs all) (front_all P calls jobs (All-tail P job jobs all)))

module _ (R : Job → Job → Type 0) where
  pub pairs_head : (job : Job) (jobs : List Job) → AllPairs R (job ∷ jobs) → All (R job) jobs
  pairs_head job jobs pairs k d below = pairs 0 (suc k) d (omega arith) (omega arith)

  pub pairs_tail : (job : Job) (jobs : List Job) → AllPairs R (job ∷ jobs) → AllPairs R jobs
  pairs_tail job jobs pairs i j d less below = pairs (suc i) (suc j) d (omega arith) (omega arith)

  pub pairs_none : AllPairs R []
  pairs_none i j d less below = absurd (omega arith)

front_rising : (jobs : List Job) → AllPairs (λ a b. a.number < b.number) jobs → AllPairs (λ a b. a.number < b.number) (with_front jobs)
front_rising [] pairs = pairs
front_rising (job ∷ jobs) pairs =
    let R : Job → Job → Type 0 = λ a b. a.number < b.number in
    let above : All (λ (b : Job). job.number < b.number) jobs = pairs_head R job jobs pairs in
    front_by (λ l. AllPairs (λ a b. a.number < b.number) l) job jobs
    (λ unended. AllPairs-cons R (called_up job) jobs (subst (λ n. All (λ (b : Job). n < b.number) jobs) (sym (called_number job)) above) (pairs_tail R job jobs pairs))
    (λ ended. AllPairs-cons R job (with_front jobs) (front_all (λ (b : Job). job.number < b.number) (λ b less. subst (λ n. job.number < n) (sym (called_number b)) less) jobs above) (front_rising jobs (pairs_tail R job jobs pairs)))

abbrev Behind : Job → Job → Type 0
Behind a b = is_unended a ≡ true → is_unended b ≡ true → b.status ≡ InQueue

front_behind : (jobs : List Job) → AllPairs Behind jobs → AllPairs Behind (with_front jobs)
front_behind [] pairs = pairs
front_behind (job ∷ jobs) pairs =
    front_by (λ l. AllPairs Behind l) job jobs
    (λ unended. AllPairs-cons Behind (called_up job) jobs (λ k d below one two. pairs_head Behind job jobs pairs k d below unended two) (pairs_tail Behind job jobs pairs))
    (λ ended. AllPairs-cons Behind job (with_front jobs) (λ k d below one two. absurd (true≢false (sym one ∙ ended))) (front_behind jobs (pairs_tail Behind job jobs pairs)))

called_count : (job : Job) (jobs : List Job) → count_by waits (called_up job ∷ jobs) ≤ count_by waits (job ∷ jobs)
called_count job jobs =
    let none : ◌≡◌ {A = ℕ} (cond (waits (called_up job)) 1 0) 0 = ap (λ b. cond {A = ℕ} b 1 0) (called_waits job) in
    omega (arith, count_cons job jobs, count_cons (called_up job) jobs, none)

front_count : (jobs : List Job) → count_by waits (with_front jobs) ≤ count_by waits jobs
front_count [] = omega arith
front_count (job ∷ jobs) =
    front_by (λ l. count_by waits l ≤ count_by waits (job ∷ jobs)) job jobs
    (λ unended. called_count job jobs)
    (λ ended. omega (arith, count_cons job jobs, count_cons job (with_front jobs), front_count jobs))

-- the first unended job waits no longer
pub front_waits_not : (jobs : List Job) → IfSome (front_job (with_front jobs)) (λ job. waits job ≡ false)
front_waits_not [] = tt
front_waits_not (job ∷ jobs) =
    front_by (λ l. IfSome (front_job l) (λ x. waits x ≡ false)) job jobs
    (λ unended. subst (λ o. IfSome o (λ x. waits x ≡ false)) (sym (ap (λ b. cond b (Some (called_up job)) (front_job jobs)) (called_unended job unended))) (called_waits job))
    (λ ended. subst (λ o. IfSome o (λ x. waits x ≡ false)) (sym (ap (λ b. cond b (Some job) (front_job (with_front jobs))) ended)) (front_waits_not jobs))

pub front_length : (jobs : List Job) → length (with_front jobs) ≡ length jobs
front_length [] = refl
front_length (job ∷ jobs) = front_by (λ l. length l ≡ length (job ∷ jobs)) job jobs (λ unended. refl) (λ ended. ap suc (front_length jobs))

module _ (last : ℕ) (jobs : List Job) (steady : AreSteady last jobs) where
  -- a job that waits has all that is said of one that isn't started
  front_fresh : All (λ job. is_to_start job.status ≡ true → job.feeds ≡ []) (with_front jobs)
  front_fresh = front_all (λ job. is_to_start job.status ≡ true → job.feeds ≡ []) (λ job is. called (λ x. is_to_start x.status ≡ true → x.feeds ≡ []) job (λ h started. is (queued_to_start job.status h)) is) jobs steady.fresh

  pub front_steady : AreSteady last (with_front jobs)
  front_steady = record {
    rising = front_rising jobs steady.rising;
    numbered = front_all (λ job. IsNumbered last job) (λ job is. called (λ x. IsNumbered last x) job (λ h. record { least = is.least; most = is.most; id = is.id; run = is.run }) is) jobs steady.numbered;
    behind = front_behind jobs steady.behind;
    queued = omega (arith, front_count jobs, steady.queued);
    earlier = front_all (λ job. is_unended job ≡ true → All (λ id. number_in id < job.number) job.request.dependencies) (λ job is. called (λ x. is_unended x ≡ true → All (λ id. number_in id < x.number) x.request.dependencies) job (λ h unended. is (queued_unended job.status h)) is) jobs steady.earlier;
    running = front_all (λ job. has_open job ≡ is_in_progress job.status) (λ job is. called (λ x. has_open x ≡ is_in_progress x.status) job (λ h. is ∙ queued_rests job.status h) is) jobs steady.running;
    fresh = front_fresh;
    feeds = front_all (λ job. AreFeeds job.feeds) (λ job is. called (λ x. AreFeeds x.feeds) job (λ h. is) is) jobs steady.feeds;
    each = front_all (λ job. All IsFeed job.feeds) (λ job is. called (λ x. All IsFeed x.feeds) job (λ h. is) is) jobs steady.each;
  }

  others_unfailed : (job : Job) → IsUnfailed jobs job → IsUnfailed (with_front jobs) job
  others_unfailed job is = front_all (λ other. Contains job.request.dependencies other.id → has_failed other.status ≡ false) (λ other unfailed. called (λ x. Contains job.request.dependencies x.id → has_failed x.status ≡ false) other (λ h named. refl) unfailed) jobs is

  pub front_unfailed : All (λ job. is_unended job ≡ true → IsUnfailed jobs job) jobs → All (λ job. is_unended job ≡ true → IsUnfailed (with_front jobs) job) (with_front jobs)
  front_unfailed all =
      front_all (λ job. is_unended job ≡ true → IsUnfailed (with_front jobs) job)
      (λ job is. called (λ x. is_unended x ≡ true → IsUnfailed (with_front jobs) x) job (λ h unended. is (queued_unended job.status h)) is) jobs
      (All-weaker (λ job. is_unended job ≡ true → IsUnfailed jobs job) (λ job. is_unended job ≡ true → IsUnfailed (with_front jobs) job) (λ job is unended. others_unfailed job (is unended)) jobs all)
