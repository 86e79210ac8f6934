-- The list in which one job is changed, before the others settle.
use Rattle.std.specs.Prelude.{◌≡◌, ◌<◌, ◌≤◌, ℕ, ◌==◌, Bool, true, false, not, cond, List, [], ◌∷◌, length, map, refl, All, AllPairs, Contains, IsSomeAnd, Some, None}
use Rattle.std.specs.declared.option.Option.{Option}
use Rattle.std.proofs.Common.{sym, ap, subst, ◌∙◌, arith, get_or, suc, zero}
use Rattle.std.specs.List.{AllZip}
use Rattle.std.proofs.lemmas.Bool.{true≢false, cond_both, eqb-true, eq-eqb, ne_eqb}
use Rattle.std.proofs.lemmas.List.{get_or_default, get_or-map, length-map}
use Rattle.std.proofs.lemmas.List.Elements.{All-cons, All-contains, All-map, All-nil}
use Rattle.bl_files.specs.Carried.{AreFeeds}
use Rattle.bl_files.specs.declared.load_request.LoadRequest.{LoadRequest}
use Rattle.bl_files.specs.declared.log.Log.{Log}
use Rattle.bl_queue.specs.declared.job.Job.{Job}
use Rattle.bl_queue.specs.declared.job_status.JobStatus.{JobStatus}
use Rattle.bl_queue.specs.declared.job_status.JobStatus.TheVariants.{NotStarted, InQueue, InProgress, Completed, CancelledByUser, Failed, DependencyNotSatisfied}
use Rattle.bl_queue.specs.Statuses.{has_ended, has_failed, is_in_progress, is_to_start}
use Rattle.bl_queue.specs.Jobs.{AreJobs, IsFeed, IsNumbered, IsUnfailed, Kept, front_job, has_open, is_unended, job_of, number_in, waits}
use Rattle.bl_queue.specs.Changes.{ended_job, with_job}
use Rattle.bl_queue.specs.Doomed.{IsSettled}
use Rattle.bl_queue.proofs.DoomedJobs.{all_zip, dependency_stands}
use Rattle.bl_queue.proofs.FatedJobs.{AreSteady, fewer_wait, ordered}
use Rattle.bl_queue.proofs.CalledJobs.{pairs_head, pairs_tail, queued_to_start}
use Rattle.bl_queue.proofs.SettledJobs.{are_jobs, are_settled, settled_length}

-- a list of jobs is steady
pub steady_jobs : (kept : Kept) → AreJobs kept → AreSteady kept.last kept.jobs
steady_jobs kept are = record {
  rising = are.rising;
  numbered = are.numbered;
  behind = are.behind;
  queued = are.queued;
  earlier = are.earlier;
  running = are.running;
  fresh = are.fresh;
  feeds = are.feeds;
  each = are.each;
}

ended_rests : (s : JobStatus) → has_ended s ≡ true → is_in_progress s ≡ false
ended_rests NotStarted h = refl
ended_rests InQueue h = refl
ended_rests InProgress h = absurd (true≢false (sym h))
ended_rests Completed h = refl
ended_rests CancelledByUser h = refl
ended_rests Failed h = refl
ended_rests DependencyNotSatisfied h = refl

pub running_unended : (s : JobStatus) → is_in_progress s ≡ true → not (has_ended s) ≡ true
running_unended NotStarted h = refl
running_unended InQueue h = refl
running_unended InProgress h = refl
running_unended Completed h = absurd (true≢false (sym h))
running_unended CancelledByUser h = absurd (true≢false (sym h))
running_unended Failed h = absurd (true≢false (sym h))
running_unended DependencyNotSatisfied h = absurd (true≢false (sym h))

-- ---- the job of a number

pub found_at : (number : ℕ) (jobs : List Job) → AllPairs (λ a b. a.number < b.number) jobs → (k : ℕ) (d : Job) → k < length jobs → (get_or jobs k d).number ≡ number → job_of number jobs ≡ Some (get_or jobs k d)
found_at number [] up k d below is = absurd (omega arith)
found_at number (job ∷ jobs) up zero d below is = ap (λ b. cond b (Some job) (job_of number jobs)) (eq-eqb job.number number is)
found_at number (job ∷ jobs) up (suc k) d below is =
    let less : job.number < (get_or jobs k d).number = pairs_head (λ a b. a.number < b.number) job jobs up k d (omega arith) in
    ap (λ b. cond b (Some job) (job_of number jobs)) (ne_eqb job.number number (λ (e : job.number ≡ number). omega arith))
    ∙ found_at number jobs (pairs_tail (λ a b. a.number < b.number) job jobs up) k d (omega arith) is

pub some_is : (a b : Job) → Some a ≡ Some b → a ≡ b
some_is a b h = cc

pub some_and : (o : Option Job) (P : Job → Type 0) → IsSomeAnd o P → (job : Job) × (o ≡ Some job) × P job
some_and None P h = absurd h
some_and (Some job) P h = (job, refl, h)

-- a job of a number is kept
pub found_in : (number : ℕ) (jobs : List Job) (old : Job) → job_of number jobs ≡ Some old → Contains jobs old × (old.number ≡ number)
found_in number [] old h = absurd (cc)
found_in number (job ∷ jobs) old h = by (job.number == number) refl h (found_in number jobs old) where
  by : (b : Bool) → (job.number == number) ≡ b → cond b (Some job) (job_of number jobs) ≡ Some old → (job_of number jobs ≡ Some old → Contains jobs old × (old.number ≡ number)) → Contains (job ∷ jobs) old × (old.number ≡ number)
  by true is h rest = ((0, omega arith, some_is job old h), ap (λ (x : Job). x.number) (sym (some_is job old h)) ∙ eqb-true job.number number is)
  by false is h rest = let there = rest h in ((suc there.0.0, omega (arith, there.0.1), there.0.2), there.1)

-- so is the first unended one
pub front_in : (jobs : List Job) (old : Job) → front_job jobs ≡ Some old → Contains jobs old × (is_unended old ≡ true)
front_in [] old h = absurd (cc)
front_in (job ∷ jobs) old h = by (is_unended job) refl h (front_in jobs old) where
  by : (b : Bool) → is_unended job ≡ b → cond b (Some job) (front_job jobs) ≡ Some old → (front_job jobs ≡ Some old → Contains jobs old × (is_unended old ≡ true)) → Contains (job ∷ jobs) old × (is_unended old ≡ true)
  by true is h rest = ((0, omega arith, some_is job old h), ap is_unended (sym (some_is job old h)) ∙ is)
  by false is h rest = let there = rest h in ((suc there.0.0, omega (arith, there.0.1), there.0.2), there.1)

-- none before it is unended
pub front_first : (jobs : List Job) (old : Job) → AllPairs (λ a b. a.number < b.number) jobs → front_job jobs ≡ Some old → All (λ job. job.number < old.number → is_unended job ≡ false) jobs
front_first [] old up h = All-nil (λ job. job.number < old.number → is_unended job ≡ false)
front_first (job ∷ jobs) old up h = by (is_unended job) refl h (front_first jobs old (pairs_tail (λ a b. a.number < b.number) job jobs up)) where
  by : (b : Bool) → is_unended job ≡ b → cond b (Some job) (front_job jobs) ≡ Some old → (front_job jobs ≡ Some old → All (λ job. job.number < old.number → is_unended job ≡ false) jobs) → All (λ job. job.number < old.number → is_unended job ≡ false) (job ∷ jobs)
  by true is h rest =
      let same : job.number ≡ old.number = ap (λ (x : Job). x.number) (some_is job old h) in
      All-cons (λ job. job.number < old.number → is_unended job ≡ false) job jobs (λ less. absurd (omega arith))
      (λ k d below less. absurd (let above : job.number < (get_or jobs k d).number = pairs_head (λ a b. a.number < b.number) job jobs up k d below in omega arith))
  by false is h rest = All-cons (λ job. job.number < old.number → is_unended job ≡ false) job jobs (λ less. is) (rest h)

pub front_found : (jobs : List Job) (old : Job) → AllPairs (λ a b. a.number < b.number) jobs → front_job jobs ≡ Some old → job_of old.number jobs ≡ Some old
front_found jobs old up h =
    let there = front_in jobs old h in
    found_at old.number jobs up there.0.0 old there.0.1 (ap (λ (x : Job). x.number) there.0.2) ∙ ap Some there.0.2

-- ---- a change of one job

-- what a call may make of a job
pub record IsChange (jobs : List Job) (old new : Job) : Type 0 where
  pub number : new.number ≡ old.number
  pub id : new.id ≡ old.id
  pub request : new.request ≡ old.request
  pub run : new.run ≤ old.number
  pub begun : is_to_start new.status ≡ false
  pub running : has_open new ≡ is_in_progress new.status
  pub feeds : AreFeeds new.feeds
  pub each : All IsFeed new.feeds
  -- it stays unended only where it is the first
  pub first : is_unended new ≡ true → All (λ job. job.number < old.number → is_unended job ≡ false) jobs

module _ (moment number : ℕ) (change : Job → Job) (kept : Kept) (are : AreJobs kept) (old : Job) (found : job_of number kept.jobs ≡ Some old) (unended : is_unended old ≡ true) (is : IsChange kept.jobs old (change old)) where
  abbrev changed : Job → Job
  changed job = cond (job.number == number) (change job) job

  there : Contains kept.jobs old
  there = (found_in number kept.jobs old found).0

  old_number : old.number ≡ number
  old_number = (found_in number kept.jobs old found).1

  is_old : (k : ℕ) (d : Job) → k < length kept.jobs → ((get_or kept.jobs k d).number == number) ≡ true → get_or kept.jobs k d ≡ old
  is_old k d below match = some_is (get_or kept.jobs k d) old (sym (found_at number kept.jobs are.rising k d below (eqb-true (get_or kept.jobs k d).number number match)) ∙ found)

  pub change_at : (P : Job → Type 0) (k : ℕ) (d : Job) → k < length kept.jobs → (get_or kept.jobs k d ≡ old → P (change old)) → (((get_or kept.jobs k d).number == number) ≡ false → P (get_or kept.jobs k d)) → P (changed (get_or kept.jobs k d))
  change_at P k d below new same =
      cond_both ((get_or kept.jobs k d).number == number) (change (get_or kept.jobs k d)) (get_or kept.jobs k d) P
      (λ match. let one = is_old k d below match in subst (λ x. P (change x)) (sym one) (new one)) same

  change_all : (P : Job → Type 0) → P (change old) → All P kept.jobs → All P (map changed kept.jobs)
  change_all P new all = All-map P changed kept.jobs (λ k d below. change_at P k d below (λ one. new) (λ other. all k d below))

  change_pairs : (R : Job → Job → Type 0) → ((i j : ℕ) (d : Job) → i < j → j < length kept.jobs → R (changed (get_or kept.jobs i d)) (changed (get_or kept.jobs j d))) → AllPairs R (map changed kept.jobs)
  change_pairs R each i j d less below =
      let within : j < length kept.jobs = omega (arith, length-map kept.jobs changed) in
      subst (λ x. R x (get_or (map changed kept.jobs) j d)) (sym (get_or-map changed kept.jobs i d d (omega arith)))
      (subst (λ y. R (changed (get_or kept.jobs i d)) y) (sym (get_or-map changed kept.jobs j d d within)) (each i j d less within))

  same_number : (k : ℕ) (d : Job) → k < length kept.jobs → (changed (get_or kept.jobs k d)).number ≡ (get_or kept.jobs k d).number
  same_number k d below = change_at (λ x. x.number ≡ (get_or kept.jobs k d).number) k d below (λ one. is.number ∙ ap (λ (x : Job). x.number) (sym one)) (λ other. refl)

  pub same_id : (k : ℕ) (d : Job) → k < length kept.jobs → (changed (get_or kept.jobs k d)).id ≡ (get_or kept.jobs k d).id
  same_id k d below = change_at (λ x. x.id ≡ (get_or kept.jobs k d).id) k d below (λ one. is.id ∙ ap (λ (x : Job). x.id) (sym one)) (λ other. refl)

  pub same_request : (k : ℕ) (d : Job) → k < length kept.jobs → (changed (get_or kept.jobs k d)).request ≡ (get_or kept.jobs k d).request
  same_request k d below = change_at (λ x. x.request ≡ (get_or kept.jobs k d).request) k d below (λ one. is.request ∙ ap (λ (x : Job). x.request) (sym one)) (λ other. refl)

  unended_before : (k : ℕ) (d : Job) → k < length kept.jobs → is_unended (changed (get_or kept.jobs k d)) ≡ true → is_unended (get_or kept.jobs k d) ≡ true
  unended_before k d below = change_at (λ x. is_unended x ≡ true → is_unended (get_or kept.jobs k d) ≡ true) k d below (λ one h. ap is_unended one ∙ unended) (λ other h. h)

  other_same : (k : ℕ) (d : Job) → ((get_or kept.jobs k d).number ≡ number → ⊥) → changed (get_or kept.jobs k d) ≡ get_or kept.jobs k d
  other_same k d other = ap (λ b. cond b (change (get_or kept.jobs k d)) (get_or kept.jobs k d)) (ne_eqb (get_or kept.jobs k d).number number other)

  change_behind : (i j : ℕ) (d : Job) → i < j → j < length kept.jobs → is_unended (changed (get_or kept.jobs i d)) ≡ true → is_unended (changed (get_or kept.jobs j d)) ≡ true → (changed (get_or kept.jobs j d)).status ≡ InQueue
  change_behind i j d less below one =
      let up : (get_or kept.jobs i d).number < (get_or kept.jobs j d).number = are.rising i j d less below in
      change_at (λ x. is_unended x ≡ true → x.status ≡ InQueue) j d below
      (λ same two.
      let at : (get_or kept.jobs j d).number ≡ old.number = ap (λ (x : Job). x.number) same in
      absurd (true≢false (sym (unended_before i d (omega arith) one) ∙ is.first two i d (omega arith) (omega arith))))
      (λ other two. are.behind i j d less below (unended_before i d (omega arith) one) two)

  waited : (k : ℕ) (d : Job) → k < length kept.jobs → waits (changed (get_or kept.jobs k d)) ≡ true → waits (get_or kept.jobs k d) ≡ true
  waited k d below = change_at (λ x. waits x ≡ true → waits (get_or kept.jobs k d) ≡ true) k d below (λ one h. absurd (true≢false (sym (queued_to_start (change old).status h) ∙ is.begun))) (λ other h. h)

  zip_waited : AllZip (λ x y. waits y ≡ true → waits x ≡ true) kept.jobs (map changed kept.jobs)
  zip_waited = all_zip (λ x y. waits y ≡ true → waits x ≡ true) kept.jobs (map changed kept.jobs) (sym (length-map kept.jobs changed))
      (λ k d below. subst (λ y. waits y ≡ true → waits (get_or kept.jobs k d) ≡ true) (sym (get_or-map changed kept.jobs k d d below)) (waited k d below))

  new_earlier : is_unended (change old) ≡ true → All (λ id. number_in id < (change old).number) (change old).request.dependencies
  new_earlier h =
      subst (λ n. All (λ id. number_in id < n) (change old).request.dependencies) (sym is.number)
      (subst (λ (r : LoadRequest). All (λ id. number_in id < old.number) r.dependencies) (sym is.request)
      (All-contains (λ job. is_unended job ≡ true → All (λ id. number_in id < job.number) job.request.dependencies) kept.jobs old are.earlier there unended))

  new_numbered : IsNumbered kept.last (change old)
  new_numbered =
      let was : IsNumbered kept.last old = All-contains (λ job. IsNumbered kept.last job) kept.jobs old are.numbered there in
      record { least = omega (arith, is.number, was.least); most = omega (arith, is.number, was.most); id = ap number_in is.id ∙ was.id ∙ sym is.number; run = omega (arith, is.number, is.run) }

  pub changed_steady : AreSteady kept.last (with_job number change kept.jobs)
  changed_steady = record {
    rising = change_pairs (λ a b. a.number < b.number) (λ i j d less below. omega (arith, same_number i d (omega arith), same_number j d below, are.rising i j d less below));
    numbered = change_all (λ job. IsNumbered kept.last job) new_numbered are.numbered;
    behind = change_pairs (λ a b. is_unended a ≡ true → is_unended b ≡ true → b.status ≡ InQueue) change_behind;
    queued = omega (arith, fewer_wait kept.jobs (map changed kept.jobs) zip_waited, are.queued);
    earlier = change_all (λ job. is_unended job ≡ true → All (λ id. number_in id < job.number) job.request.dependencies) new_earlier are.earlier;
    running = change_all (λ job. has_open job ≡ is_in_progress job.status) is.running are.running;
    fresh = change_all (λ job. is_to_start job.status ≡ true → job.feeds ≡ []) (λ h. absurd (true≢false (sym h ∙ is.begun))) are.fresh;
    feeds = change_all (λ job. AreFeeds job.feeds) is.feeds are.feeds;
    each = change_all (λ job. All IsFeed job.feeds) is.each are.each;
  }

  -- a job in progress depends on none that ends now
  calm_at : (k : ℕ) (d : Job) → k < length kept.jobs → is_in_progress (changed (get_or kept.jobs k d)).status ≡ true → (j : ℕ) (e : Job) → j < length kept.jobs → Contains (get_or kept.jobs k d).request.dependencies (get_or kept.jobs j e).id → has_failed (changed (get_or kept.jobs j e)).status ≡ false
  calm_at k d below running j e inside named =
      let job : Job = get_or kept.jobs k d in
      let still : is_unended job ≡ true = unended_before k d below (running_unended (changed job).status running) in
      let other : Job = get_or kept.jobs j e in
      change_at (λ x. has_failed x.status ≡ false) j e inside
      (λ one.
      let before : j < k = dependency_stands moment kept.jobs (ordered kept.last kept.jobs (steady_jobs kept are)) k job other below (get_or_default kept.jobs k job d below) still ((j, inside, get_or_default kept.jobs j other e inside), named) in
      let is_other : get_or kept.jobs j d ≡ other = get_or_default kept.jobs j d e inside in
      let queued : job.status ≡ InQueue = are.behind j k d before below (ap is_unended (is_other ∙ one) ∙ unended) still in
      let up : (get_or kept.jobs j d).number < job.number = are.rising j k d before below in
      let at : (get_or kept.jobs j d).number ≡ old.number = ap (λ (x : Job). x.number) (is_other ∙ one) in
      let same : changed job ≡ job = other_same k d (λ (n : job.number ≡ number). omega (arith, old_number)) in
      absurd (true≢false (sym running ∙ ap (λ (x : Job). is_in_progress x.status) same ∙ ap is_in_progress queued)))
      (λ apart. are.unfailed k d below still j e inside named)

  pub changed_calm : All (λ job. is_in_progress job.status ≡ true → IsUnfailed (with_job number change kept.jobs) job) (with_job number change kept.jobs)
  changed_calm = All-map (λ job. is_in_progress job.status ≡ true → IsUnfailed (map changed kept.jobs) job) changed kept.jobs (λ k d below running.
      All-map (λ other. Contains (changed (get_or kept.jobs k d)).request.dependencies other.id → has_failed other.status ≡ false) changed kept.jobs (λ j e inside named.
      calm_at k d below running j e inside
      (subst (λ (r : LoadRequest). Contains r.dependencies (get_or kept.jobs j e).id) (same_request k d below) (subst (λ id. Contains (changed (get_or kept.jobs k d)).request.dependencies id) (same_id j e inside) named))))

  pub changed_jobs : (jobs : List Job) → IsSettled moment (with_job number change kept.jobs) jobs → AreJobs (record { last = kept.last; jobs = jobs })
  changed_jobs jobs settled =
      are_jobs kept.last jobs
      (are_settled moment kept.last (with_job number change kept.jobs) jobs changed_steady changed_calm settled)
      (omega (arith, settled_length moment (with_job number change kept.jobs) jobs settled, length-map kept.jobs changed, are.few))

-- ---- the job ends

ended_begun : (s : JobStatus) → has_ended s ≡ true → is_to_start s ≡ false
ended_begun NotStarted h = absurd (true≢false (sym h))
ended_begun InQueue h = absurd (true≢false (sym h))
ended_begun InProgress h = refl
ended_begun Completed h = refl
ended_begun CancelledByUser h = refl
ended_begun Failed h = refl
ended_begun DependencyNotSatisfied h = refl

pub end_change : (moment : ℕ) (status : JobStatus) (log : Option Log) (kept : Kept) → AreJobs kept → (old : Job) → Contains kept.jobs old → has_open old ≡ false → has_ended status ≡ true → IsChange kept.jobs old (ended_job moment status log old)
end_change moment status log kept are old there closed ends = record {
  number = refl;
  id = refl;
  request = refl;
  run = (All-contains (λ job. IsNumbered kept.last job) kept.jobs old are.numbered there).run;
  begun = ended_begun status ends;
  running = closed ∙ sym (ended_rests status ends);
  feeds = All-contains (λ job. AreFeeds job.feeds) kept.jobs old are.feeds there;
  each = All-contains (λ job. All IsFeed job.feeds) kept.jobs old are.each there;
  first = λ unended. absurd (true≢false (sym unended ∙ ap not ends));
}
