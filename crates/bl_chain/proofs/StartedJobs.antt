-- A job that runs is the first unended one, so none that it depends on can fail.
use Rattle.std.specs.Prelude.{◌≡◌, ◌≢◌, ℕ, ◌+◌, ◌-◌, ◌<◌, ◌≤◌, ◌==◌, Bool, true, false, not, cond, List, [], ◌∷◌, ◌++◌, refl, IfSome, Contains, Some, ◌⊎◌}
use Rattle.std.specs.List.{All, AllZip, list_all}
use Rattle.std.proofs.Common.{sym, ap, subst, ◌∙◌, arith, inl, inr, get_or}
use Rattle.std.proofs.lemmas.Bool.{true≢false, cases_eq, cases_lt, cond_both, eqb-true, eq-eqb}
use Rattle.std.proofs.lemmas.List.{get_or_default}
use Rattle.std.proofs.lemmas.List.Elements.{All-contains, Contains-push_cases}
use Rattle.bl_value.specs.declared.log_code.LogCode.{LogCode}
use Rattle.bl_value.specs.declared.log_code.LogCode.TheVariants.{ListFault, NoPreviousLoad, SourceNotFound, TooManyFiles}
use Rattle.bl_files.specs.declared.feed.Feed.{Feed}
use Rattle.bl_files.specs.declared.load_request.LoadRequest.{LoadRequest}
use Rattle.bl_files.specs.declared.plan_result.PlanResult.{PlanResult}
use Rattle.bl_files.specs.declared.plan_result.PlanResult.TheVariants as plan
use Rattle.bl_files.specs.Statuses.{is_completed}
use Rattle.bl_files.proofs.Members.{first_member, later_member, member_cases, no_member}
use Rattle.bl_queue.specs.declared.job.Job.{Job}
use Rattle.bl_queue.specs.declared.job_status.JobStatus.{JobStatus}
use Rattle.bl_queue.specs.declared.job_status.JobStatus.TheVariants.{NotStarted, InQueue, InProgress, Completed, CancelledByUser, Failed, DependencyNotSatisfied}
use Rattle.bl_queue.specs.Statuses.{has_ended, has_failed, is_in_progress, is_in_queue}
use Rattle.bl_queue.specs.Jobs.{AreJobs, IsNumbered, IsUnfailed, Kept, front_job, is_unended, job_of, number_in, waits}
use Rattle.bl_queue.specs.Doomed.{IsDoomed, IsFate, IsSettled, LeadsToFailure, called_up, with_front}
use Rattle.bl_queue.specs.Changes.{IsChanged, IsSubmitted, IsTrimmed, new_job, with_job}
use Rattle.bl_queue.specs.Runs.{IsStarted, begun, cancelled_job, feeds_after, goes_on_from, job_after_feed, number_of, refused_job, run_after, running_job, started_job, whole_status}
use Rattle.bl_queue.specs.Rows.{fed_job}
use Rattle.bl_queue.proofs.ChangedJobs.{found_in, front_found, front_in, running_unended, some_and}
use Rattle.bl_entry.specs.declared.entry.Entry.{Entry}
use Rattle.bl_entry.specs.declared.entry.Entry.TheVariants.{Submit, Cancel, Start, Batch, FeedEnd as End}
use Rattle.bl_world.specs.Worlds.{Fits, IsKeptAfter, IsWorldOf, World}
use Rattle.bl_world.proofs.EndedJobs.{ended_jobs_stay, one_job}
use Rattle.bl_world.proofs.SureWorlds.{have_jobs}
use Rattle.bl_chain.specs.EarlierLoads.{NoBatchesBehind, PreviousLoadsHaveEnded, StartedJobsAreSatisfied}
use Rattle.bl_chain.proofs.FedFiles.{closed_all}
use Rattle.bl_chain.proofs.KeptJobs.{trimmed_in}
use Rattle.bl_chain.proofs.OneEntryMore.{older_before}
use Rattle.bl_chain.proofs.StartedLoads.{older_in}

-- ---- unended jobs

-- a job in this status was never started
abbrev pub is_unrun : JobStatus → Bool
is_unrun NotStarted = true
is_unrun InQueue = true
is_unrun InProgress = false
is_unrun Completed = false
is_unrun CancelledByUser = false
is_unrun Failed = false
is_unrun DependencyNotSatisfied = true

progress_waits : (s : JobStatus) → is_in_progress s ≡ true → is_in_queue s ≡ false
progress_waits NotStarted h = absurd (true≢false (sym h))
progress_waits InQueue h = absurd (true≢false (sym h))
progress_waits InProgress h = refl
progress_waits Completed h = absurd (true≢false (sym h))
progress_waits CancelledByUser h = absurd (true≢false (sym h))
progress_waits Failed h = absurd (true≢false (sym h))
progress_waits DependencyNotSatisfied h = absurd (true≢false (sym h))

progress_fails : (s : JobStatus) → is_in_progress s ≡ true → has_failed s ≡ false
progress_fails NotStarted h = absurd (true≢false (sym h))
progress_fails InQueue h = absurd (true≢false (sym h))
progress_fails InProgress h = refl
progress_fails Completed h = absurd (true≢false (sym h))
progress_fails CancelledByUser h = absurd (true≢false (sym h))
progress_fails Failed h = absurd (true≢false (sym h))
progress_fails DependencyNotSatisfied h = absurd (true≢false (sym h))

module _ (kept : Kept) (are : AreJobs kept) where
  -- of two unended jobs the later one waits
  later_waits : (a b : Job) → Contains kept.jobs a → Contains kept.jobs b → a.number < b.number → is_unended a ≡ true → is_unended b ≡ true → waits b ≡ true
  later_waits a b one two less goes also =
      let at_a : (d : Job) → get_or kept.jobs one.0 d ≡ a = λ d. get_or_default kept.jobs one.0 d a one.1 ∙ one.2 in
      let at_b : (d : Job) → get_or kept.jobs two.0 d ≡ b = λ d. get_or_default kept.jobs two.0 d b two.1 ∙ two.2 in
      elim (cases_lt one.0 two.0) [
        | inl before ↦
            (let behind : (get_or kept.jobs two.0 a).status ≡ InQueue = are.behind one.0 two.0 a before two.1 (ap is_unended (at_a a) ∙ goes) (ap is_unended (at_b a) ∙ also) in
            ap waits (sym (at_b a)) ∙ ap is_in_queue behind)
        | inr most ↦ (elim (cases_eq one.0 two.0) [
          | inl same ↦
              (let e : a ≡ b = sym (at_a a) ∙ ap (λ k. get_or kept.jobs k a) same ∙ at_b a in
              let n : a.number ≡ b.number = ap (λ (x : Job). x.number) e in
              absurd (omega (arith, less, n)))
          | inr apart ↦
              (let up : (get_or kept.jobs two.0 a).number < (get_or kept.jobs one.0 a).number = are.rising two.0 one.0 a (omega (arith, most, apart)) one.1 in
              let x : (get_or kept.jobs two.0 a).number ≡ b.number = ap (λ (j : Job). j.number) (at_b a) in
              let y : (get_or kept.jobs one.0 a).number ≡ a.number = ap (λ (j : Job). j.number) (at_a a) in
              absurd (omega (arith, up, x, y, less)))
        ])
      ]

  front_waits : (it : Job) → front_job kept.jobs ≡ Some it → waits it ≡ false
  front_waits it front = subst (λ o. IfSome o (λ job. waits job ≡ false)) front are.front

  before_front : (it older : Job) → front_job kept.jobs ≡ Some it → Contains kept.jobs older → older.number < it.number → has_ended older.status ≡ true
  before_front it older front there less = by (has_ended older.status) refl where
    by : (b : Bool) → has_ended older.status ≡ b → has_ended older.status ≡ true
    by true is = is
    by false is =
        let in_front = front_in kept.jobs it front in
        absurd (true≢false (sym (later_waits older it there in_front.0 less (ap not is) in_front.1) ∙ front_waits it front))

  -- ---- a list in which one job is changed

  -- the job was there, or it is a new one
  pub record WasThere (job : Job) : Type 0 where
    pub old : Job
    pub there : Contains kept.jobs old
    pub number : job.number ≡ old.number
    pub id : job.id ≡ old.id
    pub request : job.request ≡ old.request
    pub status : (job.status ≡ old.status) ⊎ (is_unended old ≡ true)
    pub runs : is_in_progress job.status ≡ true → (is_unended old ≡ true) × (waits old ≡ false)

  abbrev IsFresh : Job → Type 0
  IsFresh job = (kept.last < number_in job.id) × (job.status ≡ InQueue)

  abbrev IsFrom : List Job → Type 0
  IsFrom jobs = (job : Job) → Contains jobs job → WasThere job ⊎ IsFresh job

  was_itself : (job : Job) → Contains kept.jobs job → WasThere job
  was_itself job there = record {
    old = job;
    there = there;
    number = refl;
    id = refl;
    request = refl;
    status = inl refl;
    runs = λ runs. (running_unended job.status runs, progress_waits job.status runs);
  }

  undoomed : (jobs : List Job) → IsFrom jobs → (job : Job) → Contains jobs job → is_in_progress job.status ≡ true → ¬ (IsDoomed jobs job)
  undoomed jobs from job there runs doomed = by (from job there) doomed.1 doomed.2 where
    by : WasThere job ⊎ IsFresh job → (walk : List Job) → LeadsToFailure jobs job walk → ⊥
    by (inr fresh) walk leads = true≢false (sym runs ∙ ap is_in_progress fresh.1)
    by (inl was) [] leads = true≢false (sym leads ∙ progress_fails job.status runs)
    by (inl was) (next ∷ walk) leads = on (from next leads.1.0) walk leads.2 where
      old : (is_unended was.old ≡ true) × (waits was.old ≡ false)
      old = was.runs runs

      named : Contains was.old.request.dependencies next.id
      named = subst (λ (r : LoadRequest). Contains r.dependencies next.id) was.request leads.1.1

      below : number_in next.id < was.old.number
      below =
          All-contains (λ id. number_in id < was.old.number) was.old.request.dependencies next.id
          (All-contains (λ (x : Job). is_unended x ≡ true → All (λ id. number_in id < x.number) x.request.dependencies) kept.jobs was.old are.earlier was.there old.0) named

      on : WasThere next ⊎ IsFresh next → (walk : List Job) → LeadsToFailure jobs next walk → ⊥
      on (inr fresh) walk rest =
          let most : was.old.number ≤ kept.last = (All-contains (λ (x : Job). IsNumbered kept.last x) kept.jobs was.old are.numbered was.there).most in
          absurd (omega (arith, most, below, fresh.0))
      on (inl before) walk rest = at (is_unended before.old) refl where
        less : before.old.number < was.old.number
        less =
            let own : number_in before.old.id ≡ before.old.number = (All-contains (λ (x : Job). IsNumbered kept.last x) kept.jobs before.old are.numbered before.there).id in
            let same : number_in next.id ≡ number_in before.old.id = ap number_in before.id in
            omega (arith, below, own, same)

        unfailed : has_failed before.old.status ≡ false
        unfailed =
            All-contains (λ (x : Job). Contains was.old.request.dependencies x.id → has_failed x.status ≡ false) kept.jobs before.old
            (All-contains (λ (x : Job). is_unended x ≡ true → IsUnfailed kept.jobs x) kept.jobs was.old are.unfailed was.there old.0) before.there
            (subst (λ id. Contains was.old.request.dependencies id) before.id named)

        at : (b : Bool) → is_unended before.old ≡ b → ⊥
        at true goes = true≢false (sym (later_waits before.old was.old before.there was.there less goes old.0) ∙ old.1)
        at false ended = still before.status walk rest where
          still : (next.status ≡ before.old.status) ⊎ (is_unended before.old ≡ true) → (walk : List Job) → LeadsToFailure jobs next walk → ⊥
          still (inr goes) walk rest = true≢false (sym goes ∙ ended)
          still (inl same) [] rest = true≢false (sym rest ∙ ap has_failed same ∙ unfailed)
          still (inl same) (other ∷ walk) rest = true≢false (sym rest.0 ∙ ap (λ s. not (has_ended s)) same ∙ ended)

-- ---- the jobs settle

abbrev Unrun : Job → Type 0
Unrun job = is_unrun job.status ≡ true → job.run ≡ 0

fate_run : (moment : ℕ) (jobs : List Job) (old new : Job) → IsFate moment jobs old new → Unrun old → (is_in_progress old.status ≡ true → ¬ (IsDoomed jobs old)) → Unrun new
fate_run moment jobs old new (inr same) unrun safe = subst Unrun (sym same.1) unrun
fate_run moment jobs old new (inl ended) unrun safe = subst Unrun (sym ended.1) (λ h. by old.status refl) where
  by : (s : JobStatus) → old.status ≡ s → old.run ≡ 0
  by NotStarted is = unrun (ap is_unrun is)
  by InQueue is = unrun (ap is_unrun is)
  by InProgress is = absurd (safe (ap is_in_progress is) ended.0)
  by Completed is = absurd (true≢false (sym ended.0.0 ∙ ap (λ s. not (has_ended s)) is))
  by CancelledByUser is = absurd (true≢false (sym ended.0.0 ∙ ap (λ s. not (has_ended s)) is))
  by Failed is = absurd (true≢false (sym ended.0.0 ∙ ap (λ s. not (has_ended s)) is))
  by DependencyNotSatisfied is = unrun (ap is_unrun is)

zip_member : (R : Job → Job → Type 0) (xs ys : List Job) → AllZip R xs ys → (y : Job) → Contains ys y → (x : Job) × Contains xs x × R x y
zip_member R [] [] zip y h = no_member y h
zip_member R [] (z ∷ ys) zip y h = absurd zip
zip_member R (x ∷ xs) [] zip y h = absurd zip
zip_member R (x ∷ xs) (z ∷ ys) zip y h =
    elim (member_cases z ys y h) [
      | inl same ↦ (x, first_member x xs, subst (λ w. R x w) same zip.0)
      | inr later ↦ (let rest = zip_member R xs ys zip.1 y later in (rest.0, later_member x xs rest.0 rest.1, rest.2))
    ]

queue_unrun : (s : JobStatus) → is_in_queue s ≡ true → is_unrun s ≡ true
queue_unrun NotStarted h = refl
queue_unrun InQueue h = refl
queue_unrun InProgress h = absurd (true≢false (sym h))
queue_unrun Completed h = absurd (true≢false (sym h))
queue_unrun CancelledByUser h = absurd (true≢false (sym h))
queue_unrun Failed h = absurd (true≢false (sym h))
queue_unrun DependencyNotSatisfied h = refl

called_run : (job : Job) → Unrun job → Unrun (called_up job)
called_run job unrun = cond_both (waits job) (record job { status = NotStarted }) job Unrun (λ queued h. unrun (queue_unrun job.status queued)) (λ h. unrun)

front_run : (jobs : List Job) → ((job : Job) → Contains jobs job → Unrun job) → (y : Job) → Contains (with_front jobs) y → Unrun y
front_run [] all y h = no_member y h
front_run (job ∷ jobs) all y h = by (is_unended job) (front_run jobs (λ x k. all x (later_member job jobs x k)) y) h where
  by : (b : Bool) → (Contains (with_front jobs) y → Unrun y) → Contains (cond b (called_up job ∷ jobs) (job ∷ with_front jobs)) y → Unrun y
  by true rest h =
      elim (member_cases (called_up job) jobs y h) [
        | inl same ↦ subst Unrun same (called_run job (all job (first_member job jobs)))
        | inr later ↦ all y (later_member job jobs y later)
      ]
  by false rest h =
      elim (member_cases job (with_front jobs) y h) [
        | inl same ↦ subst Unrun same (all job (first_member job jobs))
        | inr later ↦ rest later
      ]

settled_run : (kept : Kept) (are : AreJobs kept) (moment : ℕ) (jobs after : List Job) → IsFrom kept are jobs → ((job : Job) → Contains jobs job → Unrun job) → IsSettled moment jobs after → (y : Job) → Contains after y → Unrun y
settled_run kept are moment jobs after from all settled y h =
    front_run settled.0
    (λ x k.
    let old = zip_member (IsFate moment jobs) jobs settled.0 settled.1 x k in
    fate_run moment jobs old.0 x old.2 (all old.0 old.1) (λ runs. undoomed kept are jobs from old.0 old.1 runs)) y (subst (λ l. Contains l y) settled.2 h)

-- ---- one job is changed

with_member : (number : ℕ) (change : Job → Job) (jobs : List Job) (y : Job) → Contains (with_job number change jobs) y → (old : Job) × Contains jobs old × (((old.number ≡ number) × (change old ≡ y)) ⊎ ((old.number ≢ number) × (old ≡ y)))
with_member number change [] y h = no_member y h
with_member number change (job ∷ jobs) y h =
    elim (member_cases (cond (job.number == number) (change job) job) (with_job number change jobs) y h) [
      | inl same ↦ by (job.number == number) refl same
      | inr later ↦ (let rest = with_member number change jobs y later in (rest.0, later_member job jobs rest.0 rest.1, rest.2))
    ] where
      by : (b : Bool) → (job.number == number) ≡ b → cond b (change job) job ≡ y → (old : Job) × Contains (job ∷ jobs) old × (((old.number ≡ number) × (change old ≡ y)) ⊎ ((old.number ≢ number) × (old ≡ y)))
      by true is same = (job, first_member job jobs, inl (eqb-true job.number number is, same))
      by false is same = (job, first_member job jobs, inr ((λ e. true≢false (sym (eq-eqb job.number number e) ∙ is)), same))

-- what a change of an unended job keeps
pub record Keeps (old new : Job) : Type 0 where
  pub number : new.number ≡ old.number
  pub id : new.id ≡ old.id
  pub request : new.request ≡ old.request
  pub runs : is_in_progress new.status ≡ true → waits old ≡ false
  pub unrun : Unrun old → Unrun new

module _ (kept : Kept) (are : AreJobs kept) (all : (job : Job) → Contains kept.jobs job → Unrun job) where
  changed_run : (moment number : ℕ) (change : Job → Job) (it : Job) (new : Kept) → Contains kept.jobs it → it.number ≡ number → is_unended it ≡ true → Keeps it (change it) → IsChanged moment number change kept new → (y : Job) → Contains new.jobs y → Unrun y
  changed_run moment number change it new there same goes keeps changed y h =
      settled_run kept are moment (with_job number change kept.jobs) changed.0
      (λ job k.
      let old = with_member number change kept.jobs job k in
      elim old.2 [
        | inl is ↦
            (let one : it ≡ old.0 = one_job kept are it old.0 there old.1 (same ∙ sym is.0) in
            let kept_now : Keeps it job = subst (λ x. Keeps it x) (ap change one ∙ is.1) keeps in
            inl (record { old = it; there = there; number = kept_now.number; id = kept_now.id; request = kept_now.request; status = inr goes; runs = λ runs. (goes, kept_now.runs runs) }))
        | inr is ↦ inl (subst (λ x. WasThere kept are x) is.1 (was_itself kept are old.0 old.1))
      ])
      (λ job k.
      let old = with_member number change kept.jobs job k in
      elim old.2 [
        | inl is ↦
            (let one : it ≡ old.0 = one_job kept are it old.0 there old.1 (same ∙ sym is.0) in
            subst Unrun (ap change one ∙ is.1) (keeps.unrun (all it there)))
        | inr is ↦ subst Unrun is.1 (all old.0 old.1)
      ])
      changed.1 y (subst (λ (k : Kept). Contains k.jobs y) changed.2 h)

  whole_unrun : (feeds : List Feed) → is_unrun (whole_status feeds) ≡ false
  whole_unrun feeds = cond_both (list_all (λ (feed : Feed). is_completed feed.status) feeds) Completed Failed (λ s. is_unrun s ≡ false) (λ h. refl) (λ h. refl)

  -- the job at the front is changed
  front_run_on : (moment number : ℕ) (change : Job → Job) (it : Job) (new : Kept) → front_job kept.jobs ≡ Some it → it.number ≡ number → (change it).number ≡ it.number → (change it).id ≡ it.id → (change it).request ≡ it.request → (Unrun it → Unrun (change it)) → IsChanged moment number change kept new → (y : Job) → Contains new.jobs y → Unrun y
  front_run_on moment number change it new front same number_is id_is request_is unrun changed =
      let there = front_in kept.jobs it front in
      changed_run moment number change it new there.0 same there.1 (record { number = number_is; id = id_is; request = request_is; runs = λ runs. front_waits kept are it front; unrun = unrun }) changed

  refused_run : (moment number : ℕ) (code : LogCode) (it : Job) (new : Kept) → front_job kept.jobs ≡ Some it → it.number ≡ number → IsChanged moment number (refused_job moment (run_after (goes_on_from kept.jobs number)) (number_of (goes_on_from kept.jobs number)) code) kept new → (y : Job) → Contains new.jobs y → Unrun y
  refused_run moment number code it new front same changed =
      front_run_on moment number (refused_job moment (run_after (goes_on_from kept.jobs number)) (number_of (goes_on_from kept.jobs number)) code) it new front same refl refl refl (λ unrun h. absurd (true≢false (sym h))) changed

  started_run : (moment number : ℕ) (planned : PlanResult) (it : Job) (new : Kept) → front_job kept.jobs ≡ Some it → it.number ≡ number → IsStarted moment number planned kept new → (y : Job) → Contains new.jobs y → Unrun y
  started_run moment number (plan.Feeds found) it new front same started =
      let run : ℕ = run_after (goes_on_from kept.jobs number) in
      let previous : ℕ = number_of (goes_on_from kept.jobs number) in
      let going : Job = record (started_job moment run previous it) { status = InProgress; feeds = begun it.request.fail_on_error started.0 } in
      front_run_on moment number (running_job moment run previous started.0) it new front same
      (closed_all (λ x. x.number ≡ it.number) going (λ h. refl) (λ h. refl)) (closed_all (λ x. x.id ≡ it.id) going (λ h. refl) (λ h. refl)) (closed_all (λ x. x.request ≡ it.request) going (λ h. refl) (λ h. refl))
      (λ unrun. closed_all Unrun going (λ left h. absurd (true≢false (sym h))) (λ none h. absurd (true≢false (sym h ∙ whole_unrun (begun it.request.fail_on_error started.0))))) started.2
  started_run moment number plan.NoPrevious it new front same started = refused_run moment number NoPreviousLoad it new front same started
  started_run moment number plan.SourceNotFound it new front same started = refused_run moment number SourceNotFound it new front same started
  started_run moment number plan.ListFault it new front same started = refused_run moment number ListFault it new front same started
  started_run moment number (plan.TooManyFiles n) it new front same started = refused_run moment number TooManyFiles it new front same started

  ended_run : (moment number place : ℕ) (how : _) (it : Job) (new : Kept) → front_job kept.jobs ≡ Some it → it.number ≡ number → IsChanged moment number (job_after_feed moment place how) kept new → (y : Job) → Contains new.jobs y → Unrun y
  ended_run moment number place how it new front same changed =
      let going : Job = record it { latest = moment; feeds = feeds_after it.request.fail_on_error place how it.feeds } in
      front_run_on moment number (job_after_feed moment place how) it new front same
      (closed_all (λ x. x.number ≡ it.number) going (λ h. refl) (λ h. refl)) (closed_all (λ x. x.id ≡ it.id) going (λ h. refl) (λ h. refl)) (closed_all (λ x. x.request ≡ it.request) going (λ h. refl) (λ h. refl))
      (λ unrun. closed_all Unrun going (λ left. unrun) (λ none h. absurd (true≢false (sym h ∙ whole_unrun (feeds_after it.request.fail_on_error place how it.feeds))))) changed

  submitted_run : (moment id : ℕ) (request : LoadRequest) (new : Kept) → number_in id ≡ kept.last + 1 → IsSubmitted moment id request kept new → (y : Job) → Contains new.jobs y → Unrun y
  submitted_run moment id request new number submitted y h =
      let fresh : Job = new_job moment (kept.last + 1) id request in
      let jobs : List Job = kept.jobs ++ fresh ∷ [] in
      let cut : IsTrimmed moment jobs submitted.0 = submitted.1 in
      settled_run kept are moment jobs cut.0
      (λ job k. elim (Contains-push_cases kept.jobs fresh job k) [
        | inl there ↦ inl (was_itself kept are job there)
        | inr same ↦ inr (subst (λ x. IsFresh kept are x) same (omega (arith, number), refl))
      ])
      (λ job k. elim (Contains-push_cases kept.jobs fresh job k) [
        | inl there ↦ all job there
        | inr same ↦ subst Unrun same (λ h2. refl)
      ])
      cut.1 y (trimmed_in cut.0 y (subst (λ l. Contains l y) cut.2 (subst (λ (k : Kept). Contains k.jobs y) submitted.2 h)))

-- ---- every world

after_run : (before : World) (entry : Entry) (new : Kept) → AreJobs before.kept → ((job : Job) → Contains before.kept.jobs job → Unrun job) → Fits before entry → IsKeptAfter entry before.kept new → (y : Job) → Contains new.jobs y → Unrun y
after_run before (Submit moment number id request) new are all fits after = submitted_run before.kept are all moment id request new (fits.1 ∙ fits.0) after
after_run before (Cancel moment number) new are all fits after =
    let one = some_and (job_of number before.kept.jobs) (λ it. is_unended it ≡ true) fits in
    let found = found_in number before.kept.jobs one.0 one.1 in
    changed_run before.kept are all moment number (cancelled_job moment) one.0 new found.0 found.1 one.2
    (record { number = refl; id = refl; request = refl; runs = λ runs. absurd (true≢false (sym runs)); unrun = λ unrun h. absurd (true≢false (sym h)) }) after
after_run before (Start moment number planned) new are all fits after = started_run before.kept are all moment number planned fits.it new fits.front fits.number_is after
after_run before (Batch moment number place from rows digest duplicates logs changes) new are all fits after = λ y h.
    let old = with_member number (fed_job moment (place - 1) rows digest duplicates logs) before.kept.jobs y (subst (λ (k : Kept). Contains k.jobs y) after h) in
    elim old.2 [
      | inl is ↦ subst Unrun is.1 (all old.0 old.1)
      | inr is ↦ subst Unrun is.1 (all old.0 old.1)
    ]
after_run before (End moment number place how) new are all fits after = ended_run before.kept are all moment number (place - 1) how fits.it new fits.next.0 fits.next.1 after

all_run : (entries : List Entry) (world : World) → IsWorldOf entries world → (job : Job) → Contains world.kept.jobs job → Unrun job
all_run [] world is job h = no_member job (subst (λ (w : World). Contains w.kept.jobs job) is h)
all_run (entry ∷ older) world is job h = after_run is.0 entry world.kept (have_jobs older is.0 is.1) (all_run older is.0 is.1) is.2.follows.fits is.2.next.kept job h

pub satisfied : StartedJobsAreSatisfied
satisfied entries world it is there status = all_run entries world is it there (ap is_unrun status)

pub previous_ended : PreviousLoadsHaveEnded
previous_ended entries world it older is front from =
    let are : AreJobs world.kept = have_jobs entries world is in
    before_front world.kept are it older front (older_in world.kept.jobs it.number older from) (older_before world.kept.jobs it.number it older (front_found world.kept.jobs it are.rising front) from)

pub none_behind : NoBatchesBehind
none_behind newer older before after it previous moment place from rows digest duplicates logs changes first later front goes fits =
    let next = front_in after.kept.jobs fits.it fits.next.0 in
    let stays : fits.it ≡ previous =
    ended_jobs_stay newer older before after first later previous fits.it (older_in before.kept.jobs it.number previous goes) (previous_ended older before it previous first front goes) next.0 fits.next.1 in
    absurd (true≢false (sym next.1 ∙ ap (λ (x : Job). is_unended x) stays ∙ ap not (previous_ended older before it previous first front goes)))
