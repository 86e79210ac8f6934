-- What an entry leaves of the jobs that it doesn't change.
use Rattle.std.specs.Prelude.{◌≡◌, ◌≢◌, ℕ, zero, suc, ◌+◌, ◌==◌, nat_lt, Bool, true, false, cond, List, [], ◌∷◌, ◌++◌, length, remove, refl, Contains, ◌⊎◌}
use Rattle.std.specs.List.{AllZip, position_or_len}
use Rattle.std.proofs.Common.{sym, ap, subst, ◌∙◌, inl, inr}
use Rattle.std.proofs.lemmas.Bool.{true≢false, eqb-true, eq-eqb}
use Rattle.std.proofs.lemmas.List.Elements.{Contains-push_cases}
use Rattle.bl_files.specs.declared.load_request.LoadRequest.{LoadRequest}
use Rattle.bl_files.proofs.Members.{first_member, later_member, member_cases, no_member}
use Rattle.bl_queue.specs.declared.job.Job.{Job}
use Rattle.bl_queue.specs.declared.job_status.JobStatus.{JobStatus}
use Rattle.bl_queue.specs.declared.job_status.JobStatus.TheVariants.{NotStarted, InQueue, InProgress, Completed, CancelledByUser, Failed, DependencyNotSatisfied}
use Rattle.bl_queue.specs.Statuses.{has_ended, is_in_progress, is_in_queue, is_to_start}
use Rattle.bl_queue.specs.Jobs.{Kept, is_unended}
use Rattle.bl_queue.specs.Doomed.{IsFate, IsSettled, called_up, with_front}
use Rattle.bl_queue.specs.Changes.{IsChanged, IsSubmitted, IsTrimmed, new_job, trimmed, with_job}

-- the job has ended as a load does: all its files have
abbrev pub is_closed : JobStatus → Bool
is_closed NotStarted = false
is_closed InQueue = false
is_closed InProgress = false
is_closed Completed = true
is_closed CancelledByUser = false
is_closed Failed = true
is_closed DependencyNotSatisfied = false

-- the job goes on as it was, or has ended
pub record IsSameRun (old new : Job) : Type 0 where
  pub number : new.number ≡ old.number
  pub run : new.run ≡ old.run
  pub request : new.request ≡ old.request
  pub feeds : new.feeds ≡ old.feeds
  pub runs : is_in_progress new.status ≡ true → is_in_progress old.status ≡ true
  pub started : is_to_start old.status ≡ false → is_to_start new.status ≡ false
  pub settles : is_closed new.status ≡ true → new.status ≡ old.status

pub same_run : (job : Job) → IsSameRun job job
same_run job = record { number = refl; run = refl; request = refl; feeds = refl; runs = λ h. h; started = λ h. h; settles = λ h. refl }

pub same_then : (a b c : Job) → IsSameRun a b → IsSameRun b c → IsSameRun a c
same_then a b c one two = record {
  number = two.number ∙ one.number;
  run = two.run ∙ one.run;
  request = two.request ∙ one.request;
  feeds = two.feeds ∙ one.feeds;
  runs = λ h. one.runs (two.runs h);
  started = λ h. two.started (one.started h);
  settles = λ h. two.settles h ∙ one.settles (ap is_closed (sym (two.settles h)) ∙ h);
}

-- ---- the jobs settle

fate_same : (moment : ℕ) (jobs : List Job) (old new : Job) → IsFate moment jobs old new → IsSameRun old new
fate_same moment jobs old new (inl ended) =
    subst (λ x. IsSameRun old x) (sym ended.1) (record { number = refl; run = refl; request = refl; feeds = refl; runs = λ h. absurd (true≢false (sym h)); started = λ h. refl; settles = λ h. absurd (true≢false (sym h)) })
fate_same moment jobs old new (inr same) = subst (λ x. IsSameRun old x) (sym same.1) (same_run old)

queued_starts : (s : JobStatus) → is_in_queue s ≡ true → is_to_start s ≡ true
queued_starts NotStarted h = refl
queued_starts InQueue h = refl
queued_starts InProgress h = absurd (true≢false (sym h))
queued_starts Completed h = absurd (true≢false (sym h))
queued_starts CancelledByUser h = absurd (true≢false (sym h))
queued_starts Failed h = absurd (true≢false (sym h))
queued_starts DependencyNotSatisfied h = absurd (true≢false (sym h))

called_same : (job : Job) → IsSameRun job (called_up job)
called_same job = by (is_in_queue job.status) refl where
  by : (b : Bool) → is_in_queue job.status ≡ b → IsSameRun job (cond b (record job { status = NotStarted }) job)
  by true is = record {
    number = refl;
    run = refl;
    request = refl;
    feeds = refl;
    runs = λ h. absurd (true≢false (sym h));
    started = λ h. absurd (true≢false (sym (queued_starts job.status is) ∙ h));
    settles = λ h. absurd (true≢false (sym h));
  }
  by false is = same_run job

-- it comes from one that was there
abbrev pub ComesFrom : List Job → Job → Type 0
ComesFrom jobs new = (old : Job) × Contains jobs old × IsSameRun old new

zip_from : (moment : ℕ) (all xs ys : List Job) → AllZip (IsFate moment all) xs ys → (y : Job) → Contains ys y → ComesFrom xs y
zip_from moment all [] [] zip y h = no_member y h
zip_from moment all [] (z ∷ ys) zip y h = absurd zip
zip_from moment all (x ∷ xs) [] zip y h = absurd zip
zip_from moment all (x ∷ xs) (z ∷ ys) zip y h =
    elim (member_cases z ys y h) [
      | inl same ↦ (x, first_member x xs, subst (λ w. IsSameRun x w) same (fate_same moment all x z zip.0))
      | inr later ↦ (let rest : ComesFrom xs y = zip_from moment all xs ys zip.1 y later in (rest.0, later_member x xs rest.0 rest.1, rest.2))
    ]

front_from : (jobs : List Job) (y : Job) → Contains (with_front jobs) y → ComesFrom jobs y
front_from [] y h = no_member y h
front_from (job ∷ jobs) y h = by (is_unended job) (front_from jobs y) h where
  by : (b : Bool) → (Contains (with_front jobs) y → ComesFrom jobs y) → Contains (cond b (called_up job ∷ jobs) (job ∷ with_front jobs)) y → ComesFrom (job ∷ jobs) y
  by true rest h =
      elim (member_cases (called_up job) jobs y h) [
        | inl same ↦ (job, first_member job jobs, subst (λ w. IsSameRun job w) same (called_same job))
        | inr later ↦ (y, later_member job jobs y later, same_run y)
      ]
  by false rest h =
      elim (member_cases job (with_front jobs) y h) [
        | inl same ↦ (job, first_member job jobs, subst (λ w. IsSameRun job w) same (same_run job))
        | inr later ↦ (let r : ComesFrom jobs y = rest later in (r.0, later_member job jobs r.0 r.1, r.2))
      ]

pub settled_from : (moment : ℕ) (before after : List Job) → IsSettled moment before after → (y : Job) → Contains after y → ComesFrom before y
settled_from moment before after settled y h =
    let one : ComesFrom settled.0 y = front_from settled.0 y (subst (λ l. Contains l y) settled.2 h) in
    let two : ComesFrom before one.0 = zip_from moment before before settled.0 settled.1 one.0 one.1 in
    (two.0, two.1, same_then two.0 one.0 y two.2 one.2)

-- ---- one job is changed

-- it is the changed job, or another one that was there
abbrev pub ComesChanged : ℕ → (Job → Job) → List Job → Job → Type 0
ComesChanged number change jobs new = (old : Job) × Contains jobs old × (((old.number ≡ number) × IsSameRun (change old) new) ⊎ ((old.number ≢ number) × IsSameRun old new))

with_from : (number : ℕ) (change : Job → Job) (jobs : List Job) (y : Job) → Contains (with_job number change jobs) y → ComesChanged number change jobs y
with_from number change [] y h = no_member y h
with_from number change (job ∷ jobs) y h =
    elim (member_cases (cond (job.number == number) (change job) job) (with_job number change jobs) y h) [
      | inl same ↦ by (job.number == number) refl same
      | inr later ↦ (let r : ComesChanged number change jobs y = with_from number change jobs y later in (r.0, later_member job jobs r.0 r.1, r.2))
    ] where
      by : (b : Bool) → (job.number == number) ≡ b → cond b (change job) job ≡ y → ComesChanged number change (job ∷ jobs) y
      by true is same = (job, first_member job jobs, inl (eqb-true job.number number is, subst (λ w. IsSameRun (change job) w) same (same_run (change job))))
      by false is same = (job, first_member job jobs, inr ((λ e. true≢false (sym (eq-eqb job.number number e) ∙ is)), subst (λ w. IsSameRun job w) same (same_run job)))

pub changed_from : (moment number : ℕ) (change : Job → Job) (old new : Kept) → IsChanged moment number change old new → (y : Job) → Contains new.jobs y → ComesChanged number change old.jobs y
changed_from moment number change old new changed y h =
    let jobs : List Job = changed.0 in
    let one : ComesFrom (with_job number change old.jobs) y = settled_from moment (with_job number change old.jobs) jobs changed.1 y (subst (λ (k : Kept). Contains k.jobs y) changed.2 h) in
    let two : ComesChanged number change old.jobs one.0 = with_from number change old.jobs one.0 one.1 in (
      two.0,
      two.1,
      elim two.2 [
        | inl is ↦ inl (is.0, same_then (change two.0) one.0 y is.1 one.2)
        | inr is ↦ inr (is.0, same_then two.0 one.0 y is.1 one.2)
      ],
    )

pub changed_last : (moment number : ℕ) (change : Job → Job) (old new : Kept) → IsChanged moment number change old new → new.last ≡ old.last
changed_last moment number change old new changed = ap (λ (k : Kept). k.last) changed.2

-- ---- a load is taken on

removed_in : (jobs : List Job) (place : ℕ) (y : Job) → Contains (remove jobs place) y → Contains jobs y
removed_in [] zero y h = h
removed_in [] (suc place) y h = h
removed_in (job ∷ jobs) zero y h = later_member job jobs y h
removed_in (job ∷ jobs) (suc place) y h =
    elim (member_cases job (remove jobs place) y h) [
      | inl same ↦ subst (λ w. Contains (job ∷ jobs) w) same (first_member job jobs)
      | inr later ↦ later_member job jobs y (removed_in jobs place y later)
    ]

pub trimmed_in : (jobs : List Job) (y : Job) → Contains (trimmed jobs) y → Contains jobs y
trimmed_in jobs y h = by (nat_lt 1024 (length jobs)) h where
  by : (b : Bool) → Contains (cond b (remove jobs (position_or_len (λ job. has_ended job.status) jobs)) jobs) y → Contains jobs y
  by true h = removed_in jobs (position_or_len (λ job. has_ended job.status) jobs) y h
  by false h = h

pub submitted_from : (moment id : ℕ) (request : LoadRequest) (old new : Kept) → IsSubmitted moment id request old new → (y : Job) → Contains new.jobs y → ComesFrom old.jobs y ⊎ (y.number ≡ old.last + 1)
submitted_from moment id request old new submitted y h =
    let all : List Job = old.jobs ++ new_job moment (old.last + 1) id request ∷ [] in
    let cut : IsTrimmed moment all submitted.0 = submitted.1 in
    let left : Contains submitted.0 y = subst (λ (k : Kept). Contains k.jobs y) submitted.2 h in
    let one : ComesFrom all y = settled_from moment all cut.0 cut.1 y (trimmed_in cut.0 y (subst (λ l. Contains l y) cut.2 left)) in
    elim (Contains-push_cases old.jobs (new_job moment (old.last + 1) id request) one.0 one.1) [
      | inl there ↦ inl (one.0, there, one.2)
      | inr fresh ↦ inr (one.2.number ∙ ap (λ (x : Job). x.number) (sym fresh))
    ]

pub submitted_last : (moment id : ℕ) (request : LoadRequest) (old new : Kept) → IsSubmitted moment id request old new → new.last ≡ old.last + 1
submitted_last moment id request old new submitted = ap (λ (k : Kept). k.last) submitted.2
