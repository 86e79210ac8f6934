-- A job that has ended stays as it is.
use Rattle.std.specs.Prelude.{◌≡◌, ℕ, zero, suc, ◌+◌, ◌-◌, ◌≤◌, ◌==◌, nat_lt, Bool, true, false, not, cond, List, [], ◌∷◌, ◌++◌, length, remove, refl, Contains, None, Some, ◌⊎◌}
use Rattle.std.specs.List.{AllZip, position_or_len}
use Rattle.std.proofs.Common.{sym, ap, subst, ◌∙◌, arith, inl, inr}
use Rattle.std.proofs.lemmas.Bool.{true≢false, eqb-true}
use Rattle.std.proofs.lemmas.List.Elements.{All-contains, Contains-push_cases}
use Rattle.bl_value.specs.declared.log_code.LogCode.TheVariants.{ListFault, NoPreviousLoad, SourceNotFound, TooManyFiles}
use Rattle.bl_files.specs.declared.load_request.LoadRequest.{LoadRequest}
use Rattle.bl_files.specs.declared.plan_result.PlanResult.{PlanResult}
use Rattle.bl_files.specs.declared.plan_result.PlanResult.TheVariants as plan
use Rattle.bl_files.proofs.Members.{first_member, later_member, member_cases, no_member}
use Rattle.bl_queue.specs.declared.job.Job.{Job}
use Rattle.bl_queue.specs.declared.job_status.JobStatus.{JobStatus}
use Rattle.bl_queue.specs.declared.job_status.JobStatus.TheVariants.{NotStarted, InQueue, InProgress, Completed, CancelledByUser, Failed, DependencyNotSatisfied}
use Rattle.bl_queue.specs.Statuses.{has_ended, is_in_queue}
use Rattle.bl_queue.specs.Jobs.{AreJobs, IsNumbered, Kept, has_open, is_unended, job_of}
use Rattle.bl_queue.specs.Limits.{most_kept}
use Rattle.bl_queue.specs.Doomed.{IsFate, IsSettled, called_up, with_front}
use Rattle.bl_queue.specs.Changes.{IsChanged, IsSubmitted, IsTrimmed, new_job, trimmed, with_job}
use Rattle.bl_queue.specs.Runs.{IsStarted, begun, cancelled_job, closed, feeds_after, goes_on_from, job_after_feed, number_of, refused_job, run_after, running_job, whole_status}
use Rattle.bl_queue.specs.Rows.{fed_job}
use Rattle.bl_queue.proofs.ChangedJobs.{found_at, found_in, front_in, some_and, some_is}
use Rattle.bl_entry.specs.declared.entry.Entry.{Entry}
use Rattle.bl_entry.specs.declared.entry.Entry.TheVariants.{Submit, Cancel, Start, Batch, FeedEnd as End}
use Rattle.bl_world.specs.Causes.{EndedJobsStay}
use Rattle.bl_world.specs.Worlds.{Fits, IsKeptAfter, IsWorldOf, World}
use Rattle.bl_world.proofs.OneWorld.{one_world}
use Rattle.bl_world.proofs.SureWorlds.{have_jobs}

-- It is the same job. Where it had ended it is as it was, and where it hasn't it has no other end log.
pub record IsSame (old new : Job) : Type 0 where
  pub number : new.number ≡ old.number
  pub ended : has_ended old.status ≡ true → new ≡ old
  pub log : is_unended new ≡ true → new.end_log ≡ old.end_log

same_job : (job : Job) → IsSame job job
same_job job = record { number = refl; ended = λ h. refl; log = λ h. refl }

-- what hasn't ended hadn't before
unended_before : (old new : Job) → IsSame old new → is_unended new ≡ true → is_unended old ≡ true
unended_before old new same unended = by (has_ended old.status) refl where
  by : (b : Bool) → has_ended old.status ≡ b → is_unended old ≡ true
  by true is = absurd (true≢false (sym unended ∙ ap not (ap (λ (j : Job). has_ended j.status) (same.ended is) ∙ is)))
  by false is = ap not is

same_then : (a b c : Job) → IsSame a b → IsSame b c → IsSame a c
same_then a b c one two =
    record {
      number = two.number ∙ one.number;
      ended = λ h. two.ended (ap (λ (j : Job). has_ended j.status) (one.ended h) ∙ h) ∙ one.ended h;
      log = λ h. two.log h ∙ one.log (unended_before b c two h);
    }

unended_only : (old new : Job) → new.number ≡ old.number → is_unended old ≡ true → (is_unended new ≡ true → new.end_log ≡ old.end_log) → IsSame old new
unended_only old new number unended log = record { number = number; ended = λ h. absurd (true≢false (sym unended ∙ ap not h)); log = log }

-- ---- the jobs settle

fate_same : (moment : ℕ) (jobs : List Job) (old new : Job) → IsFate moment jobs old new → IsSame old new
fate_same moment jobs old new (inl ended) = unended_only old new (ap (λ (j : Job). j.number) ended.1) ended.0.0 (λ h. absurd (true≢false (sym h ∙ ap (λ (j : Job). is_unended j) ended.1)))
fate_same moment jobs old new (inr same) = subst (λ x. IsSame old x) (sym same.1) (same_job old)

queued_unended : (s : JobStatus) → is_in_queue s ≡ true → not (has_ended s) ≡ true
queued_unended NotStarted h = refl
queued_unended InQueue h = refl
queued_unended InProgress h = refl
queued_unended Completed h = absurd (true≢false (sym h))
queued_unended CancelledByUser h = absurd (true≢false (sym h))
queued_unended Failed h = absurd (true≢false (sym h))
queued_unended DependencyNotSatisfied h = absurd (true≢false (sym h))

called_same : (job : Job) → IsSame job (called_up job)
called_same job = by (is_in_queue job.status) refl where
  by : (b : Bool) → is_in_queue job.status ≡ b → IsSame job (cond b (record job { status = NotStarted }) job)
  by true is = unended_only job (record job { status = NotStarted }) refl (queued_unended job.status is) (λ h. refl)
  by false is = same_job job

-- it comes from one that was there
abbrev ComesFrom : List Job → Job → Type 0
ComesFrom jobs new = (old : Job) × Contains jobs old × IsSame old new

zip_from : (moment : ℕ) (all xs ys : List Job) → AllZip (IsFate moment all) xs ys → (y : Job) → Contains ys y → ComesFrom xs y
zip_from moment all [] [] zip y h = no_member y h
zip_from moment all [] (z ∷ ys) zip y h = absurd zip
zip_from moment all (x ∷ xs) [] zip y h = absurd zip
zip_from moment all (x ∷ xs) (z ∷ ys) zip y h =
    elim (member_cases z ys y h) [
      | inl same ↦ (x, first_member x xs, subst (λ w. IsSame x w) same (fate_same moment all x z zip.0))
      | inr later ↦ (let rest : ComesFrom xs y = zip_from moment all xs ys zip.1 y later in (rest.0, later_member x xs rest.0 rest.1, rest.2))
    ]

front_from : (jobs : List Job) (y : Job) → Contains (with_front jobs) y → ComesFrom jobs y
front_from [] y h = no_member y h
front_from (job ∷ jobs) y h = by (is_unended job) (front_from jobs y) h where
  by : (b : Bool) → (Contains (with_front jobs) y → ComesFrom jobs y) → Contains (cond b (called_up job ∷ jobs) (job ∷ with_front jobs)) y → ComesFrom (job ∷ jobs) y
  by true rest h =
      elim (member_cases (called_up job) jobs y h) [
        | inl same ↦ (job, first_member job jobs, subst (λ w. IsSame job w) same (called_same job))
        | inr later ↦ (y, later_member job jobs y later, same_job y)
      ]
  by false rest h =
      elim (member_cases job (with_front jobs) y h) [
        | inl same ↦ (job, first_member job jobs, subst (λ w. IsSame job w) same (same_job job))
        | inr later ↦ (let r : ComesFrom jobs y = rest later in (r.0, later_member job jobs r.0 r.1, r.2))
      ]

settled_from : (moment : ℕ) (before after : List Job) → IsSettled moment before after → (y : Job) → Contains after y → ComesFrom before y
settled_from moment before after settled y h =
    let one : ComesFrom settled.0 y = front_from settled.0 y (subst (λ l. Contains l y) settled.2 h) in
    let two : ComesFrom before one.0 = zip_from moment before before settled.0 settled.1 one.0 one.1 in
    (two.0, two.1, same_then two.0 one.0 y two.2 one.2)

-- ---- one job is changed

with_from : (number : ℕ) (change : Job → Job) (jobs : List Job) → ((job : Job) → Contains jobs job → job.number ≡ number → IsSame job (change job)) → (y : Job) → Contains (with_job number change jobs) y → ComesFrom jobs y
with_from number change [] keeps y h = no_member y h
with_from number change (job ∷ jobs) keeps y h =
    elim (member_cases (cond (job.number == number) (change job) job) (with_job number change jobs) y h) [
      | inl same ↦ by (job.number == number) refl same
      | inr later ↦ (let r : ComesFrom jobs y = with_from number change jobs (λ j there. keeps j (later_member job jobs j there)) y later in (r.0, later_member job jobs r.0 r.1, r.2))
    ] where
      by : (b : Bool) → (job.number == number) ≡ b → cond b (change job) job ≡ y → ComesFrom (job ∷ jobs) y
      by true is same = (job, first_member job jobs, subst (λ w. IsSame job w) same (keeps job (first_member job jobs) (eqb-true job.number number is)))
      by false is same = (job, first_member job jobs, subst (λ w. IsSame job w) same (same_job job))

module _ (kept : Kept) (are : AreJobs kept) where
  there_found : (a : Job) → Contains kept.jobs a → job_of a.number kept.jobs ≡ Some a
  there_found a there = found_at a.number kept.jobs are.rising there.0 a there.1 (ap (λ (x : Job). x.number) there.2) ∙ ap Some there.2

  pub one_job : (a b : Job) → Contains kept.jobs a → Contains kept.jobs b → a.number ≡ b.number → a ≡ b
  one_job a b one two same = some_is a b (sym (there_found a one) ∙ ap (λ n. job_of n kept.jobs) same ∙ there_found b two)

  -- a change of an unended job, which keeps its number, and its end log as long as it doesn't end
  changed_from : (moment number : ℕ) (change : Job → Job) (new : Kept) (it : Job) → Contains kept.jobs it → it.number ≡ number → is_unended it ≡ true → ((job : Job) → (change job).number ≡ job.number) → ((job : Job) → is_unended (change job) ≡ true → (change job).end_log ≡ job.end_log) → IsChanged moment number change kept new → (y : Job) → Contains new.jobs y → ComesFrom kept.jobs y
  changed_from moment number change new it there same unended numbers logs changed y h =
      let one : ComesFrom (with_job number change kept.jobs) y = settled_from moment (with_job number change kept.jobs) changed.0 changed.1 y (subst (λ (k : Kept). Contains k.jobs y) changed.2 h) in
      let two : ComesFrom kept.jobs one.0 = with_from number change kept.jobs (λ job in_jobs is. unended_only job (change job) (numbers job) (subst (λ (j : Job). is_unended j ≡ true) (one_job it job there in_jobs (same ∙ sym is)) unended) (logs job)) one.0 one.1 in
      (two.0, two.1, same_then two.0 one.0 y two.2 one.2)

  fed_from : (moment number place rows : ℕ) (change : Job → Job) (new : Kept) (it : Job) → Contains kept.jobs it → it.number ≡ number → is_unended it ≡ true → ((job : Job) → (change job).number ≡ job.number) → ((job : Job) → is_unended (change job) ≡ true → (change job).end_log ≡ job.end_log) → new ≡ record kept { jobs = with_job number change kept.jobs } → (y : Job) → Contains new.jobs y → ComesFrom kept.jobs y
  fed_from moment number place rows change new it there same unended numbers logs is y h =
      with_from number change kept.jobs (λ job in_jobs at. unended_only job (change job) (numbers job) (subst (λ (j : Job). is_unended j ≡ true) (one_job it job there in_jobs (same ∙ sym at)) unended) (logs job)) y (subst (λ (k : Kept). Contains k.jobs y) is h)

pub closed_number : (job : Job) → (closed job).number ≡ job.number
closed_number job = by (has_open job) where
  by : (b : Bool) → (cond b job (record job { status = whole_status job.feeds })).number ≡ job.number
  by true = refl
  by false = refl

pub closed_log : (job : Job) → (closed job).end_log ≡ job.end_log
closed_log job = by (has_open job) where
  by : (b : Bool) → (cond b job (record job { status = whole_status job.feeds })).end_log ≡ job.end_log
  by true = refl
  by false = refl

-- a job that has ended
ended_log : (job new : Job) → is_unended new ≡ false → is_unended new ≡ true → new.end_log ≡ job.end_log
ended_log job new ended unended = absurd (true≢false (sym unended ∙ ended))

-- ---- a load is taken on

removed_in : (jobs : List Job) (place : ℕ) (y : Job) → Contains (remove jobs place) y → Contains jobs y
removed_in [] zero y h = h
removed_in [] (suc place) y h = h
removed_in (job ∷ jobs) zero y h = later_member job jobs y h
removed_in (job ∷ jobs) (suc place) y h =
    elim (member_cases job (remove jobs place) y h) [
      | inl same ↦ subst (λ w. Contains (job ∷ jobs) w) same (first_member job jobs)
      | inr later ↦ later_member job jobs y (removed_in jobs place y later)
    ]

pub trimmed_in : (jobs : List Job) (y : Job) → Contains (trimmed jobs) y → Contains jobs y
trimmed_in jobs y h = by (nat_lt most_kept (length jobs)) h where
  by : (b : Bool) → Contains (cond b (remove jobs (position_or_len (λ job. has_ended job.status) jobs)) jobs) y → Contains jobs y
  by true h = removed_in jobs (position_or_len (λ job. has_ended job.status) jobs) y h
  by false h = h

-- it is a job that is taken on
pub record IsFresh (kept : Kept) (job : Job) : Type 0 where
  pub number : job.number ≡ kept.last + 1
  pub log : is_unended job ≡ true → job.end_log ≡ None

submitted_from : (moment id : ℕ) (request : LoadRequest) (old new : Kept) → IsSubmitted moment id request old new → (y : Job) → Contains new.jobs y → ComesFrom old.jobs y ⊎ IsFresh old y
submitted_from moment id request old new submitted y h =
    let all : List Job = old.jobs ++ new_job moment (old.last + 1) id request ∷ [] in
    let cut : IsTrimmed moment all submitted.0 = submitted.1 in
    let left : Contains submitted.0 y = subst (λ (k : Kept). Contains k.jobs y) submitted.2 h in
    let one : ComesFrom all y = settled_from moment all cut.0 cut.1 y (trimmed_in cut.0 y (subst (λ l. Contains l y) cut.2 left)) in
    elim (Contains-push_cases old.jobs (new_job moment (old.last + 1) id request) one.0 one.1) [
      | inl there ↦ inl (one.0, there, one.2)
      | inr fresh ↦ inr (record { number = one.2.number ∙ ap (λ (x : Job). x.number) (sym fresh); log = λ h. one.2.log h ∙ ap (λ (x : Job). x.end_log) (sym fresh) })
    ]

-- ---- any entry

comes_from : (before : World) (entry : Entry) (new : Kept) → AreJobs before.kept → Fits before entry → IsKeptAfter entry before.kept new → (y : Job) → Contains new.jobs y → ComesFrom before.kept.jobs y ⊎ IsFresh before.kept y
comes_from before (Submit moment number id request) new are fits after y h = submitted_from moment id request before.kept new after y h
comes_from before (Cancel moment number) new are fits after y h =
    let one = some_and (job_of number before.kept.jobs) (λ it. is_unended it ≡ true) fits in
    let there = found_in number before.kept.jobs one.0 one.1 in
    inl (changed_from before.kept are moment number (cancelled_job moment) new one.0 there.0 there.1 one.2 (λ job. refl) (λ job. ended_log job (cancelled_job moment job) refl) after y h)
comes_from before (Start moment number planned) new are fits after y h = inl (by planned after) where
  run : ℕ
  run = run_after (goes_on_from before.kept.jobs number)

  previous : ℕ
  previous = number_of (goes_on_from before.kept.jobs number)

  by : (p : PlanResult) → IsStarted moment number p before.kept new → ComesFrom before.kept.jobs y
  by (plan.Feeds found) start =
      changed_from before.kept are moment number (running_job moment run previous start.0) new fits.it (front_in before.kept.jobs fits.it fits.front).0 fits.number_is (front_in before.kept.jobs fits.it fits.front).1
      (λ job. closed_number (record job { started = moment; latest = moment; run = run; previous = previous; status = InProgress; feeds = begun job.request.fail_on_error start.0 })) (λ job h. closed_log (record job { started = moment; latest = moment; run = run; previous = previous; status = InProgress; feeds = begun job.request.fail_on_error start.0 })) start.2 y h
  by plan.NoPrevious start = changed_from before.kept are moment number (refused_job moment run previous NoPreviousLoad) new fits.it (front_in before.kept.jobs fits.it fits.front).0 fits.number_is (front_in before.kept.jobs fits.it fits.front).1 (λ job. refl) (λ job. ended_log job (refused_job moment run previous NoPreviousLoad job) refl) start y h
  by plan.SourceNotFound start = changed_from before.kept are moment number (refused_job moment run previous SourceNotFound) new fits.it (front_in before.kept.jobs fits.it fits.front).0 fits.number_is (front_in before.kept.jobs fits.it fits.front).1 (λ job. refl) (λ job. ended_log job (refused_job moment run previous SourceNotFound job) refl) start y h
  by plan.ListFault start = changed_from before.kept are moment number (refused_job moment run previous ListFault) new fits.it (front_in before.kept.jobs fits.it fits.front).0 fits.number_is (front_in before.kept.jobs fits.it fits.front).1 (λ job. refl) (λ job. ended_log job (refused_job moment run previous ListFault job) refl) start y h
  by (plan.TooManyFiles n) start = changed_from before.kept are moment number (refused_job moment run previous TooManyFiles) new fits.it (front_in before.kept.jobs fits.it fits.front).0 fits.number_is (front_in before.kept.jobs fits.it fits.front).1 (λ job. refl) (λ job. ended_log job (refused_job moment run previous TooManyFiles job) refl) start y h
comes_from before (Batch moment number place from rows digest duplicates logs changes) new are fits after y h =
    inl (fed_from before.kept are moment number place rows (fed_job moment (place - 1) rows digest duplicates logs) new fits.it (front_in before.kept.jobs fits.it fits.next.0).0 fits.next.1 (front_in before.kept.jobs fits.it fits.next.0).1 (λ job. refl) (λ job h. refl) after y h)
comes_from before (End moment number place how) new are fits after y h =
    inl (changed_from before.kept are moment number (job_after_feed moment (place - 1) how) new fits.it (front_in before.kept.jobs fits.it fits.next.0).0 fits.next.1 (front_in before.kept.jobs fits.it fits.next.0).1 (λ job. closed_number (record job { latest = moment; feeds = feeds_after job.request.fail_on_error (place - 1) how job.feeds })) (λ job h. closed_log (record job { latest = moment; feeds = feeds_after job.request.fail_on_error (place - 1) how job.feeds })) after y h)

-- ---- the last number

same_last : (moment number : ℕ) (change : Job → Job) (old new : Kept) → IsChanged moment number change old new → old.last ≤ new.last
same_last moment number change old new changed = let e : new.last ≡ old.last = ap (λ (k : Kept). k.last) changed.2 in omega arith

last_after : (entry : Entry) (old new : Kept) → IsKeptAfter entry old new → old.last ≤ new.last
last_after (Submit moment number id request) old new after = let e : new.last ≡ old.last + 1 = ap (λ (k : Kept). k.last) after.2 in omega arith
last_after (Cancel moment number) old new after = same_last moment number (cancelled_job moment) old new after
last_after (Start moment number planned) old new after = by planned after where
  run : ℕ
  run = run_after (goes_on_from old.jobs number)

  previous : ℕ
  previous = number_of (goes_on_from old.jobs number)

  by : (p : PlanResult) → IsStarted moment number p old new → old.last ≤ new.last
  by (plan.Feeds found) start = same_last moment number (running_job moment run previous start.0) old new start.2
  by plan.NoPrevious start = same_last moment number (refused_job moment run previous NoPreviousLoad) old new start
  by plan.SourceNotFound start = same_last moment number (refused_job moment run previous SourceNotFound) old new start
  by plan.ListFault start = same_last moment number (refused_job moment run previous ListFault) old new start
  by (plan.TooManyFiles n) start = same_last moment number (refused_job moment run previous TooManyFiles) old new start
last_after (Batch moment number place from rows digest duplicates logs changes) old new after = let e : new.last ≡ old.last = ap (λ (k : Kept). k.last) after in omega arith
last_after (End moment number place how) old new after = same_last moment number (job_after_feed moment (place - 1) how) old new after

last_grows : (newer older : List Entry) (before after : World) → IsWorldOf older before → IsWorldOf (newer ++ older) after → before.kept.last ≤ after.kept.last
last_grows [] older before after one two = let e : before.kept.last ≡ after.kept.last = ap (λ (w : World). w.kept.last) (one_world older before after one two) in omega arith
last_grows (entry ∷ newer) older before after one two =
    omega (arith, last_grows newer older before two.0 one two.1, last_after entry two.0.kept after.kept two.2.next.kept)

-- ---- a list of entries

pub ended_jobs_stay : EndedJobsStay
ended_jobs_stay [] older before after one two it later there ended here same =
    one_job before.kept (have_jobs older before one) later it (subst (λ (w : World). Contains w.kept.jobs later) (one_world older after before two one) here) there same
ended_jobs_stay (entry ∷ newer) older before after one two it later there ended here same =
    by (comes_from two.0 entry after.kept (have_jobs (newer ++ older) two.0 two.1) two.2.follows.fits two.2.next.kept later here) (λ x in_jobs is. ended_jobs_stay newer older before two.0 one two.1 it x there ended in_jobs is) where
      by : ComesFrom two.0.kept.jobs later ⊎ IsFresh two.0.kept later → ((x : Job) → Contains two.0.kept.jobs x → x.number ≡ it.number → x ≡ it) → later ≡ it
      by (inl from) rest =
          let was : from.0 ≡ it = rest from.0 from.1 (sym from.2.number ∙ same) in
          from.2.ended (ap (λ (j : Job). has_ended j.status) was ∙ ended) ∙ was
      by (inr fresh) rest =
          let numbered : IsNumbered before.kept.last it = All-contains (λ job. IsNumbered before.kept.last job) before.kept.jobs it (have_jobs older before one).numbered there in
          absurd (omega (arith, last_grows newer older before two.0 one two.1, numbered.most, same, fresh.number))

-- a job that hasn't ended has no end log
pub no_end_log : (entries : List Entry) (world : World) → IsWorldOf entries world → (job : Job) → Contains world.kept.jobs job → is_unended job ≡ true → job.end_log ≡ None
no_end_log [] world is job there unended = no_member job (subst (λ (w : World). Contains w.kept.jobs job) is there)
no_end_log (entry ∷ older) world is job there unended =
    by (comes_from is.0 entry world.kept (have_jobs older is.0 is.1) is.2.follows.fits is.2.next.kept job there) (no_end_log older is.0 is.1) where
      by : ComesFrom is.0.kept.jobs job ⊎ IsFresh is.0.kept job → ((old : Job) → Contains is.0.kept.jobs old → is_unended old ≡ true → old.end_log ≡ None) → job.end_log ≡ None
      by (inl from) rest = from.2.log unended ∙ rest from.0 from.1 (unended_before from.0 job from.2 unended)
      by (inr fresh) rest = fresh.log unended
