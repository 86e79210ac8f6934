-- Each job ends by the entry that the table names.
use Rattle.std.specs.Prelude.{◌≡◌, ℕ, ◌+◌, ◌-◌, ◌==◌, Bool, true, false, not, cond, List, [], ◌∷◌, ◌++◌, refl, Contains, None, ◌⊎◌}
use Rattle.std.specs.List.{AllZip}
use Rattle.std.proofs.Common.{sym, ap, subst, ◌∙◌, inl, inr}
use Rattle.std.proofs.lemmas.Bool.{true≢false, eqb-true}
use Rattle.std.proofs.lemmas.List.Elements.{Contains-push_cases}
use Rattle.bl_value.specs.declared.log_code.LogCode.{LogCode}
use Rattle.bl_value.specs.declared.log_code.LogCode.TheVariants.{ListFault, NoPreviousLoad, SourceNotFound, TooManyFiles}
use Rattle.bl_files.specs.declared.plan_result.PlanResult.{PlanResult}
use Rattle.bl_files.specs.declared.plan_result.PlanResult.TheVariants as plan
use Rattle.bl_files.proofs.Members.{first_member, later_member, member_cases, no_member}
use Rattle.bl_queue.specs.declared.job.Job.{Job}
use Rattle.bl_queue.specs.declared.job_status.JobStatus.TheVariants.{NotStarted, InProgress}
use Rattle.bl_queue.specs.Statuses.{has_ended, is_in_queue}
use Rattle.bl_queue.specs.Jobs.{AreJobs, Kept, has_open, is_unended}
use Rattle.bl_queue.specs.Doomed.{IsDoomed, IsFate, IsSettled, called_up, unsatisfied, with_front}
use Rattle.bl_queue.specs.Changes.{IsChanged, IsTrimmed, new_job, with_job}
use Rattle.bl_queue.specs.Runs.{IsStarted, begun, cancelled_job, closed, feeds_after, goes_on_from, job_after_feed, number_of, refused_job, run_after, running_job, whole_status}
use Rattle.bl_queue.specs.Rows.{fed_job}
use Rattle.bl_queue.proofs.ChangedJobs.{front_in}
use Rattle.bl_entry.specs.declared.entry.Entry.{Entry}
use Rattle.bl_entry.specs.declared.entry.Entry.TheVariants.{Submit, Cancel, Start, Batch, FeedEnd as End}
use Rattle.bl_world.specs.Causes.{AreBetween, EndsBy, IsFaultOf, IsOnFilesOf, JobsEndForOneCause}
use Rattle.bl_world.specs.Worlds.{Fits, IsKeptAfter, World, moment_of}
use Rattle.bl_world.proofs.EndedJobs.{closed_log, closed_number, no_end_log, one_job, trimmed_in}
use Rattle.bl_world.proofs.SureWorlds.{have_jobs}

-- ---- the jobs settle

-- the job was there, or it ends with others
abbrev FromSettled : ℕ → List Job → Job → Type 0
FromSettled moment before y = Contains before y ⊎ ((old : Job) × Contains before old × IsDoomed before old × (y ≡ unsatisfied moment old))

called_ended : (job y : Job) → called_up job ≡ y → has_ended y.status ≡ true → job ≡ y
called_ended job y same ended = by (is_in_queue job.status) same where
  by : (b : Bool) → cond b (record job { status = NotStarted }) job ≡ y → job ≡ y
  by true h = absurd (true≢false (sym ended ∙ ap (λ (j : Job). has_ended j.status) (sym h)))
  by false h = h

front_ended : (jobs : List Job) (y : Job) → Contains (with_front jobs) y → has_ended y.status ≡ true → Contains jobs y
front_ended [] y h ended = no_member y h
front_ended (job ∷ jobs) y h ended = by (is_unended job) (λ l. front_ended jobs y l ended) h where
  by : (b : Bool) → (Contains (with_front jobs) y → Contains jobs y) → Contains (cond b (called_up job ∷ jobs) (job ∷ with_front jobs)) y → Contains (job ∷ jobs) y
  by true rest h =
      elim (member_cases (called_up job) jobs y h) [
        | inl same ↦ subst (λ w. Contains (job ∷ jobs) w) (called_ended job y same ended) (first_member job jobs)
        | inr later ↦ later_member job jobs y later
      ]
  by false rest h =
      elim (member_cases job (with_front jobs) y h) [
        | inl same ↦ subst (λ w. Contains (job ∷ jobs) w) same (first_member job jobs)
        | inr later ↦ later_member job jobs y (rest later)
      ]

module _ (moment : ℕ) (all : List Job) where
  abbrev FromZip : List Job → Job → Type 0
  FromZip xs y = Contains xs y ⊎ ((old : Job) × Contains xs old × IsDoomed all old × (y ≡ unsatisfied moment old))

  fate_ended : (x z y : Job) (xs : List Job) → IsFate moment all x z → z ≡ y → FromZip (x ∷ xs) y
  fate_ended x z y xs (inl fate) same = inr (x, first_member x xs, fate.0, sym same ∙ fate.1)
  fate_ended x z y xs (inr fate) same = inl (subst (λ w. Contains (x ∷ xs) w) (sym fate.1 ∙ same) (first_member x xs))

  zip_ended : (xs ys : List Job) → AllZip (IsFate moment all) xs ys → (y : Job) → Contains ys y → FromZip xs y
  zip_ended [] [] zip y h = no_member y h
  zip_ended [] (z ∷ ys) zip y h = absurd zip
  zip_ended (x ∷ xs) [] zip y h = absurd zip
  zip_ended (x ∷ xs) (z ∷ ys) zip y h =
      elim (member_cases z ys y h) [
        | inl same ↦ fate_ended x z y xs zip.0 same
        | inr later ↦ more (zip_ended xs ys zip.1 y later)
      ] where
        more : FromZip xs y → FromZip (x ∷ xs) y
        more (inl there) = inl (later_member x xs y there)
        more (inr old) = inr (old.0, later_member x xs old.0 old.1, old.2, old.3)

settled_ended : (moment : ℕ) (before after : List Job) → IsSettled moment before after → (y : Job) → Contains after y → has_ended y.status ≡ true → FromSettled moment before y
settled_ended moment before after settled y h ended =
    zip_ended moment before before settled.0 settled.1 y (front_ended settled.0 y (subst (λ l. Contains l y) settled.2 h) ended)

-- ---- one job is changed

with_ended : (number : ℕ) (change : Job → Job) (jobs : List Job) (y : Job) → Contains (with_job number change jobs) y → Contains jobs y ⊎ ((old : Job) × Contains jobs old × (old.number ≡ number) × (y ≡ change old))
with_ended number change [] y h = no_member y h
with_ended number change (job ∷ jobs) y h =
    elim (member_cases (cond (job.number == number) (change job) job) (with_job number change jobs) y h) [
      | inl same ↦ by (job.number == number) refl same
      | inr later ↦ more (with_ended number change jobs y later)
    ] where
      Goal : Type 0
      Goal = Contains (job ∷ jobs) y ⊎ ((old : Job) × Contains (job ∷ jobs) old × (old.number ≡ number) × (y ≡ change old))

      by : (b : Bool) → (job.number == number) ≡ b → cond b (change job) job ≡ y → Contains (job ∷ jobs) y ⊎ ((old : Job) × Contains (job ∷ jobs) old × (old.number ≡ number) × (y ≡ change old))
      by true is same = inr (job, first_member job jobs, eqb-true job.number number is, sym same)
      by false is same = inl (subst (λ w. Contains (job ∷ jobs) w) same (first_member job jobs))

      more : Contains jobs y ⊎ ((old : Job) × Contains jobs old × (old.number ≡ number) × (y ≡ change old)) → Contains (job ∷ jobs) y ⊎ ((old : Job) × Contains (job ∷ jobs) old × (old.number ≡ number) × (y ≡ change old))
      more (inl there) = inl (later_member job jobs y there)
      more (inr old) = inr (old.0, later_member job jobs old.0 old.1, old.2, old.3)

-- an entry that changes one job: what that comes to is a cause
module _ (kept : Kept) (entry : Entry) (number : ℕ) (change : Job → Job) (between : AreBetween entry kept (with_job number change kept.jobs))
    (own : (old : Job) → Contains kept.jobs old → old.number ≡ number → has_ended (change old).status ≡ true → EndsBy kept entry (change old)) where
  own_ended : (y : Job) → Contains kept.jobs y ⊎ ((old : Job) × Contains kept.jobs old × (old.number ≡ number) × (y ≡ change old)) → has_ended y.status ≡ true → Contains kept.jobs y ⊎ EndsBy kept entry y
  own_ended y (inl there) ended = inl there
  own_ended y (inr old) ended = inr (subst (EndsBy kept entry) (sym old.3) (own old.0 old.1 old.2 (ap (λ (j : Job). has_ended j.status) (sym old.3) ∙ ended)))

  changed_ended : (new : Kept) → IsChanged (moment_of entry) number change kept new → (y : Job) → Contains new.jobs y → has_ended y.status ≡ true → Contains kept.jobs y ⊎ EndsBy kept entry y
  changed_ended new changed y h ended = by (settled_ended (moment_of entry) (with_job number change kept.jobs) changed.0 changed.1 y (subst (λ (k : Kept). Contains k.jobs y) changed.2 h) ended) where
    by : FromSettled (moment_of entry) (with_job number change kept.jobs) y → Contains kept.jobs y ⊎ EndsBy kept entry y
    by (inl there) = own_ended y (with_ended number change kept.jobs y there) ended
    by (inr old) = inr (inr (inl (with_job number change kept.jobs, between, old.0, old.1, old.2, old.3)))

-- ---- a job that is closed

-- it ends with its files
closed_ends : (job : Job) → is_unended job ≡ true → has_ended (closed job).status ≡ true → ((closed job).status ≡ whole_status (closed job).feeds) × (has_open (closed job) ≡ false)
closed_ends job unended ended = by (has_open job) refl ended where
  by : (b : Bool) → has_open job ≡ b → has_ended (cond b job (record job { status = whole_status job.feeds })).status ≡ true
      → ((cond b job (record job { status = whole_status job.feeds })).status ≡ whole_status (cond b job (record job { status = whole_status job.feeds })).feeds) × (has_open (cond b job (record job { status = whole_status job.feeds })) ≡ false)
  by true is h = absurd (true≢false (sym unended ∙ ap not h))
  by false is h = (refl, is)

closed_cause : (kept : Kept) (entry : Entry) (job : Job) → is_unended job ≡ true → job.end_log ≡ None → IsOnFilesOf entry job.number → has_ended (closed job).status ≡ true → EndsBy kept entry (closed job)
closed_cause kept entry job unended none of ended =
    let ends = closed_ends job unended ended in
    inr (inr (inr (ends.0, closed_log job ∙ none, ends.1, subst (IsOnFilesOf entry) (sym (closed_number job)) of)))

-- ---- any entry

module _ (before : World) (new : Kept) (are : AreJobs before.kept) (none : (job : Job) → Contains before.kept.jobs job → is_unended job ≡ true → job.end_log ≡ None) where
  -- a job with the number of an unended one is it
  unended_at : (it : Job) → Contains before.kept.jobs it × (is_unended it ≡ true) → (old : Job) → Contains before.kept.jobs old → old.number ≡ it.number → is_unended old ≡ true
  unended_at it front old there same = ap (λ (j : Job). is_unended j) (one_job before.kept are old it there front.0 same) ∙ front.1

  refused : (moment number : ℕ) (code : LogCode) (planned : PlanResult) → AreBetween (Start moment number planned) before.kept (with_job number (refused_job moment (run_after (goes_on_from before.kept.jobs number)) (number_of (goes_on_from before.kept.jobs number)) code) before.kept.jobs)
      → IsFaultOf (Start moment number planned) number → IsChanged moment number (refused_job moment (run_after (goes_on_from before.kept.jobs number)) (number_of (goes_on_from before.kept.jobs number)) code) before.kept new
      → (y : Job) → Contains new.jobs y → has_ended y.status ≡ true → Contains before.kept.jobs y ⊎ EndsBy before.kept (Start moment number planned) y
  refused moment number code planned between fault changed y h ended =
      changed_ended before.kept (Start moment number planned) number (refused_job moment (run_after (goes_on_from before.kept.jobs number)) (number_of (goes_on_from before.kept.jobs number)) code) between
      (λ old there same end. inr (inr (inl (refl, refl, subst (IsFaultOf (Start moment number planned)) (sym same) fault)))) new changed y h ended

  started : (moment number : ℕ) (planned : PlanResult) → ((old : Job) → Contains before.kept.jobs old → old.number ≡ number → old.end_log ≡ None) → IsStarted moment number planned before.kept new → (y : Job) → Contains new.jobs y → has_ended y.status ≡ true → Contains before.kept.jobs y ⊎ EndsBy before.kept (Start moment number planned) y
  started moment number (plan.Feeds found) logs start y h ended =
      let run : ℕ = run_after (goes_on_from before.kept.jobs number) in
      let previous : ℕ = number_of (goes_on_from before.kept.jobs number) in
      changed_ended before.kept (Start moment number (plan.Feeds found)) number (running_job moment run previous start.0) (start.0, start.1, refl)
      (λ old there same end.
      closed_cause before.kept (Start moment number (plan.Feeds found)) (record old { started = moment; latest = moment; run = run; previous = previous; status = InProgress; feeds = begun old.request.fail_on_error start.0 }) refl (logs old there same) (sym same, tt) end) new start.2 y h ended
  started moment number plan.NoPrevious logs start y h ended = refused moment number NoPreviousLoad plan.NoPrevious refl (refl, λ f. f) start y h ended
  started moment number plan.SourceNotFound logs start y h ended = refused moment number SourceNotFound plan.SourceNotFound refl (refl, λ f. f) start y h ended
  started moment number plan.ListFault logs start y h ended = refused moment number ListFault plan.ListFault refl (refl, λ f. f) start y h ended
  started moment number (plan.TooManyFiles n) logs start y h ended = refused moment number TooManyFiles (plan.TooManyFiles n) refl (refl, λ f. f) start y h ended

  ends_by : (entry : Entry) → Fits before entry → IsKeptAfter entry before.kept new → (y : Job) → Contains new.jobs y → has_ended y.status ≡ true → Contains before.kept.jobs y ⊎ EndsBy before.kept entry y
  ends_by (Submit moment number id request) fits after y h ended =
      let fresh : Job = new_job moment (before.kept.last + 1) id request in
      let all : List Job = before.kept.jobs ++ fresh ∷ [] in
      let cut : IsTrimmed moment all after.0 = after.1 in
      let left : Contains after.0 y = subst (λ (k : Kept). Contains k.jobs y) after.2 h in
      by (settled_ended moment all cut.0 cut.1 y (trimmed_in cut.0 y (subst (λ l. Contains l y) cut.2 left)) ended) where
        by : FromSettled moment (before.kept.jobs ++ new_job moment (before.kept.last + 1) id request ∷ []) y → Contains before.kept.jobs y ⊎ EndsBy before.kept (Submit moment number id request) y
        by (inl there) =
            elim (Contains-push_cases before.kept.jobs (new_job moment (before.kept.last + 1) id request) y there) [
              | inl was ↦ inl was
              | inr same ↦ absurd (true≢false (sym ended ∙ ap (λ (j : Job). has_ended j.status) (sym same)))
            ]
        by (inr old) = inr (inr (inl (before.kept.jobs ++ new_job moment (before.kept.last + 1) id request ∷ [], refl, old.0, old.1, old.2, old.3)))
  ends_by (Cancel moment number) fits after y h ended =
      changed_ended before.kept (Cancel moment number) number (cancelled_job moment) refl (λ old there same end. inl (refl, sym same)) new after y h ended
  ends_by (Start moment number planned) fits after y h ended =
      started moment number planned
      (λ old there same. none old there (unended_at fits.it (front_in before.kept.jobs fits.it fits.front) old there (same ∙ sym fits.number_is))) after y h ended
  ends_by (Batch moment number place from rows digest duplicates logs changes) fits after y h ended =
      own_ended before.kept (Batch moment number place from rows digest duplicates logs changes) number (fed_job moment (place - 1) rows digest duplicates logs) refl
      (λ old there same end. absurd (true≢false (sym (unended_at fits.it (front_in before.kept.jobs fits.it fits.next.0) old there (same ∙ sym fits.next.1)) ∙ ap not end)))
      y (with_ended number (fed_job moment (place - 1) rows digest duplicates logs) before.kept.jobs y (subst (λ (k : Kept). Contains k.jobs y) after h)) ended
  ends_by (End moment number place how) fits after y h ended =
      changed_ended before.kept (End moment number place how) number (job_after_feed moment (place - 1) how) refl
      (λ old there same end.
      let unended : is_unended old ≡ true = unended_at fits.it (front_in before.kept.jobs fits.it fits.next.0) old there (same ∙ sym fits.next.1) in
      closed_cause before.kept (End moment number place how) (record old { latest = moment; feeds = feeds_after old.request.fail_on_error (place - 1) how old.feeds })
      unended (none old there unended) (sym same) end) new after y h ended

pub jobs_end_for_one_cause : JobsEndForOneCause
jobs_end_for_one_cause entries entry before after of step it there ended = ends_by before after.kept (have_jobs entries before of) (no_end_log entries before of) entry step.follows.fits step.next.kept it there ended
