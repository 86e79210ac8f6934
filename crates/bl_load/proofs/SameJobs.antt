-- Jobs stay the same loads.
use Rattle.std.specs.Prelude.{◌≡◌, ◌≢◌, ℕ, ◌+◌, ◌-◌, ◌==◌, Bool, cond, List, [], ◌∷◌, map, refl}
use Rattle.std.specs.List.{AllZip}
use Rattle.std.proofs.Common.{sym, ap, subst, ◌∙◌, inl, inr}
use Rattle.std.proofs.lemmas.Bool.{cond_both}
use Rattle.bl_value.specs.declared.log_code.LogCode.{LogCode}
use Rattle.bl_value.specs.declared.log_code.LogCode.TheVariants.{ListFault, NoPreviousLoad, SourceNotFound, TooManyFiles}
use Rattle.bl_files.specs.declared.feed.Feed.{Feed}
use Rattle.bl_files.specs.declared.feed_end.FeedEnd.{FeedEnd}
use Rattle.bl_files.specs.declared.found.Found.{Found}
use Rattle.bl_files.specs.declared.plan_result.PlanResult.{PlanResult}
use Rattle.bl_files.specs.declared.plan_result.PlanResult.TheVariants as plan
use Rattle.bl_queue.specs.declared.job.Job.{Job}
use Rattle.bl_queue.specs.declared.job_status.JobStatus.TheVariants.{InProgress, NotStarted}
use Rattle.bl_queue.specs.Jobs.{Kept, has_open, is_unended, waits}
use Rattle.bl_queue.specs.Changes.{IsChanged, with_job}
use Rattle.bl_queue.specs.Doomed.{IsFate, IsSettled, called_up, with_front}
use Rattle.bl_queue.specs.Rows.{fed_job}
use Rattle.bl_queue.specs.Runs.{IsStarted, begun, closed, feeds_after, goes_on_from, job_after_feed, number_of, refused_job, run_after, running_job, started_job, whole_status}
use Rattle.bl_entry.specs.declared.entry.Entry.{Entry}
use Rattle.bl_entry.specs.declared.entry.Entry.TheVariants.{Submit, Cancel, Start, Batch, FeedEnd as End}
use Rattle.bl_world.specs.Worlds.{IsKeptAfter}
use Rattle.bl_engine.specs.declared.turned.Turned.TheVariants.{Idle}
use Rattle.bl_engine.specs.Findings.{turned_by}
use Rattle.bl_load.specs.SameJobs.{HasSameJobs, Tag, tag_of}

-- ---- a list that settles

tag_called : (job : Job) → tag_of (called_up job) ≡ tag_of job
tag_called job = cond_both (waits job) (record job { status = NotStarted }) job (λ x. tag_of x ≡ tag_of job) (λ h. refl) (λ h. refl)

tags_front : (jobs : List Job) → map tag_of (with_front jobs) ≡ map tag_of jobs
tags_front [] = refl
tags_front (job ∷ jobs) = cond_both (is_unended job) (called_up job ∷ jobs) (job ∷ with_front jobs) (λ l. map tag_of l ≡ map tag_of (job ∷ jobs)) (λ h. ap (λ t. t ∷ map tag_of jobs) (tag_called job))
    (λ h. ap (λ l. tag_of job ∷ l) (tags_front jobs))

tag_fate : (moment : ℕ) (jobs : List Job) (old new : Job) → IsFate moment jobs old new → tag_of new ≡ tag_of old
tag_fate moment jobs old new (inl ended) = ap tag_of ended.1
tag_fate moment jobs old new (inr same) = ap tag_of same.1

tags_fated : (moment : ℕ) (jobs olds news : List Job) → AllZip (IsFate moment jobs) olds news → map tag_of news ≡ map tag_of olds
tags_fated moment jobs [] [] zip = refl
tags_fated moment jobs [] (y ∷ ys) zip = absurd zip
tags_fated moment jobs (x ∷ xs) [] zip = absurd zip
tags_fated moment jobs (x ∷ xs) (y ∷ ys) zip = ap (λ t. t ∷ map tag_of ys) (tag_fate moment jobs x y zip.0) ∙ ap (λ l. tag_of x ∷ l) (tags_fated moment jobs xs ys zip.1)

tags_settled : (moment : ℕ) (before after : List Job) → IsSettled moment before after → map tag_of after ≡ map tag_of before
tags_settled moment before after s = ap (λ l. map tag_of l) s.2 ∙ tags_front s.0 ∙ tags_fated moment before before s.0 s.1

-- ---- a job that changes

module _ (number : ℕ) (change : Job → Job) (keeps : (job : Job) → tag_of (change job) ≡ tag_of job) where
  tag_with : (job : Job) → tag_of (cond (job.number == number) (change job) job) ≡ tag_of job
  tag_with job = cond_both (job.number == number) (change job) job (λ x. tag_of x ≡ tag_of job) (λ h. keeps job) (λ h. refl)

  tags_with : (jobs : List Job) → map tag_of (with_job number change jobs) ≡ map tag_of jobs
  tags_with [] = refl
  tags_with (job ∷ jobs) = ap (λ t. t ∷ map tag_of (with_job number change jobs)) (tag_with job) ∙ ap (λ l. tag_of job ∷ l) (tags_with jobs)

  same_changed : (moment : ℕ) (old new : Kept) → IsChanged moment number change old new → HasSameJobs old new
  same_changed moment old new c = record {
    last = ap (λ (k : Kept). k.last) c.2;
    tags = ap (λ (k : Kept). map tag_of k.jobs) c.2 ∙ tags_settled moment (with_job number change old.jobs) c.0 c.1 ∙ tags_with old.jobs;
  }

tag_closed : (job : Job) → tag_of (closed job) ≡ tag_of job
tag_closed job = cond_both (has_open job) job (record job { status = whole_status job.feeds }) (λ x. tag_of x ≡ tag_of job) (λ h. refl) (λ h. refl)

tag_running : (moment run previous : ℕ) (feeds : List Feed) (job : Job) → tag_of (running_job moment run previous feeds job) ≡ tag_of job
tag_running moment run previous feeds job = tag_closed (record (started_job moment run previous job) { status = InProgress; feeds = begun job.request.fail_on_error feeds })

tag_after : (moment place : ℕ) (how : FeedEnd) (job : Job) → tag_of (job_after_feed moment place how job) ≡ tag_of job
tag_after moment place how job = tag_closed (record job { latest = moment; feeds = feeds_after job.request.fail_on_error place how job.feeds })

-- ---- what the loader appends

same_refused : (moment number : ℕ) (code : LogCode) (old new : Kept)
    → IsChanged moment number (refused_job moment (run_after (goes_on_from old.jobs number)) (number_of (goes_on_from old.jobs number)) code) old new → HasSameJobs old new
same_refused moment number code old new c = same_changed number (refused_job moment (run_after (goes_on_from old.jobs number)) (number_of (goes_on_from old.jobs number)) code) (λ job. refl) moment old new c

same_started : (moment number : ℕ) (planned : PlanResult) (old new : Kept) → IsStarted moment number planned old new → HasSameJobs old new
same_started moment number (plan.Feeds found) old new s =
    let run = run_after (goes_on_from old.jobs number) in
    let previous = number_of (goes_on_from old.jobs number) in
    same_changed number (running_job moment run previous s.0) (tag_running moment run previous s.0) moment old new s.2
same_started moment number plan.NoPrevious old new s = same_refused moment number NoPreviousLoad old new s
same_started moment number plan.SourceNotFound old new s = same_refused moment number SourceNotFound old new s
same_started moment number plan.ListFault old new s = same_refused moment number ListFault old new s
same_started moment number (plan.TooManyFiles n) old new s = same_refused moment number TooManyFiles old new s

-- The jobs stay the same, where the entry is one of which the loader tells.
pub same_jobs : (entry : Entry) (old new : Kept) → turned_by entry ≢ Idle → IsKeptAfter entry old new → HasSameJobs old new
same_jobs (Submit moment number id request) old new told after = absurd (told refl)
same_jobs (Cancel moment number) old new told after = absurd (told refl)
same_jobs (Start moment number planned) old new told after = same_started moment number planned old new after
same_jobs (Batch moment number place from rows digest duplicates logs changes) old new told after = record {
  last = ap (λ (k : Kept). k.last) after;
  tags = ap (λ (k : Kept). map tag_of k.jobs) after ∙ tags_with number (fed_job moment (place - 1) rows digest duplicates logs) (λ job. refl) old.jobs;
}
same_jobs (End moment number place how) old new told after = same_changed number (job_after_feed moment (place - 1) how) (tag_after moment (place - 1) how) moment old new after

pub same_none : (kept : Kept) → HasSameJobs kept kept
same_none kept = record { last = refl; tags = refl }

pub same_then : (a b c : Kept) → HasSameJobs a b → HasSameJobs b c → HasSameJobs a c
same_then a b c first second = record { last = second.last ∙ first.last; tags = second.tags ∙ first.tags }
