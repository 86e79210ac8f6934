-- What calls make of a job.
use Rattle.std.specs.Prelude.{◌≡◌, ◌≤◌, ℕ, true, false, not, List, refl, All, Contains, Some}
use Rattle.std.proofs.Common.{sym, ◌∙◌}
use Rattle.std.proofs.lemmas.Bool.{true≢false, cond_both}
use Rattle.std.specs.List.{list_all}
use Rattle.std.proofs.lemmas.List.Elements.{All-contains}
use Rattle.bl_files.specs.declared.feed.Feed.{Feed}
use Rattle.bl_files.specs.declared.feed_end.FeedEnd.{FeedEnd}
use Rattle.bl_files.specs.declared.feed_status.FeedStatus.TheVariants as feed
use Rattle.bl_files.specs.Carried.{AreFeeds}
use Rattle.bl_files.specs.Statuses.{is_completed}
use Rattle.bl_queue.specs.declared.job.Job.{Job}
use Rattle.bl_queue.specs.declared.job_status.JobStatus.{JobStatus}
use Rattle.bl_queue.specs.declared.job_status.JobStatus.TheVariants.{NotStarted, InQueue, InProgress, Completed, CancelledByUser, Failed, DependencyNotSatisfied}
use Rattle.bl_queue.specs.Statuses.{has_ended, is_in_progress, is_to_start}
use Rattle.bl_queue.specs.Jobs.{AreJobs, IsFeed, IsNumbered, Kept, front_job, has_open}
use Rattle.bl_queue.specs.Runs.{IsOpenAt, cancelled_job, closed, feeds_after, job_after_feed, whole_status, with_open_ended}
use Rattle.bl_queue.proofs.ChangedJobs.{IsChange, front_first, front_in}
use Rattle.bl_queue.proofs.EndedFeeds.{feeds_after_counts, feeds_after_feeds, none_open, open_goes, some_open, still_counts, still_feeds}

pub cancel_change : (moment : ℕ) (kept : Kept) → AreJobs kept → (old : Job) → Contains kept.jobs old → IsChange kept.jobs old (cancelled_job moment old)
cancel_change moment kept are old there = record {
  number = refl;
  id = refl;
  request = refl;
  run = (All-contains (λ job. IsNumbered kept.last job) kept.jobs old are.numbered there).run;
  begun = refl;
  running = none_open feed.CancelledByUser old.feeds refl;
  feeds = still_feeds old.feeds (with_open_ended feed.CancelledByUser old.feeds) (open_goes feed.CancelledByUser old.feeds) (All-contains (λ job. AreFeeds job.feeds) kept.jobs old are.feeds there);
  each = still_counts old.feeds (with_open_ended feed.CancelledByUser old.feeds) (open_goes feed.CancelledByUser old.feeds) (All-contains (λ job. All IsFeed job.feeds) kept.jobs old are.each there);
  first = λ unended. absurd (true≢false (sym unended));
}

pub running_begun : (s : JobStatus) → is_in_progress s ≡ true → is_to_start s ≡ false
running_begun NotStarted h = absurd (true≢false (sym h))
running_begun InQueue h = absurd (true≢false (sym h))
running_begun InProgress h = refl
running_begun Completed h = refl
running_begun CancelledByUser h = refl
running_begun Failed h = refl
running_begun DependencyNotSatisfied h = refl

pub whole_by : (P : JobStatus → Type 0) (feeds : List Feed) → P Completed → P Failed → P (whole_status feeds)
whole_by P feeds one two = cond_both (list_all (λ (f : Feed). is_completed f.status) feeds) Completed Failed P (λ h. one) (λ h. two)

-- a job in progress with other files, closed where each has ended
pub close_change : (moment : ℕ) (kept : Kept) → AreJobs kept → (old job : Job) → front_job kept.jobs ≡ Some old → job.number ≡ old.number → job.id ≡ old.id → job.request ≡ old.request → job.run ≤ old.number → is_in_progress job.status ≡ true → AreFeeds job.feeds → All IsFeed job.feeds → IsChange kept.jobs old (closed job)
close_change moment kept are old job front number id request run running feeds counts =
    cond_both (has_open job) job (record job { status = whole_status job.feeds }) (λ x. IsChange kept.jobs old x)
    (λ still. record {
      number = number;
      id = id;
      request = request;
      run = run;
      begun = running_begun job.status running;
      running = still ∙ sym running;
      feeds = feeds;
      each = counts;
      first = λ unended. front_first kept.jobs old are.rising front;
    })
    (λ none. record {
      number = number;
      id = id;
      request = request;
      run = run;
      begun = whole_by (λ s. is_to_start s ≡ false) job.feeds refl refl;
      running = none ∙ sym (whole_by (λ s. is_in_progress s ≡ false) job.feeds refl refl);
      feeds = feeds;
      each = counts;
      first = λ unended. absurd (true≢false (sym unended ∙ whole_by (λ s. not (has_ended s) ≡ false) job.feeds refl refl));
    })

pub feed_change : (moment place : ℕ) (how : FeedEnd) (kept : Kept) → AreJobs kept → (old : Job) → front_job kept.jobs ≡ Some old → IsOpenAt place old → IsChange kept.jobs old (job_after_feed moment place how old)
feed_change moment place how kept are old front still =
    let there : Contains kept.jobs old = (front_in kept.jobs old front).0 in
    let running : is_in_progress old.status ≡ true = sym (All-contains (λ job. has_open job ≡ is_in_progress job.status) kept.jobs old are.running there) ∙ some_open place old.feeds still in
    close_change moment kept are old (record old { latest = moment; feeds = feeds_after old.request.fail_on_error place how old.feeds }) front refl refl refl
    (All-contains (λ job. IsNumbered kept.last job) kept.jobs old are.numbered there).run running
    (feeds_after_feeds old.request.fail_on_error how place old.feeds still (All-contains (λ job. AreFeeds job.feeds) kept.jobs old are.feeds there))
    (feeds_after_counts old.request.fail_on_error how place old.feeds still (All-contains (λ job. All IsFeed job.feeds) kept.jobs old are.each there))
