-- No job gets too many files by what befalls it.
use Rattle.std.specs.Prelude.{◌≡◌, ℕ, zero, suc, ◌+◌, ◌≤◌, ◌&&◌, ◌==◌, nat_lt, Bool, cond, List, [], ◌∷◌, ◌++◌, length, remove, refl}
use Rattle.std.specs.List.{AllZip, list_any, position_or_len}
use Rattle.std.proofs.Common.{sym, ap, subst, ◌∙◌, arith, inl, inr, get_or, take, drop}
use Rattle.std.proofs.lemmas.Bool.{cond_both}
use Rattle.std.proofs.lemmas.List.{length-map}
use Rattle.std.proofs.lemmas.List.Elements.{All-append, All-cons, All-drop, All-head, All-map, All-nil, All-push, All-tail, All-take}
use Rattle.bl_value.specs.declared.log_code.LogCode.TheVariants.{ListFault, NoPreviousLoad, SourceNotFound, TooManyFiles}
use Rattle.bl_files.specs.declared.feed.Feed.{Feed}
use Rattle.bl_files.specs.declared.feed_end.FeedEnd.{FeedEnd}
use Rattle.bl_files.specs.declared.feed_status.FeedStatus.{FeedStatus}
use Rattle.bl_files.specs.declared.feed_status.FeedStatus.TheVariants as ends
use Rattle.bl_files.specs.declared.load_request.LoadRequest.{LoadRequest}
use Rattle.bl_files.specs.declared.log.Log.{Log}
use Rattle.bl_files.specs.declared.plan_result.PlanResult.{PlanResult}
use Rattle.bl_files.specs.declared.plan_result.PlanResult.TheVariants as plan
use Rattle.bl_files.specs.Carried.{most_files}
use Rattle.bl_files.specs.Statuses.{is_failed}
use Rattle.bl_outside.specs.declared.digest.Digest.{Digest}
use Rattle.bl_queue.specs.declared.job.Job.{Job}
use Rattle.bl_queue.specs.declared.job_status.JobStatus.TheVariants.{InProgress, NotStarted}
use Rattle.bl_queue.specs.Statuses.{has_ended}
use Rattle.bl_queue.specs.Jobs.{Kept, has_open, is_unended, waits}
use Rattle.bl_queue.specs.Limits.{most_kept}
use Rattle.bl_queue.specs.Doomed.{IsFate, IsSettled, called_up, with_front}
use Rattle.bl_queue.specs.Changes.{IsChanged, IsSubmitted, IsTrimmed, new_job, trimmed, with_job}
use Rattle.bl_queue.specs.Runs.{HasRoom, IsStarted, begun, cancelled_job, closed, ended_feed, feeds_after, feeds_of, goes_on_from, job_after_feed, number_of, open_ended, refused_job, run_after, running_job, stops, whole_status, with_feed, with_open_ended}
use Rattle.bl_queue.specs.Rows.{fed_feed, fed_job, last_logs}
use Rattle.bl_world.specs.Worlds.{HaveFewFiles}
use Rattle.bl_world.proofs.OneWorld.{one_carried}

abbrev Few : Job → Type 0
Few job = length job.feeds ≤ most_files

-- ---- the jobs settle

fate_few : (moment : ℕ) (all : List Job) (old new : Job) → IsFate moment all old new → Few old → Few new
fate_few moment all old new (inl ended) few = subst Few (sym ended.1) few
fate_few moment all old new (inr same) few = subst Few (sym same.1) few

zip_few : (moment : ℕ) (all xs ys : List Job) → AllZip (IsFate moment all) xs ys → HaveFewFiles xs → HaveFewFiles ys
zip_few moment all [] [] zip few = All-nil Few
zip_few moment all [] (y ∷ ys) zip few = absurd zip
zip_few moment all (x ∷ xs) [] zip few = absurd zip
zip_few moment all (x ∷ xs) (y ∷ ys) zip few = All-cons Few y ys (fate_few moment all x y zip.0 (All-head Few x xs few)) (zip_few moment all xs ys zip.1 (All-tail Few x xs few))

called_few : (job : Job) → Few job → Few (called_up job)
called_few job few = cond_both (waits job) (record job { status = NotStarted }) job Few (λ h. few) (λ h. few)

front_few : (jobs : List Job) → HaveFewFiles jobs → HaveFewFiles (with_front jobs)
front_few [] few = few
front_few (job ∷ jobs) few =
    cond_both (is_unended job) (called_up job ∷ jobs) (job ∷ with_front jobs) HaveFewFiles
    (λ h. All-cons Few (called_up job) jobs (called_few job (All-head Few job jobs few)) (All-tail Few job jobs few))
    (λ h. All-cons Few job (with_front jobs) (All-head Few job jobs few) (front_few jobs (All-tail Few job jobs few)))

settled_few : (moment : ℕ) (before after : List Job) → IsSettled moment before after → HaveFewFiles before → HaveFewFiles after
settled_few moment before after settled few = subst HaveFewFiles (sym settled.2) (front_few settled.0 (zip_few moment before before settled.0 settled.1 few))

-- ---- one job is changed

module _ (number : ℕ) (change : Job → Job) (keeps : (job : Job) → Few job → Few (change job)) where
  pub with_job_few : (jobs : List Job) → HaveFewFiles jobs → HaveFewFiles (with_job number change jobs)
  with_job_few jobs few = All-map Few (λ job. cond (job.number == number) (change job) job) jobs (λ k d below.
      let job : Job = get_or jobs k d in
      cond_both (job.number == number) (change job) job Few (λ h. keeps job (few k d below)) (λ h. few k d below))

  changed_few : (moment : ℕ) (old new : Kept) → IsChanged moment number change old new → HaveFewFiles old.jobs → HaveFewFiles new.jobs
  changed_few moment old new changed few = subst (λ (k : Kept). HaveFewFiles k.jobs) (sym changed.2) (settled_few moment (with_job number change old.jobs) changed.0 changed.1 (with_job_few old.jobs few))

length_with_feed : (place : ℕ) (change : Feed → Feed) (feeds : List Feed) → length (with_feed place change feeds) ≡ length feeds
length_with_feed zero change [] = refl
length_with_feed (suc place) change [] = refl
length_with_feed zero change (feed ∷ feeds) = refl
length_with_feed (suc place) change (feed ∷ feeds) = ap suc (length_with_feed place change feeds)

length_last_logs : (feeds : List Feed) → length (last_logs feeds) ≡ length feeds
length_last_logs [] = refl
length_last_logs (feed ∷ feeds) = ap suc (length_last_logs feeds)

length_open_ended : (status : FeedStatus) (feeds : List Feed) → length (with_open_ended status feeds) ≡ length feeds
length_open_ended status feeds = length-map feeds (open_ended status)

closed_few : (job : Job) → Few job → Few (closed job)
closed_few job few = cond_both (has_open job) job (record job { status = whole_status job.feeds }) Few (λ h. few) (λ h. few)

cancelled_few : (moment : ℕ) (job : Job) → Few job → Few (cancelled_job moment job)
cancelled_few moment job few = omega (arith, length_open_ended ends.CancelledByUser job.feeds, few)

length_after : (fail : Bool) (place : ℕ) (how : FeedEnd) (feeds : List Feed) → length (feeds_after fail place how feeds) ≡ length feeds
length_after fail place how feeds =
    let between : List Feed = with_feed place (ended_feed how) feeds in
    cond_both (stops fail how) (with_open_ended ends.CancelledDueToErrors between) between (λ l. length l ≡ length feeds)
    (λ h. length_open_ended ends.CancelledDueToErrors between ∙ length_with_feed place (ended_feed how) feeds) (λ h. length_with_feed place (ended_feed how) feeds)

ended_few : (moment place : ℕ) (how : FeedEnd) (job : Job) → Few job → Few (job_after_feed moment place how job)
ended_few moment place how job few =
    closed_few (record job { latest = moment; feeds = feeds_after job.request.fail_on_error place how job.feeds }) (omega (arith, length_after job.request.fail_on_error place how job.feeds, few))

pub fed_few : (moment place rows : ℕ) (digest : Digest) (duplicates : ℕ) (logs : List Log) (job : Job) → Few job → Few (fed_job moment place rows digest duplicates logs job)
fed_few moment place rows digest duplicates logs job few =
    omega (arith, length_last_logs (with_feed place (fed_feed rows digest duplicates logs) job.feeds), length_with_feed place (fed_feed rows digest duplicates logs) job.feeds, few)

length_begun : (fail : Bool) (feeds : List Feed) → length (begun fail feeds) ≡ length feeds
length_begun fail feeds =
    cond_both (fail && list_any (λ (f : Feed). is_failed f.status) feeds) (with_open_ended ends.CancelledDueToErrors feeds) feeds (λ l. length l ≡ length feeds)
    (λ h. length_open_ended ends.CancelledDueToErrors feeds) (λ h. refl)

running_few : (moment run previous : ℕ) (feeds : List Feed) → length feeds ≤ most_files → (job : Job) → Few job → Few (running_job moment run previous feeds job)
running_few moment run previous feeds fits job few =
    closed_few (record job { started = moment; latest = moment; run = run; previous = previous; status = InProgress; feeds = begun job.request.fail_on_error feeds })
    (omega (arith, length_begun job.request.fail_on_error feeds, fits))

-- ---- the calls

pub cancel_few : (moment number : ℕ) (old new : Kept) → IsChanged moment number (cancelled_job moment) old new → HaveFewFiles old.jobs → HaveFewFiles new.jobs
cancel_few moment number old new changed few = changed_few number (cancelled_job moment) (cancelled_few moment) moment old new changed few

pub end_few : (moment number place : ℕ) (how : FeedEnd) (old new : Kept) → IsChanged moment number (job_after_feed moment place how) old new → HaveFewFiles old.jobs → HaveFewFiles new.jobs
end_few moment number place how old new changed few = changed_few number (job_after_feed moment place how) (ended_few moment place how) moment old new changed few

pub start_few : (moment number : ℕ) (planned : PlanResult) (old new : Kept) → HasRoom old.jobs number planned → IsStarted moment number planned old new → HaveFewFiles old.jobs → HaveFewFiles new.jobs
start_few moment number (plan.Feeds found) old new room start few =
    let run : ℕ = run_after (goes_on_from old.jobs number) in
    let previous : ℕ = number_of (goes_on_from old.jobs number) in
    let fits : length start.0 ≤ most_files = subst (λ l. length l ≤ most_files) (one_carried (feeds_of (goes_on_from old.jobs number)) found room.0 start.0 room.1 start.1) room.2 in
    changed_few number (running_job moment run previous start.0) (running_few moment run previous start.0 fits) moment old new start.2 few
start_few moment number plan.NoPrevious old new room start few = changed_few number (refused_job moment (run_after (goes_on_from old.jobs number)) (number_of (goes_on_from old.jobs number)) NoPreviousLoad) (λ job h. h) moment old new start few
start_few moment number plan.SourceNotFound old new room start few = changed_few number (refused_job moment (run_after (goes_on_from old.jobs number)) (number_of (goes_on_from old.jobs number)) SourceNotFound) (λ job h. h) moment old new start few
start_few moment number plan.ListFault old new room start few = changed_few number (refused_job moment (run_after (goes_on_from old.jobs number)) (number_of (goes_on_from old.jobs number)) ListFault) (λ job h. h) moment old new start few
start_few moment number (plan.TooManyFiles n) old new room start few = changed_few number (refused_job moment (run_after (goes_on_from old.jobs number)) (number_of (goes_on_from old.jobs number)) TooManyFiles) (λ job h. h) moment old new start few

trimmed_few : (jobs : List Job) → HaveFewFiles jobs → HaveFewFiles (trimmed jobs)
trimmed_few jobs few =
    let place : ℕ = position_or_len (λ (job : Job). has_ended job.status) jobs in
    cond_both (nat_lt most_kept (length jobs)) (remove jobs place) jobs HaveFewFiles
    (λ h. All-append Few (take place jobs) (drop (suc place) jobs) (All-take Few place jobs few) (All-drop Few (suc place) jobs few)) (λ h. few)

pub submit_few : (moment id : ℕ) (request : LoadRequest) (old new : Kept) → IsSubmitted moment id request old new → HaveFewFiles old.jobs → HaveFewFiles new.jobs
submit_few moment id request old new submitted few =
    let all : List Job = old.jobs ++ new_job moment (old.last + 1) id request ∷ [] in
    let cut : IsTrimmed moment all submitted.0 = submitted.1 in
    subst (λ (k : Kept). HaveFewFiles k.jobs) (sym submitted.2)
    (subst HaveFewFiles (sym cut.2) (trimmed_few cut.0 (settled_few moment all cut.0 cut.1 (All-push Few old.jobs (new_job moment (old.last + 1) id request) few (omega arith)))))

pub no_files : HaveFewFiles []
no_files = All-nil Few
