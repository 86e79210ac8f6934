-- In every world the jobs are as they always are.
use Rattle.std.specs.Prelude.{◌≡◌, ℕ, zero, suc, ◌+◌, ◌-◌, ◌<◌, ◌^◌, true, List, [], ◌∷◌, ◌++◌, length, slice_get, refl, IsSomeAnd, Some, None}
use Rattle.std.proofs.Common.{sym, ap, subst, ◌∙◌, arith}
use Rattle.std.proofs.lemmas.List.{length_push}
use Rattle.bl_outside.specs.declared.digest.Digest.{Digest}
use Rattle.bl_value.specs.declared.change.Change.{Change}
use Rattle.bl_value.specs.declared.log_code.LogCode.{LogCode}
use Rattle.bl_value.specs.declared.log_code.LogCode.TheVariants.{ListFault, NoPreviousLoad, SourceNotFound, TooManyFiles}
use Rattle.bl_files.specs.declared.feed.Feed.{Feed}
use Rattle.bl_files.specs.declared.log.Log.{Log}
use Rattle.bl_files.specs.declared.load_request.LoadRequest.{LoadRequest}
use Rattle.bl_files.specs.declared.plan_result.PlanResult.{PlanResult}
use Rattle.bl_files.specs.declared.plan_result.PlanResult.TheVariants as plan
use Rattle.bl_files.proofs.CarriedFeeds.{carried_feeds}
use Rattle.bl_queue.specs.declared.job.Job.{Job}
use Rattle.bl_files.specs.Statuses.{is_open}
use Rattle.bl_queue.specs.Jobs.{AreJobs, Kept, front_job, is_unended, job_of, number_in}
use Rattle.bl_queue.specs.Checks.{refusal}
use Rattle.bl_queue.specs.Changes.{IsChanged, IsSubmitted, IsTrimmed, new_job, with_job}
use Rattle.bl_queue.specs.Runs.{IsStarted, cancelled_job, feeds_of, goes_on_from, job_after_feed, number_of, refused_job, run_after, running_job}
use Rattle.bl_queue.specs.Rows.{fed_job}
use Rattle.bl_queue.proofs.ChangedJobs.{IsChange, changed_jobs, found_in, front_found, front_in, some_and}
use Rattle.bl_queue.proofs.FedFeeds.{fed_change}
use Rattle.bl_queue.proofs.RunChanges.{cancel_change, feed_change}
use Rattle.bl_queue.proofs.SettledJobs.{are_settled, settled_length}
use Rattle.bl_queue.proofs.SettledLaws.{changed_so}
use Rattle.bl_queue.proofs.Starts.{all_counts, feeds_fit, older, refuse_change, run_before, run_change}
use Rattle.bl_queue.proofs.SteadyChanges.{still_jobs}
use Rattle.bl_queue.proofs.SubmittedJobs.{pushed_calm, pushed_steady}
use Rattle.bl_queue.proofs.TrimmedJobs.{trimmed_are}
use Rattle.bl_entry.specs.declared.entry.Entry.{Entry}
use Rattle.bl_entry.specs.declared.entry.Entry.TheVariants.{Submit, Cancel, Start, Batch, FeedEnd as End}
use Rattle.bl_world.specs.Worlds.{FitsBatch, FitsStart, Fits, IsFirstOpen, IsKeptAfter, World, WorldsHaveJobs}
use Rattle.bl_world.proofs.RisingNames.{rising_names}

pub first_get : (feeds : List Feed) (place : ℕ) (of : Feed) (P : Feed → Type 0) → IsFirstOpen feeds place of → ((is_open of.status ≡ true) → P of) → IsSomeAnd (slice_get feeds place) P
first_get [] place of P first h = absurd first
first_get (f ∷ feeds) zero of P first h = subst P (sym first.1) (h (ap (λ (x : Feed). is_open x.status) (sym first.1) ∙ first.0))
first_get (f ∷ feeds) (suc place) of P first h = first_get feeds place of P first.1 h

by_change : (kept new : Kept) → AreJobs kept → (moment number : ℕ) (change : Job → Job) (it : Job) → job_of number kept.jobs ≡ Some it → is_unended it ≡ true → IsChange kept.jobs it (change it) → IsChanged moment number change kept new → AreJobs new
by_change kept new are moment number change it found unended is changed = subst AreJobs (sym changed.2) (changed_jobs moment number change kept are it found unended is changed.0 changed.1)

module _ (kept : Kept) (are : AreJobs kept) where
  front_of : (number : ℕ) (it : Job) → front_job kept.jobs ≡ Some it → it.number ≡ number → job_of number kept.jobs ≡ Some it
  front_of number it front same = ap (λ n. job_of n kept.jobs) (sym same) ∙ front_found kept.jobs it are.rising front

  refused : (moment number : ℕ) (code : LogCode) (planned : PlanResult) (new : Kept) → FitsStart kept number planned
      → IsChanged moment number (refused_job moment (run_after (goes_on_from kept.jobs number)) (number_of (goes_on_from kept.jobs number)) code) kept new → AreJobs new
  refused moment number code planned new fits changed =
      by_change kept new are moment number (refused_job moment (run_after (goes_on_from kept.jobs number)) (number_of (goes_on_from kept.jobs number)) code) fits.it (front_of number fits.it fits.front fits.number_is) (front_in kept.jobs fits.it fits.front).1
      (refuse_change moment kept are fits.it fits.front (run_after (goes_on_from kept.jobs number)) (number_of (goes_on_from kept.jobs number)) code (run_before moment kept are fits.it fits.front number fits.number_is) fits.rests) changed

  started : (moment number : ℕ) (planned : PlanResult) (new : Kept) → FitsStart kept number planned → IsStarted moment number planned kept new → AreJobs new
  started moment number (plan.Feeds found) new fits start =
      let fit = feeds_fit number (goes_on_from kept.jobs number) (older kept are number) in
      let run : ℕ = run_after (goes_on_from kept.jobs number) in
      let previous : ℕ = number_of (goes_on_from kept.jobs number) in
      by_change kept new are moment number (running_job moment run previous start.0) fits.it (front_of number fits.it fits.front fits.number_is) (front_in kept.jobs fits.it fits.front).1
      (run_change moment kept are fits.it fits.front run previous start.0 (run_before moment kept are fits.it fits.front number fits.number_is)
      (carried_feeds (feeds_of (goes_on_from kept.jobs number)) found fit.0 (rising_names found fits.planned_is.0) start.0 start.1)
      (all_counts (feeds_of (goes_on_from kept.jobs number)) found start.0 fit.1 fits.planned_is.1 start.1)) start.2
  started moment number plan.NoPrevious new fits start = refused moment number NoPreviousLoad plan.NoPrevious new fits start
  started moment number plan.SourceNotFound new fits start = refused moment number SourceNotFound plan.SourceNotFound new fits start
  started moment number plan.ListFault new fits start = refused moment number ListFault plan.ListFault new fits start
  started moment number (plan.TooManyFiles n) new fits start = refused moment number TooManyFiles (plan.TooManyFiles n) new fits start

  submitted : (moment id : ℕ) (request : LoadRequest) (new : Kept) → refusal kept request ≡ None → number_in id ≡ kept.last + 1 → IsSubmitted moment id request kept new → AreJobs new
  submitted moment id request new passes number is =
      let before : List Job = kept.jobs ++ new_job moment (kept.last + 1) id request ∷ [] in
      let all : IsTrimmed moment before is.0 = is.1 in
      let settled = are_settled moment (kept.last + 1) before all.0 (pushed_steady moment id request kept are passes number) (pushed_calm moment id request kept are passes number) all.1 in
      let longer : length before ≡ length kept.jobs + 1 = length_push kept.jobs (new_job moment (kept.last + 1) id request) in
      subst AreJobs (sym is.2) (subst (λ l. AreJobs (record { last = kept.last + 1; jobs = l })) (sym all.2) (trimmed_are (kept.last + 1) all.0 settled (omega (arith, settled_length moment before all.0 all.1, longer, are.few))))

-- rows are taken
fed_jobs : (before : World) (moment number place from rows : ℕ) (digest : Digest) (duplicates : ℕ) (logs : List Log) (changes : List Change) → AreJobs before.kept → FitsBatch before.kept before.graph number place from rows duplicates logs changes
    → AreJobs (record before.kept { jobs = with_job number (fed_job moment (place - 1) rows digest duplicates logs) before.kept.jobs })
fed_jobs before moment number place from rows digest duplicates logs changes are fits =
    still_jobs moment number (fed_job moment (place - 1) rows digest duplicates logs) before.kept are fits.it (front_of before.kept are number fits.it fits.next.0 fits.next.1) (front_in before.kept.jobs fits.it fits.next.0).1
    (fed_change rows digest duplicates logs fits.among moment (place - 1) before.kept are fits.it fits.next.0
    (first_get fits.it.feeds (place - 1) fits.of (λ feed. (is_open feed.status ≡ true) × (feed.taken + rows < 2 ^ 48)) fits.next.3 (λ still. (still, subst (λ t. t + rows < 2 ^ 48) fits.from_is fits.room)))) refl

-- a batch is a change of its job, which leaves the others settled
pub fed_changed : (before : World) (moment number place from rows : ℕ) (digest : Digest) (duplicates : ℕ) (logs : List Log) (changes : List Change) (new : Kept) → AreJobs before.kept → FitsBatch before.kept before.graph number place from rows duplicates logs changes
    → new ≡ record before.kept { jobs = with_job number (fed_job moment (place - 1) rows digest duplicates logs) before.kept.jobs }
    → IsChanged moment number (fed_job moment (place - 1) rows digest duplicates logs) before.kept new
fed_changed before moment number place from rows digest duplicates logs changes new are fits is =
    changed_so moment number (fed_job moment (place - 1) rows digest duplicates logs) before.kept new
    (subst AreJobs (sym is) (fed_jobs before moment number place from rows digest duplicates logs changes are fits)) is

pub are_after : (before : World) (entry : Entry) (new : Kept) → AreJobs before.kept → Fits before entry → IsKeptAfter entry before.kept new → AreJobs new
are_after before (Submit moment number id request) new are fits after = submitted before.kept are moment id request new fits.2 (fits.1 ∙ fits.0) after
are_after before (Cancel moment number) new are fits after =
    let one = some_and (job_of number before.kept.jobs) (λ it. is_unended it ≡ true) fits in
    by_change before.kept new are moment number (cancelled_job moment) one.0 one.1 one.2 (cancel_change moment before.kept are one.0 (found_in number before.kept.jobs one.0 one.1).0) after
are_after before (Start moment number planned) new are fits after = started before.kept are moment number planned new fits after
are_after before (Batch moment number place from rows digest duplicates logs changes) new are fits after =
    subst AreJobs (sym after) (fed_jobs before moment number place from rows digest duplicates logs changes are fits)
are_after before (End moment number place how) new are fits after =
    by_change before.kept new are moment number (job_after_feed moment (place - 1) how) fits.it (front_of before.kept are number fits.it fits.next.0 fits.next.1) (front_in before.kept.jobs fits.it fits.next.0).1
    (feed_change moment (place - 1) how before.kept are fits.it fits.next.0 (first_get fits.it.feeds (place - 1) fits.of (λ feed. is_open feed.status ≡ true) fits.next.3 (λ still. still))) after

no_jobs : AreJobs (record { last = 0; jobs = [] })
no_jobs = record {
  rising = λ i j d less below. absurd (omega arith);
  numbered = λ k d below. absurd (omega arith);
  few = omega arith;
  front = tt;
  behind = λ i j d less below. absurd (omega arith);
  queued = omega arith;
  earlier = λ k d below. absurd (omega arith);
  unfailed = λ k d below. absurd (omega arith);
  running = λ k d below. absurd (omega arith);
  fresh = λ k d below. absurd (omega arith);
  feeds = λ k d below. absurd (omega arith);
  each = λ k d below. absurd (omega arith);
}

pub have_jobs : WorldsHaveJobs
have_jobs [] world is = subst (λ (w : World). AreJobs w.kept) (sym is) no_jobs
have_jobs (entry ∷ older) world is = are_after is.0 entry world.kept (have_jobs older is.0 is.1) is.2.follows.fits is.2.next.kept
