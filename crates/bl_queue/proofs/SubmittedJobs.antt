-- The list with a new job at its end, before it settles.
use Rattle.std.specs.Prelude.{◌≡◌, ◌+◌, ◌<◌, ◌≤◌, ℕ, ◌==◌, Bool, true, false, not, cond, List, [], ◌∷◌, ◌++◌, count_by, position, option_map, refl, All, AllPairs, Any, Contains, Some, None}
use Rattle.std.specs.declared.option.Option.{Option}
use Rattle.std.proofs.Common.{sym, ap, ◌∙◌, arith, get_or}
use Rattle.std.specs.List.{IsDistinct}
use Rattle.std.specs.Option.{option_or}
use Rattle.std.proofs.lemmas.Bool.{true≢false, eqb-true, eqb-false, not-false}
use Rattle.std.proofs.lemmas.List.Elements.{All-nil, All-push, All-weaker, All-contains}
use Rattle.std.proofs.lemmas.List.Folds.{Any-from_list_any}
use Rattle.std.proofs.lemmas.List.Quantifiers.{all_pairs_push}
use Rattle.std.proofs.lemmas.List.Sums.{sum_by_push}
use Rattle.bl_files.specs.Carried.{AreFeeds, EndsRefused}
use Rattle.bl_files.specs.declared.feed.Feed.{Feed}
use Rattle.bl_files.specs.declared.load_request.LoadRequest.{LoadRequest}
use Rattle.bl_queue.specs.declared.job.Job.{Job}
use Rattle.bl_queue.specs.declared.job_status.JobStatus.TheVariants.{InQueue}
use Rattle.bl_queue.specs.declared.check_refusal.CheckRefusal.{CheckRefusal}
use Rattle.bl_queue.specs.declared.check_refusal.CheckRefusal.TheVariants.{UnknownDependency, QueueFull}
use Rattle.bl_queue.specs.Statuses.{has_failed, is_in_progress, is_to_start}
use Rattle.bl_queue.specs.Limits.{most_queued}
use Rattle.bl_queue.specs.Jobs.{AreJobs, IsFeed, IsNumbered, IsUnfailed, Kept, has_open, is_unended, number_in, waits}
use Rattle.bl_queue.specs.Checks.{busy, full, has_id, refusal, too_many, unknown}
use Rattle.bl_queue.specs.Changes.{new_job}
use Rattle.bl_queue.proofs.Fronts.{none_at}
use Rattle.bl_queue.proofs.FatedJobs.{AreSteady}
use Rattle.bl_queue.proofs.ChangedJobs.{running_unended}

pub no_feeds : AreFeeds []
unfolding IsDistinct
no_feeds = record { names = tt; refused = All-nil (λ (f : Feed). EndsRefused f.kind f) }

or_none : (a b : Option CheckRefusal) → option_or a b ≡ None → (a ≡ None) × (b ≡ None)
or_none None b h = (refl, h)
or_none (Some x) b h = absurd (cc)

place_none : (o : Option ℕ) → option_map (λ place. UnknownDependency (place + 1)) o ≡ None → o ≡ None
place_none None h = refl
place_none (Some x) h = absurd (cc)

full_by : (n : ℕ) (b : Bool) → (n == most_queued) ≡ b → cond b (Some QueueFull) None ≡ None → n ≡ most_queued → ⊥
full_by n true is h = λ same. cc
full_by n false is h = eqb-false n most_queued is

module _ (moment id : ℕ) (request : LoadRequest) (kept : Kept) (are : AreJobs kept) (taken_on : refusal kept request ≡ None) (id_is : number_in id ≡ kept.last + 1) where
  abbrev new : Job
  new = new_job moment (kept.last + 1) id request

  abbrev before : List Job
  before = kept.jobs ++ new ∷ []

  known : All (λ dependency. number_in dependency < kept.last + 1) request.dependencies
  known k d below =
      let many = or_none (too_many request) _ taken_on in
      let first = or_none (unknown kept.jobs request) _ many.1 in
      let none : position (λ other. not (has_id kept.jobs other)) request.dependencies ≡ None = place_none _ first.0 in
      let has : has_id kept.jobs (get_or request.dependencies k d) ≡ true = not-false _ (none_at (λ other. not (has_id kept.jobs other)) request.dependencies none k d below) in
      let there : Any (λ (job : Job). (job.id == get_or request.dependencies k d) ≡ true) kept.jobs = Any-from_list_any (λ (job : Job). job.id == get_or request.dependencies k d) kept.jobs has in
      let numbered : IsNumbered kept.last there.1 = All-contains (λ job. IsNumbered kept.last job) kept.jobs there.1 are.numbered (there.0, there.2, there.3) in
      let same : there.1.id ≡ get_or request.dependencies k d = eqb-true there.1.id (get_or request.dependencies k d) there.4 in
      let number : number_in (get_or request.dependencies k d) ≡ there.1.number = ap number_in (sym same) ∙ numbered.id in
      omega (arith, numbered.most)

  room : count_by waits kept.jobs < most_queued
  room =
      let many = or_none (too_many request) _ taken_on in
      let first = or_none (unknown kept.jobs request) _ many.1 in
      let may_wait = or_none (busy kept.jobs request) _ first.1 in
      let fits = or_none (full kept.jobs) _ may_wait.1 in
      let not_full : count_by waits kept.jobs ≡ most_queued → ⊥ = full_by (count_by waits kept.jobs) (count_by waits kept.jobs == most_queued) refl fits.0 in
      omega (arith, are.queued)

  rises : AllPairs (λ a b. a.number < b.number) before
  rises = all_pairs_push (λ a b. a.number < b.number) kept.jobs new are.rising (λ k d below. let most : (get_or kept.jobs k d).number ≤ kept.last = (are.numbered k d below).most in omega arith)

  pub pushed_steady : AreSteady (kept.last + 1) before
  pushed_steady = record {
    rising = rises;
    numbered = All-push (λ job. IsNumbered (kept.last + 1) job) kept.jobs new
        (All-weaker (λ job. IsNumbered kept.last job) (λ job. IsNumbered (kept.last + 1) job) (λ job is. record { least = is.least; most = omega (arith, is.most); id = is.id; run = is.run }) kept.jobs are.numbered)
        (record { least = omega arith; most = omega arith; id = id_is; run = omega arith });
    behind = all_pairs_push (λ a b. is_unended a ≡ true → is_unended b ≡ true → b.status ≡ InQueue) kept.jobs new are.behind (λ k d below one two. refl);
    queued = omega (arith, room, sum_by_push (λ (job : Job). cond (waits job) 1 0) kept.jobs new);
    earlier = All-push (λ job. is_unended job ≡ true → All (λ other. number_in other < job.number) job.request.dependencies) kept.jobs new are.earlier (λ unended. known);
    running = All-push (λ job. has_open job ≡ is_in_progress job.status) kept.jobs new are.running refl;
    fresh = All-push (λ job. is_to_start job.status ≡ true → job.feeds ≡ []) kept.jobs new are.fresh (λ h. refl);
    feeds = All-push (λ job. AreFeeds job.feeds) kept.jobs new are.feeds no_feeds;
    each = All-push (λ job. All IsFeed job.feeds) kept.jobs new are.each (All-nil IsFeed);
  }

  pub pushed_calm : All (λ job. is_in_progress job.status ≡ true → IsUnfailed before job) before
  pushed_calm = All-push (λ job. is_in_progress job.status ≡ true → IsUnfailed before job) kept.jobs new
      (λ k d below running. All-push (λ other. Contains (get_or kept.jobs k d).request.dependencies other.id → has_failed other.status ≡ false) kept.jobs new (are.unfailed k d below (running_unended (get_or kept.jobs k d).status running)) (λ named. refl))
      (λ h. absurd (true≢false (sym h)))
