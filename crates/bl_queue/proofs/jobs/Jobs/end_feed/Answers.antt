use Rattle.std.proofs.Common.{◌≡◌, ◌-◌, ◌<◌, ℕ, IsSomeAnd, length, get_or, sym, subst, ap, ◌∙◌}
use Rattle.std.specs.Prelude.{All}
use Rattle.bl_queue.specs.declared.job.Job.{Job}
use Rattle.bl_queue.specs.Jobs.{Kept, front_job, job_of}
use Rattle.bl_queue.specs.Changes.{with_job}
use Rattle.bl_queue.specs.Doomed.{IsSettled}
use Rattle.bl_queue.specs.Pass.{AreOrdered}
use Rattle.bl_queue.specs.Runs.{IsOpenAt, job_after_feed}
use Rattle.bl_queue.proofs.FatedJobs.{ordered}
use Rattle.bl_queue.proofs.ChangedJobs.{changed_jobs, changed_steady, found_at, front_found, front_in, some_and, some_is}
use Rattle.bl_queue.proofs.EndedFeeds.{open_within}
use Rattle.bl_queue.proofs.RunChanges.{feed_change}
use Rattle.bl_queue.proofs.jobs.Jobs.end_feed.Goals as goal

pub with_feed_ended-requires-clause-place : goal.with_feed_ended-requires-clause-place
with_feed_ended-requires-clause-place c =
    let kept : Kept = record { last = c.self.inside.last; jobs = c.self.inside.jobs } in
    let one = some_and (front_job kept.jobs) (λ it. (it.number ≡ c.args.job) × IsOpenAt (c.args.feed - 1) it) (subst (λ (k : Kept). IsSomeAnd (front_job k.jobs) (λ it. (it.number ≡ c.args.job) × IsOpenAt (c.args.feed - 1) it)) (sym c.self.view_is) c.requires.front) in
    let found = ap (λ n. job_of n kept.jobs) (sym one.2.0) ∙ front_found kept.jobs one.0 c.self.invariant.are.rising one.1 in
    subst (λ l. All (λ (job : Job). job.number ≡ c.args.job → (c.args.feed - 1) < length job.feeds) l) (sym c.replace-jobs.ensures.value)
    (λ (k : ℕ) (d : Job) below is.
    let same : get_or kept.jobs k d ≡ one.0 = some_is (get_or kept.jobs k d) one.0 (sym (found_at c.args.job kept.jobs c.self.invariant.are.rising k d below is) ∙ found) in
    subst (λ (job : Job). (c.args.feed - 1) < length job.feeds) (sym same) (open_within (c.args.feed - 1) one.0.feeds one.2.1))

pub with_feed_ended-requires-clause-ordered : goal.with_feed_ended-requires-clause-ordered
with_feed_ended-requires-clause-ordered c =
    let kept : Kept = record { last = c.self.inside.last; jobs = c.self.inside.jobs } in
    let one = some_and (front_job kept.jobs) (λ it. (it.number ≡ c.args.job) × IsOpenAt (c.args.feed - 1) it) (subst (λ (k : Kept). IsSomeAnd (front_job k.jobs) (λ it. (it.number ≡ c.args.job) × IsOpenAt (c.args.feed - 1) it)) (sym c.self.view_is) c.requires.front) in
    let found = ap (λ n. job_of n kept.jobs) (sym one.2.0) ∙ front_found kept.jobs one.0 c.self.invariant.are.rising one.1 in
    subst (λ l. AreOrdered (with_job c.args.job (job_after_feed c.args.moment (c.args.feed - 1) c.args.end) l)) (sym c.replace-jobs.ensures.value)
    (ordered kept.last _ (changed_steady c.args.moment c.args.job (job_after_feed c.args.moment (c.args.feed - 1) c.args.end) kept c.self.invariant.are one.0 found (front_in kept.jobs one.0 one.1).1 (feed_change c.args.moment (c.args.feed - 1) c.args.end kept c.self.invariant.are one.0 one.1 one.2.1)))

pub invariant_of-self : goal.invariant_of-self
invariant_of-self c =
    let kept : Kept = record { last = c.self.inside.last; jobs = c.self.inside.jobs } in
    let one = some_and (front_job kept.jobs) (λ it. (it.number ≡ c.args.job) × IsOpenAt (c.args.feed - 1) it) (subst (λ (k : Kept). IsSomeAnd (front_job k.jobs) (λ it. (it.number ≡ c.args.job) × IsOpenAt (c.args.feed - 1) it)) (sym c.self.view_is) c.requires.front) in
    let found = ap (λ n. job_of n kept.jobs) (sym one.2.0) ∙ front_found kept.jobs one.0 c.self.invariant.are.rising one.1 in
    record {
      are = changed_jobs c.args.moment c.args.job (job_after_feed c.args.moment (c.args.feed - 1) c.args.end) kept c.self.invariant.are one.0 found (front_in kept.jobs one.0 one.1).1 (feed_change c.args.moment (c.args.feed - 1) c.args.end kept c.self.invariant.are one.0 one.1 one.2.1) c.with_feed_ended.result
          (subst (λ l. IsSettled c.args.moment (with_job c.args.job (job_after_feed c.args.moment (c.args.feed - 1) c.args.end) l) c.with_feed_ended.result) c.replace-jobs.ensures.value c.with_feed_ended.ensures);
      known = tt;
    }
