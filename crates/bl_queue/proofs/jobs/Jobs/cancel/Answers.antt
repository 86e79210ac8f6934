use Rattle.std.proofs.Common.{◌≡◌, true, IsSomeAnd, sym, subst}
use Rattle.bl_queue.specs.Jobs.{Kept, is_unended, job_of}
use Rattle.bl_queue.specs.Changes.{with_job}
use Rattle.bl_queue.specs.Doomed.{IsSettled}
use Rattle.bl_queue.specs.Pass.{AreOrdered}
use Rattle.bl_queue.specs.Runs.{cancelled_job}
use Rattle.bl_queue.proofs.FatedJobs.{ordered}
use Rattle.bl_queue.proofs.ChangedJobs.{changed_jobs, changed_steady, found_in, some_and}
use Rattle.bl_queue.proofs.RunChanges.{cancel_change}
use Rattle.bl_queue.proofs.jobs.Jobs.cancel.Goals as goal

pub with_cancelled-requires-clause-ordered : goal.with_cancelled-requires-clause-ordered
with_cancelled-requires-clause-ordered c =
    let kept : Kept = record { last = c.self.inside.last; jobs = c.self.inside.jobs } in
    let one = some_and (job_of c.args.job kept.jobs) (λ it. is_unended it ≡ true) (subst (λ (k : Kept). IsSomeAnd (job_of c.args.job k.jobs) (λ it. is_unended it ≡ true)) (sym c.self.view_is) c.requires) in
    let change = cancel_change c.args.moment kept c.self.invariant.are one.0 (found_in c.args.job kept.jobs one.0 one.1).0 in
    subst (λ l. AreOrdered (with_job c.args.job (cancelled_job c.args.moment) l)) (sym c.replace-jobs.ensures.value)
    (ordered kept.last _ (changed_steady c.args.moment c.args.job (cancelled_job c.args.moment) kept c.self.invariant.are one.0 one.1 one.2 change))

pub invariant_of-self : goal.invariant_of-self
invariant_of-self c =
    let kept : Kept = record { last = c.self.inside.last; jobs = c.self.inside.jobs } in
    let one = some_and (job_of c.args.job kept.jobs) (λ it. is_unended it ≡ true) (subst (λ (k : Kept). IsSomeAnd (job_of c.args.job k.jobs) (λ it. is_unended it ≡ true)) (sym c.self.view_is) c.requires) in
    let change = cancel_change c.args.moment kept c.self.invariant.are one.0 (found_in c.args.job kept.jobs one.0 one.1).0 in
    record {
      are = changed_jobs c.args.moment c.args.job (cancelled_job c.args.moment) kept c.self.invariant.are one.0 one.1 one.2 change c.with_cancelled.result
          (subst (λ l. IsSettled c.args.moment (with_job c.args.job (cancelled_job c.args.moment) l) c.with_cancelled.result) c.replace-jobs.ensures.value c.with_cancelled.ensures);
      known = tt;
    }
