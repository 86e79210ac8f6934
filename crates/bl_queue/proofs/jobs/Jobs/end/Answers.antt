use Rattle.std.proofs.Common.{◌≡◌, true, false, IsSomeAnd, sym, subst}
use Rattle.bl_queue.specs.Jobs.{Kept, has_open, is_unended, job_of}
use Rattle.bl_queue.specs.Changes.{ended_job, with_job}
use Rattle.bl_queue.specs.Doomed.{IsSettled}
use Rattle.bl_queue.specs.Pass.{AreOrdered}
use Rattle.bl_queue.proofs.FatedJobs.{ordered}
use Rattle.bl_queue.proofs.ChangedJobs.{changed_jobs, changed_steady, end_change, found_in, some_and}
use Rattle.bl_queue.proofs.jobs.Jobs.end.Goals as goal

pub with_ended-requires-clause-ordered : goal.with_ended-requires-clause-ordered
with_ended-requires-clause-ordered c =
    let kept : Kept = record { last = c.self.inside.last; jobs = c.self.inside.jobs } in
    let one = some_and (job_of c.args.job kept.jobs) (λ it. (is_unended it ≡ true) × (has_open it ≡ false)) (subst (λ (k : Kept). IsSomeAnd (job_of c.args.job k.jobs) (λ it. (is_unended it ≡ true) × (has_open it ≡ false))) (sym c.self.view_is) c.requires.unended) in
    let change = end_change c.args.moment c.args.status c.args.log kept c.self.invariant.are one.0 (found_in c.args.job kept.jobs one.0 one.1).0 one.2.1 c.requires.ended in
    subst (λ l. AreOrdered (with_job c.args.job (ended_job c.args.moment c.args.status c.args.log) l)) (sym c.replace-jobs.ensures.value)
    (ordered kept.last _ (changed_steady c.args.moment c.args.job (ended_job c.args.moment c.args.status c.args.log) kept c.self.invariant.are one.0 one.1 one.2.0 change))

pub invariant_of-self : goal.invariant_of-self
invariant_of-self c =
    let kept : Kept = record { last = c.self.inside.last; jobs = c.self.inside.jobs } in
    let one = some_and (job_of c.args.job kept.jobs) (λ it. (is_unended it ≡ true) × (has_open it ≡ false)) (subst (λ (k : Kept). IsSomeAnd (job_of c.args.job k.jobs) (λ it. (is_unended it ≡ true) × (has_open it ≡ false))) (sym c.self.view_is) c.requires.unended) in
    let change = end_change c.args.moment c.args.status c.args.log kept c.self.invariant.are one.0 (found_in c.args.job kept.jobs one.0 one.1).0 one.2.1 c.requires.ended in
    record {
      are = changed_jobs c.args.moment c.args.job (ended_job c.args.moment c.args.status c.args.log) kept c.self.invariant.are one.0 one.1 one.2.0 change c.with_ended.result
          (subst (λ l. IsSettled c.args.moment (with_job c.args.job (ended_job c.args.moment c.args.status c.args.log) l) c.with_ended.result) c.replace-jobs.ensures.value c.with_ended.ensures);
      known = tt;
    }
