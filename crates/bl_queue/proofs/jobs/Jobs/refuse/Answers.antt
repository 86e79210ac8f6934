use Rattle.std.proofs.Common.{◌≡◌, ◌+◌, ◌<◌, ◌≤◌, ◌^◌, IsSomeAnd, IfSome, arith, sym, subst, ap, ◌∙◌}
use Rattle.std.specs.declared.option.Option.{Option}
use Rattle.std.specs.Option.{option_copied}
use Rattle.bl_queue.specs.declared.job.Job.{Job}
use Rattle.bl_queue.specs.declared.job_status.JobStatus.TheVariants.{NotStarted}
use Rattle.bl_queue.specs.Jobs.{Kept, front_job, job_of}
use Rattle.bl_queue.specs.Changes.{with_job}
use Rattle.bl_queue.specs.Doomed.{IsSettled}
use Rattle.bl_queue.specs.Pass.{AreOrdered}
use Rattle.bl_queue.specs.Runs.{goes_on_from, refused_job, run_after}
use Rattle.bl_queue.proofs.FatedJobs.{ordered}
use Rattle.bl_queue.proofs.ChangedJobs.{changed_jobs, changed_steady, front_found, front_in, some_and}
use Rattle.bl_queue.proofs.Starts.{IsOlder, older, refuse_change, run_before, some_weaker}
use Rattle.bl_queue.proofs.jobs.Jobs.refuse.Goals as goal

pub run_after-run-requires : goal.run_after-run-requires
run_after-run-requires c =
    let kept : Kept = record { last = c.self.inside.last; jobs = c.self.inside.jobs } in
    let from : option_copied c.goes_on_from-older.result ≡ goes_on_from kept.jobs c.args.job = c.goes_on_from-older.ensures ∙ ap (λ l. goes_on_from l c.args.job) c.as_slice.ensures in
    subst (λ (o : Option Job). IfSome o (λ it. it.run + 1 < 2 ^ 32)) (sym from)
    (some_weaker (goes_on_from kept.jobs c.args.job) (λ it. IsOlder c.args.job it) (λ it. it.run + 1 < 2 ^ 32) (λ it h. omega (arith, h.run, c.ranges.job.fits)) (older kept c.self.invariant.are c.args.job))

pub with_refused-requires-clause-ordered : goal.with_refused-requires-clause-ordered
with_refused-requires-clause-ordered c =
    let kept : Kept = record { last = c.self.inside.last; jobs = c.self.inside.jobs } in
    let one = some_and (front_job kept.jobs) (λ it. (it.number ≡ c.args.job) × (it.status ≡ NotStarted)) (subst (λ (k : Kept). IsSomeAnd (front_job k.jobs) (λ it. (it.number ≡ c.args.job) × (it.status ≡ NotStarted))) (sym c.self.view_is) c.requires) in
    let found = ap (λ n. job_of n kept.jobs) (sym one.2.0) ∙ front_found kept.jobs one.0 c.self.invariant.are.rising one.1 in
    let from : option_copied c.goes_on_from-older.result ≡ goes_on_from kept.jobs c.args.job = c.goes_on_from-older.ensures ∙ ap (λ l. goes_on_from l c.args.job) c.as_slice.ensures in
    let few : c.run_after-run.result ≤ one.0.number = subst (λ n. n ≤ one.0.number) (sym (c.run_after-run.ensures ∙ ap run_after from)) (run_before c.args.moment kept c.self.invariant.are one.0 one.1 c.args.job one.2.0) in
    let change = refuse_change c.args.moment kept c.self.invariant.are one.0 one.1 c.run_after-run.result c.number_of-previous.result c.args.code few one.2.1 in
    subst (λ l. AreOrdered (with_job c.args.job (refused_job c.args.moment c.run_after-run.result c.number_of-previous.result c.args.code) l)) (sym c.replace-jobs.ensures.value)
    (ordered kept.last _ (changed_steady c.args.moment c.args.job (refused_job c.args.moment c.run_after-run.result c.number_of-previous.result c.args.code) kept c.self.invariant.are one.0 found (front_in kept.jobs one.0 one.1).1 change))

pub invariant_of-self : goal.invariant_of-self
invariant_of-self c =
    let kept : Kept = record { last = c.self.inside.last; jobs = c.self.inside.jobs } in
    let one = some_and (front_job kept.jobs) (λ it. (it.number ≡ c.args.job) × (it.status ≡ NotStarted)) (subst (λ (k : Kept). IsSomeAnd (front_job k.jobs) (λ it. (it.number ≡ c.args.job) × (it.status ≡ NotStarted))) (sym c.self.view_is) c.requires) in
    let found = ap (λ n. job_of n kept.jobs) (sym one.2.0) ∙ front_found kept.jobs one.0 c.self.invariant.are.rising one.1 in
    let from : option_copied c.goes_on_from-older.result ≡ goes_on_from kept.jobs c.args.job = c.goes_on_from-older.ensures ∙ ap (λ l. goes_on_from l c.args.job) c.as_slice.ensures in
    let few : c.run_after-run.result ≤ one.0.number = subst (λ n. n ≤ one.0.number) (sym (c.run_after-run.ensures ∙ ap run_after from)) (run_before c.args.moment kept c.self.invariant.are one.0 one.1 c.args.job one.2.0) in
    let change = refuse_change c.args.moment kept c.self.invariant.are one.0 one.1 c.run_after-run.result c.number_of-previous.result c.args.code few one.2.1 in
    record {
      are = changed_jobs c.args.moment c.args.job (refused_job c.args.moment c.run_after-run.result c.number_of-previous.result c.args.code) kept c.self.invariant.are one.0 found (front_in kept.jobs one.0 one.1).1 change c.with_refused.result
          (subst (λ l. IsSettled c.args.moment (with_job c.args.job (refused_job c.args.moment c.run_after-run.result c.number_of-previous.result c.args.code) l) c.with_refused.result) c.replace-jobs.ensures.value c.with_refused.ensures);
      known = tt;
    }
