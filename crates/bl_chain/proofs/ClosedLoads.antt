-- An uncut load that has ended, and not by its cancel, has ended as a whole load.
use Rattle.std.specs.Prelude.{◌≡◌, ◌≢◌, ◌≤◌, true, refl}
use Rattle.std.proofs.Common.{sym, arith}
use Rattle.std.proofs.lemmas.Bool.{true≢false}
use Rattle.bl_queue.specs.declared.job_status.JobStatus.{JobStatus}
use Rattle.bl_queue.specs.declared.job_status.JobStatus.TheVariants.{NotStarted, InQueue, InProgress, Completed, CancelledByUser, Failed, DependencyNotSatisfied}
use Rattle.bl_queue.specs.Statuses.{has_ended}
use Rattle.bl_chain.specs.WholeEnds.{UncutEndsWhole}
use Rattle.bl_chain.proofs.Chained.{unchanged_holds, world_of}
use Rattle.bl_chain.proofs.KeptJobs.{is_closed}
use Rattle.bl_chain.proofs.StartedJobs.{satisfied}
use Rattle.bl_chain.proofs.WholeEnds.{uncut_ends, uncut_unchanged}

closed_by : (s : JobStatus) → has_ended s ≡ true → s ≢ CancelledByUser → s ≢ DependencyNotSatisfied → is_closed s ≡ true
closed_by NotStarted ends user other = absurd (true≢false (sym ends))
closed_by InQueue ends user other = absurd (true≢false (sym ends))
closed_by InProgress ends user other = absurd (true≢false (sym ends))
closed_by Completed ends user other = refl
closed_by CancelledByUser ends user other = absurd (user refl)
closed_by Failed ends user other = refl
closed_by DependencyNotSatisfied ends user other = absurd (other refl)

pub uncut : UncutEndsWhole
uncut tables sound entries world job chain h it there same ends user =
    let un = uncut_unchanged tables entries world job chain h in
    let ran : 1 ≤ it.run = ((unchanged_holds tables sound entries world job chain un).each it there same).ran in
    uncut_ends tables sound entries world job chain h it there same
    (closed_by it.status ends user (λ other. let none : it.run ≡ 0 = satisfied entries world it (world_of tables entries world job chain un) there other in absurd (omega (arith, ran, none))))
