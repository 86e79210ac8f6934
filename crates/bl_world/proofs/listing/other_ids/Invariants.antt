use Rattle.std.proofs.Common.{◌≡◌, take}
use Rattle.std.specs.Prelude.{filter, map, not}
use Rattle.bl_queue.specs.declared.job.Job.{Job}
use Rattle.bl_queue.specs.Jobs.{waits}
use Rattle.bl_world.proofs.listing.other_ids.Given as goal

abbrev pub invariant-loop-job : goal.invariant-loop-job
invariant-loop-job l = l.ids.items ≡ map (λ (job : Job). job.id) (filter (λ job. not (waits job)) (take l.job-index l.jobs))
