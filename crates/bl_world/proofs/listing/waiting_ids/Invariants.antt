use Rattle.std.proofs.Common.{◌≡◌, take}
use Rattle.std.specs.Prelude.{filter, map}
use Rattle.bl_queue.specs.declared.job.Job.{Job}
use Rattle.bl_queue.specs.Jobs.{waits}
use Rattle.bl_world.proofs.listing.waiting_ids.Given as goal

abbrev pub invariant-loop-job : goal.invariant-loop-job
invariant-loop-job l = l.ids.items ≡ map (λ (job : Job). job.id) (filter waits (take l.job-index l.jobs))
