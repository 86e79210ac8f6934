use Rattle.bl_queue.proofs.DoomedJobs.{IsPassed}
use Rattle.bl_queue.proofs.settling.end_doomed.Given as goal

-- the jobs so far have met their fates, and the rest are as they were
abbrev pub invariant-loop-place : goal.invariant-loop-place
invariant-loop-place l = IsPassed l.moment l.initial.jobs l.jobs l.place
