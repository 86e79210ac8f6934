-- Which jobs end with others, and the list once they have ended.
use Rattle.std.specs.Prelude.{◌≡◌, ℕ, true, if◌then◌else◌, ◌⊎◌, List, [], ◌∷◌}
use Rattle.std.specs.List.{AllZip}
use Rattle.bl_queue.specs.declared.job.Job.{Job}
use Rattle.bl_queue.specs.declared.job_status.JobStatus.TheVariants.{NotStarted, DependencyNotSatisfied}
use Rattle.bl_queue.specs.Statuses.{has_failed}
use Rattle.bl_queue.specs.Jobs.{IsDependency, is_unended, waits}

-- A walk from a job: each job but the last is unended and depends on the next, which is kept. The
-- last one ended other than completed.
abbrev pub LeadsToFailure : List Job → Job → List Job → Type 0
LeadsToFailure jobs job [] = has_failed job.status ≡ true
LeadsToFailure jobs job (next ∷ walk) =
    (is_unended job ≡ true) × IsDependency jobs job next × LeadsToFailure jobs next walk

-- from the job, which hasn't ended, there is such a walk
abbrev pub IsDoomed : List Job → Job → Type 0
IsDoomed jobs job = (is_unended job ≡ true) × (walk : List Job) × LeadsToFailure jobs job walk

-- the job has ended because of another
abbrev pub unsatisfied : ℕ → Job → Job
unsatisfied moment job = record job { status = DependencyNotSatisfied; latest = moment }

-- it ends where it is doomed, and else stays as it is
abbrev pub IsFate : ℕ → List Job → Job → Job → Type 0
IsFate moment jobs old new = (IsDoomed jobs old × (new ≡ unsatisfied moment old))
    ⊎ ((¬ IsDoomed jobs old) × (new ≡ old))

abbrev pub called_up : Job → Job
called_up job = if waits job then record job { status = NotStarted } else job

-- the first unended job waits no longer
abbrev pub with_front : List Job → List Job
with_front [] = []
with_front (job ∷ jobs) = if is_unended job then called_up job ∷ jobs else job ∷ with_front jobs

-- exactly the doomed jobs have ended, and then the first unended one waits no longer
abbrev pub IsSettled : ℕ → List Job → List Job → Type 0
IsSettled moment before after =
    (ended : List Job) × AllZip (IsFate moment before) before ended × (after ≡ with_front ended)
