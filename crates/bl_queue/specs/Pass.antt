-- One pass from front to back over a list of jobs.
use Rattle.std.specs.Prelude.{◌≡◌, ℕ, ◌<◌, ◌==◌, Bool, true, ◌&&◌, if◌then◌else◌, List, All, AllPairs}
use Rattle.std.specs.List.{list_any}
use Rattle.bl_queue.specs.declared.job.Job.{Job}
use Rattle.bl_queue.specs.Statuses.{has_failed}
use Rattle.bl_queue.specs.Jobs.{is_unended, number_in}
use Rattle.bl_queue.specs.Doomed.{unsatisfied}

-- the job of this id ended other than completed
abbrev pub failed_id : List Job → ℕ → Bool
failed_id jobs id = list_any (λ job. job.id == id && has_failed job.status) jobs

-- so did one that the unended job depends on
abbrev pub is_blocked : List Job → Job → Bool
is_blocked jobs job = is_unended job && list_any (λ id. failed_id jobs id) job.request.dependencies

abbrev pub after_pass : ℕ → List Job → Job → Job
after_pass moment earlier job = if is_blocked earlier job then unsatisfied moment job else job

-- the list as far as a pass needs it: the numbers rise, the ids end in them, and unended jobs
-- depend on earlier ones
pub record AreOrdered (jobs : List Job) : Type 0 where
  pub rising : AllPairs (λ a b. a.number < b.number) jobs
  pub ids : All (λ job. number_in job.id ≡ job.number) jobs
  pub earlier : All (λ job. is_unended job ≡ true →
      All (λ id. number_in id < job.number) job.request.dependencies) jobs
