-- What the calls do to the list of jobs.
use Rattle.std.specs.Prelude.{◌≡◌, ℕ, ◌+◌, ◌==◌, nat_lt, if◌then◌else◌, List, [], ◌∷◌, ◌++◌, length, map, remove, None}
use Rattle.std.specs.declared.option.Option.{Option}
use Rattle.std.specs.List.{position_or_len}
use Rattle.bl_files.specs.declared.load_request.LoadRequest.{LoadRequest}
use Rattle.bl_files.specs.declared.log.Log.{Log}
use Rattle.bl_queue.specs.declared.job.Job.{Job}
use Rattle.bl_queue.specs.declared.job_status.JobStatus.{JobStatus}
use Rattle.bl_queue.specs.declared.job_status.JobStatus.TheVariants.{InQueue}
use Rattle.bl_queue.specs.Statuses.{has_ended}
use Rattle.bl_queue.specs.Limits.{most_kept}
use Rattle.bl_queue.specs.Jobs.{Kept}
use Rattle.bl_queue.specs.Doomed.{IsSettled}

-- the job of this number is changed
abbrev pub with_job : ℕ → (Job → Job) → List Job → List Job
with_job number change jobs = map (λ job. if job.number == number then change job else job) jobs

-- ---- a load is taken on

abbrev pub new_job : ℕ → ℕ → ℕ → LoadRequest → Job
new_job moment number id request =
    record {
      number = number;
      id = id;
      request = request;
      submitted = moment;
      started = 0;
      latest = moment;
      run = 0;
      previous = 0;
      status = InQueue;
      feeds = [];
      end_log = None;
    }

-- of more jobs than are kept the oldest that has ended goes
abbrev pub trimmed : List Job → List Job
trimmed jobs = if nat_lt most_kept (length jobs)
    then remove jobs (position_or_len (λ job. has_ended job.status) jobs) else jobs

-- the list is settled, and then trimmed
abbrev pub IsTrimmed : ℕ → List Job → List Job → Type 0
IsTrimmed moment before after =
    (settled : List Job) × IsSettled moment before settled × (after ≡ trimmed settled)

-- the new job stands behind all others
abbrev pub IsSubmitted : ℕ → ℕ → LoadRequest → Kept → Kept → Type 0
IsSubmitted moment id request old new =
    (jobs : List Job)
    × IsTrimmed moment (old.jobs ++ new_job moment (old.last + 1) id request ∷ []) jobs
    × (new ≡ record { last = old.last + 1; jobs = jobs })

-- ---- a job is changed

-- the job is changed, which settles the others
abbrev pub IsChanged : ℕ → ℕ → (Job → Job) → Kept → Kept → Type 0
IsChanged moment number change old new =
    (jobs : List Job) × IsSettled moment (with_job number change old.jobs) jobs
    × (new ≡ record old { jobs = jobs })

-- it ends
abbrev pub ended_job : ℕ → JobStatus → Option Log → Job → Job
ended_job moment status log job = record job { status = status; latest = moment; end_log = log }
