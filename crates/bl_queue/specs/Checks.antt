-- Why a load that is asked for is refused.
use Rattle.std.specs.Prelude.{ℕ, ◌+◌, ◌==◌, nat_lt, Bool, not, if◌then◌else◌, List, length, count_by, position, option_map, Some, None}
use Rattle.std.specs.declared.option.Option.{Option}
use Rattle.std.specs.List.{list_any}
use Rattle.std.specs.Option.{option_or}
use Rattle.bl_files.specs.declared.load_request.LoadRequest.{LoadRequest}
use Rattle.bl_queue.specs.declared.job.Job.{Job}
use Rattle.bl_queue.specs.declared.check_refusal.CheckRefusal.{CheckRefusal}
use Rattle.bl_queue.specs.declared.check_refusal.CheckRefusal.TheVariants.{TooManyDependencies, UnknownDependency, Busy, QueueFull, NumbersUsedUp}
use Rattle.bl_queue.specs.Limits.{most_dependencies, most_queued}
use Rattle.bl_queue.specs.Jobs.{Kept, front_job, waits}

-- there are too many dependencies
abbrev pub too_many : LoadRequest → Option CheckRefusal
too_many request = if nat_lt most_dependencies (length request.dependencies)
    then Some TooManyDependencies else None

-- a kept job has this id
abbrev pub has_id : List Job → ℕ → Bool
has_id jobs id = list_any (λ job. job.id == id) jobs

-- the place of the first dependency that is no kept job's id, counted from 1
abbrev pub unknown : List Job → LoadRequest → Option CheckRefusal
unknown jobs request = option_map (λ place. UnknownDependency (place + 1))
    (position (λ id. not (has_id jobs id)) request.dependencies)

-- the load may not wait, and a job hasn't ended
abbrev pub busy : List Job → LoadRequest → Option CheckRefusal
busy jobs request = if request.queue then None else option_map (λ job. Busy job.id) (front_job jobs)

-- as many jobs wait as may
abbrev pub full : List Job → Option CheckRefusal
full jobs = if count_by waits jobs == most_queued then Some QueueFull else None

-- the last number of 32 bits was given
abbrev pub used_up : ℕ → Option CheckRefusal
used_up last = if last == 4294967295 then Some NumbersUsedUp else None

-- the first of these that holds
abbrev pub refusal : Kept → LoadRequest → Option CheckRefusal
refusal kept request = option_or (too_many request)
    (option_or (unknown kept.jobs request)
    (option_or (busy kept.jobs request) (option_or (full kept.jobs) (used_up kept.last))))
