-- The job at the front, and the load that one goes on with.
use Rattle.std.specs.Prelude.{ℕ, ◌==◌, nat_lt, nat_eq, Bool, ◌&&◌, List, reverse, find, option_map, is_none, option_and_then}
use Rattle.std.specs.declared.option.Option.{Option}
use Rattle.std.specs.Cmp.Lexicographic.{pointwise}
use Rattle.bl_queue.specs.declared.job.Job.{Job}
use Rattle.bl_queue.specs.Jobs.{front_job, job_of}

-- the number of the first job that hasn't ended
abbrev pub front : List Job → Option ℕ
front jobs = option_map (λ job. job.number) (front_job jobs)

-- its start found files: it has a run, and ended, if so, by no log of its own
abbrev pub found_files : Job → Bool
found_files job = nat_lt 0 job.run && is_none job.end_log

-- an older load of the same source and format that found files
abbrev pub may_go_before : Job → Job → Bool
may_go_before job older = nat_lt older.number job.number &&
    (pointwise nat_eq older.request.source job.request.source &&
    (older.request.format == job.request.format && found_files older))

-- the newest of these
abbrev pub previous_job : List Job → Job → Option Job
previous_job jobs job = find (may_go_before job) (reverse jobs)

abbrev pub previous : List Job → ℕ → Option ℕ
previous jobs number = option_and_then
    (λ job. option_map (λ older. older.number) (previous_job jobs job)) (job_of number jobs)
