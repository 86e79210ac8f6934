-- What is to be done next in a world, and what the loader is told of it.
use Rattle.std.specs.Prelude.{ℕ, ◌+◌, Bool, false, if◌then◌else◌, List, [], ◌∷◌, ◌++◌, map, reverse, filter, not, take, option_map, Some, None}
use Rattle.std.specs.declared.option.Option.{Option}
use Rattle.bl_files.specs.declared.feed.Feed.{Feed}
use Rattle.bl_files.specs.Statuses.{is_open}
use Rattle.bl_queue.specs.declared.job.Job.{Job}
use Rattle.bl_queue.specs.Statuses.{is_to_start}
use Rattle.bl_queue.specs.Jobs.{front_job, waits}
use Rattle.bl_queue.specs.Runs.{feeds_of, goes_on_from, number_of}
use Rattle.bl_world.specs.Worlds.{lacks_previous}
use Rattle.bl_world.specs.declared.work.Work.{Work}
use Rattle.bl_world.specs.declared.work.Work.TheVariants.{Idle, Plan, Continue}
use Rattle.bl_world.specs.declared.task.Task.{Task}

-- a file, and its place in its job
pub record Placed : Type 0 where
  pub place : ℕ
  pub feed : Feed

-- the first unended file; places are counted from the one given
abbrev pub first_open : ℕ → List Feed → Option Placed
first_open place [] = None
first_open place (feed ∷ feeds) = if is_open feed.status then Some (record { place = place; feed = feed }) else first_open (place + 1) feeds

-- the work on a job that runs; it has a file that hasn't ended
abbrev pub file_work : Job → Option Placed → Work
file_work it None = Idle
file_work it (Some next) = Continue it.number next.place next.feed.taken

abbrev pub job_work : List Job → Option Job → Work
job_work jobs None = Idle
job_work jobs (Some it) =
    if is_to_start it.status then Plan it.number (number_of (goes_on_from jobs it.number)) (lacks_previous jobs it) else file_work it (first_open 1 it.feeds)

-- the first unended job is planned, or its first unended file goes on
abbrev pub work_of : List Job → Work
work_of jobs = job_work jobs (front_job jobs)

-- ---- what the loader is told of it

abbrev pub task_on : List Job → Work → Option Job → Task
task_on jobs Idle it = record { work = Idle; request = None; previous = []; no_previous = false; feed = None }
task_on jobs (Plan job previous no_previous) it =
    record { work = Plan job previous no_previous; request = option_map (λ job. job.request) it; previous = feeds_of (goes_on_from jobs job); no_previous = no_previous; feed = None }
task_on jobs (Continue job feed from) it =
    record { work = Continue job feed from; request = option_map (λ job. job.request) it; previous = []; no_previous = false; feed = option_map (λ next. next.feed) (next_file it) } where
      next_file : Option Job → Option Placed
      next_file None = None
      next_file (Some it) = first_open 1 it.feeds

abbrev pub task_of : List Job → Task
task_of jobs = task_on jobs (work_of jobs) (front_job jobs)

-- ---- the ids of the jobs

-- those of the jobs that are such, the newest first
abbrev pub ids : (Job → Bool) → List Job → List ℕ
ids such jobs = reverse (map (λ job. job.id) (filter such jobs))

-- those that wait, where they are asked for, and then the others, so many at most
abbrev pub listed : ℕ → Bool → List Job → List ℕ
listed limit queued jobs = take limit ((if queued then ids waits jobs else []) ++ ids (λ job. not (waits job)) jobs)
