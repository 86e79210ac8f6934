-- What a load prints: a line for each change of its commits, then the line of the job.
use Rattle.std.specs.Prelude.{ℕ, ◌+◌, ◌==◌, Bool, true, false, if◌then◌else◌, decimal, List, [], ◌∷◌, ◌++◌, filter}
use Rattle.std.specs.List.{enumerate_from, flat_map}
use Rattle.bl_value.specs.declared.change.Change.{Change}
use Rattle.bl_change.specs.declared.event.Event.{Event}
use Rattle.bl_change.specs.EventText.{event_text}
use Rattle.bl_files.specs.declared.counts.Counts.{Counts}
use Rattle.bl_files.specs.Shown.{totals}
use Rattle.bl_queue.specs.declared.job.Job.{Job}
use Rattle.bl_world.specs.declared.job_commit.JobCommit.{JobCommit}
use Rattle.bl_cli.specs.JobTexts.{id_text, status_text}

-- ---- the changes

abbrev pub is_end : List Change → Bool
is_end [] = true
is_end (change ∷ changes) = false

-- the events of one commit from an operation on, numbered, the last one marked
abbrev pub events_from : ℕ → ℕ → ℕ → List Change → List Event
events_from commit op moment [] = []
events_from commit op moment (change ∷ changes) =
    record { commit = commit; op = op; moment = moment; last = is_end changes; change = change } ∷ events_from commit (op + 1) moment changes

abbrev pub event_line : Event → List ℕ
event_line event = event_text event ++ 10 ∷ []

-- the lines of a commit with its number
abbrev pub commit_lines : ℕ × JobCommit → List ℕ
commit_lines numbered = flat_map event_line (events_from numbered.0 1 numbered.1.moment numbered.1.changes)

-- the commits of a job; all commits are numbered from the number given
abbrev pub job_commits : ℕ → ℕ → List JobCommit → List (ℕ × JobCommit)
job_commits job number commits = filter (λ it. it.1.job == job) (enumerate_from number commits)

-- those of a commit of a job, and none of another one
abbrev pub own_lines : ℕ → ℕ × JobCommit → List ℕ
own_lines job numbered = if numbered.1.job == job then commit_lines numbered else []

-- the lines of a job's commits, of which the first of all has the number 1
abbrev pub change_lines : ℕ → List JobCommit → List ℕ
change_lines job commits = flat_map commit_lines (job_commits job 1 commits)

-- ---- the job

abbrev pub number_behind : ℕ → List ℕ
number_behind number = 32 ∷ decimal number

abbrev pub numbers_of : Counts → List ℕ
numbers_of counts = counts.records ∷ (counts.duplicates ∷ (counts.parsing ∷ (counts.datatype ∷ (counts.insert ∷ []))))

-- the line of a job: its id, its status, and the totals of records, duplicates, parsing, datatype
-- and insert errors
abbrev pub job_line : Job → List ℕ
job_line job = id_text job.id ++ 32 ∷ [] ++ status_text job.status ++ flat_map number_behind (numbers_of (totals job.feeds)) ++ 10 ∷ []

-- ---- both

abbrev pub lines_if : Bool → ℕ → List JobCommit → List ℕ
lines_if changes job commits = if changes then change_lines job commits else []

-- the whole output of a load, by its job and all commits at its end
abbrev pub load_output : Bool → Job → List JobCommit → List ℕ
load_output changes job commits = lines_if changes job.number commits ++ job_line job
