-- The list of jobs, and what it always is.
use Rattle.std.specs.Prelude.{◌≡◌, ℕ, ◌<◌, ◌≤◌, ◌%◌, ◌^◌, ◌==◌, Bool, true, false, not, List, [], length, count_by, find, All, AllPairs, Contains, IfSome}
use Rattle.std.specs.declared.option.Option.{Option}
use Rattle.std.specs.List.{list_any}
use Rattle.bl_files.specs.declared.feed.Feed.{Feed}
use Rattle.bl_files.specs.Carried.{AreFeeds}
use Rattle.bl_files.specs.Codes.{has_file_code}
use Rattle.bl_queue.specs.Limits.{most_kept, most_queued, record_limit}
use Rattle.bl_queue.specs.declared.job.Job.{Job}
use Rattle.bl_queue.specs.declared.job_status.JobStatus.TheVariants.{InQueue}
use Rattle.bl_files.specs.Statuses.{is_open}
use Rattle.bl_queue.specs.Statuses.{has_ended, has_failed, is_in_progress, is_in_queue, is_to_start}

-- the last number that was given, and the jobs that are kept, by number
pub record Kept : Type 0 where
  pub last : ℕ
  pub jobs : List Job

-- the number in the last six bytes of a load id
abbrev pub number_in : ℕ → ℕ
number_in id = id % 2 ^ 48

abbrev pub is_unended : Job → Bool
is_unended job = not (has_ended job.status)

abbrev pub waits : Job → Bool
waits job = is_in_queue job.status

-- the first job that hasn't ended
abbrev pub front_job : List Job → Option Job
front_job jobs = find is_unended jobs

-- the job of this number
abbrev pub job_of : ℕ → List Job → Option Job
job_of number jobs = find (λ job. job.number == number) jobs

-- the job of this id
abbrev pub job_with_id : ℕ → List Job → Option Job
job_with_id id jobs = find (λ job. job.id == id) jobs

-- the kept job other is one that the job depends on
abbrev pub IsDependency : List Job → Job → Job → Type 0
IsDependency jobs job other = Contains jobs other × Contains job.request.dependencies other.id

-- a file of the job hasn't ended
abbrev pub has_open : Job → Bool
has_open job = list_any (λ feed. is_open feed.status) job.feeds

-- ---- what a list of jobs always is

-- none of the kept jobs that the job depends on has ended other than completed
abbrev pub IsUnfailed : List Job → Job → Type 0
IsUnfailed jobs job = All (λ other. Contains job.request.dependencies other.id →
    has_failed other.status ≡ false) jobs

-- A job's id ends in its number, which is 1 or more and at most the last one. There are no more
-- runs than jobs.
pub record IsNumbered (last : ℕ) (job : Job) : Type 0 where
  pub least : 1 ≤ job.number
  pub most : job.number ≤ last
  pub id : number_in job.id ≡ job.number
  pub run : job.run ≤ job.number

-- What each file of a job is: where it isn't read, it has the code of a file. It has fewer records
-- taken than the limit, and counts no more than these.
pub record IsFeed (feed : Feed) : Type 0 where
  pub kind : has_file_code feed.kind ≡ true
  pub taken : feed.taken < record_limit
  pub records : feed.counts.records ≤ feed.taken
  pub duplicates : feed.counts.duplicates ≤ feed.taken
  pub parsing : feed.counts.parsing ≤ feed.taken
  pub datatype : feed.counts.datatype ≤ feed.taken
  pub insert : feed.counts.insert ≤ feed.taken

pub record AreJobs (kept : Kept) : Type 0 where
  -- the numbers rise, and the ids end in them
  pub rising : AllPairs (λ a b. a.number < b.number) kept.jobs
  pub numbered : All (λ job. IsNumbered kept.last job) kept.jobs
  pub few : length kept.jobs ≤ most_kept
  -- the first unended job doesn't wait, and all others do
  pub front : IfSome (front_job kept.jobs) (λ job. waits job ≡ false)
  pub behind : AllPairs (λ a b. is_unended a ≡ true → is_unended b ≡ true → b.status ≡ InQueue)
      kept.jobs
  pub queued : count_by waits kept.jobs ≤ most_queued
  -- an unended job depends on earlier ones, none of which has ended other than completed
  pub earlier : All (λ job. is_unended job ≡ true →
      All (λ id. number_in id < job.number) job.request.dependencies) kept.jobs
  pub unfailed : All (λ job. is_unended job ≡ true → IsUnfailed kept.jobs job) kept.jobs
  -- just a job in progress has unended files
  pub running : All (λ job. has_open job ≡ is_in_progress job.status) kept.jobs
  -- a job that isn't started has no files
  pub fresh : All (λ job. is_to_start job.status ≡ true → job.feeds ≡ []) kept.jobs
  pub feeds : All (λ job. AreFeeds job.feeds) kept.jobs
  pub each : All (λ job. All IsFeed job.feeds) kept.jobs
