-- What becomes of a job when rows of a file are taken.
use Rattle.std.specs.Prelude.{◌≡◌, ℕ, ◌+◌, ◌-◌, ◌<◌, ◌≤◌, Bool, true, false, List, [], ◌∷◌, ◌++◌, length, drop, count_by, slice_get, IsSomeAnd, Some, None}
use Rattle.std.specs.declared.option.Option.{Option}
use Rattle.bl_outside.specs.declared.digest.Digest.{Digest}
use Rattle.bl_files.specs.declared.counts.Counts.{Counts}
use Rattle.bl_files.specs.declared.error_class.ErrorClass.{ErrorClass}
use Rattle.bl_files.specs.declared.error_class.ErrorClass.TheVariants.{Parsing, Datatype, Insert}
use Rattle.bl_files.specs.declared.feed.Feed.{Feed}
use Rattle.bl_files.specs.declared.feed_status.FeedStatus.TheVariants.{InProgress}
use Rattle.bl_files.specs.declared.log.Log.{Log}
use Rattle.bl_files.specs.Codes.{class_of}
use Rattle.bl_files.specs.ErrorFeed.{most_logs, row_logs}
use Rattle.bl_queue.specs.declared.job.Job.{Job}
use Rattle.bl_files.specs.Statuses.{is_open}
use Rattle.bl_queue.specs.Limits.{record_limit}
use Rattle.bl_queue.specs.Jobs.{IsFeed, front_job}
use Rattle.bl_queue.specs.Runs.{with_feed}

-- ---- the counters of a log

abbrev pub is_parsing : Option ErrorClass → Bool
is_parsing None = false
is_parsing (Some Parsing) = true
is_parsing (Some Datatype) = false
is_parsing (Some Insert) = false

abbrev pub is_datatype : Option ErrorClass → Bool
is_datatype None = false
is_datatype (Some Parsing) = false
is_datatype (Some Datatype) = true
is_datatype (Some Insert) = false

abbrev pub is_insert : Option ErrorClass → Bool
is_insert None = false
is_insert (Some Parsing) = false
is_insert (Some Datatype) = false
is_insert (Some Insert) = true

abbrev pub counts_after : ℕ → ℕ → List Log → Counts → Counts
counts_after rows duplicates logs counts =
    record {
      records = counts.records + rows;
      duplicates = counts.duplicates + duplicates;
      parsing = counts.parsing + count_by (λ log. is_parsing (class_of log.code)) logs;
      datatype = counts.datatype + count_by (λ log. is_datatype (class_of log.code)) logs;
      insert = counts.insert + count_by (λ log. is_insert (class_of log.code)) logs;
    }

-- ---- the file and the job

-- so many more of its records are taken, with this digest, and with the logs of those that were
-- refused
abbrev pub fed_feed : ℕ → Digest → ℕ → List Log → Feed → Feed
fed_feed rows digest duplicates logs feed =
    record feed {
      status = InProgress;
      taken = feed.taken + rows;
      digest = digest;
      counts = counts_after rows duplicates logs feed.counts;
      logs = feed.logs ++ logs;
    }

-- of the logs of all files together the last stay
abbrev pub last_logs : List Feed → List Feed
last_logs [] = []
last_logs (feed ∷ feeds) = record feed {
  logs = drop (length feed.logs - (most_logs - length (row_logs feeds))) feed.logs;
} ∷ last_logs feeds

-- without the first logs of the files, so many of them
abbrev pub without_first : ℕ → List Feed → List Feed
without_first number [] = []
without_first number (feed ∷ feeds) =
    record feed { logs = drop number feed.logs } ∷ without_first (number - length feed.logs) feeds

abbrev pub fed_job : ℕ → ℕ → ℕ → Digest → ℕ → List Log → Job → Job
fed_job moment place rows digest duplicates logs job =
    record job {
      latest = moment;
      feeds = last_logs (with_feed place (fed_feed rows digest duplicates logs) job.feeds);
    }

-- the job has an unended file at this place, of which so many records can be taken
abbrev pub MayFeed : ℕ → ℕ → Job → Type 0
MayFeed place rows job = IsSomeAnd (slice_get job.feeds place)
    (λ feed. (is_open feed.status ≡ true) × (feed.taken + rows < record_limit))

-- the same of a file, with what is taken
abbrev pub MayTake : ℕ → ℕ → List Log → Feed → Type 0
MayTake rows duplicates logs feed =
    IsFeed feed × (feed.taken + rows < record_limit) × (duplicates + length logs ≤ rows)

-- So many rows of the file of this number, counted from 1, may be taken, with so many duplicates
-- and logs.
pub record MayTakeRows (jobs : List Job) (job feed rows duplicates logs : ℕ) : Type 0 where
  pub number : 1 ≤ feed
  pub front : IsSomeAnd (front_job jobs) (λ it. (it.number ≡ job) × MayFeed (feed - 1) rows it)
  pub few : duplicates + logs ≤ rows
