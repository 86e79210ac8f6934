-- The body of the status of a load (Neptune User Guide, "Loader Get-Status responses").
use Rattle.std.specs.Prelude.{ℕ, ◌+◌, ◌-◌, ◌*◌, ◌/◌, ◌==◌, nat_lt, Bool, true, false, not, ◌&&◌, if◌then◌else◌, codes, map, count_by, slice_get, None, Some, List, [], ◌∷◌, ◌++◌, length, take, drop}
use Rattle.std.specs.declared.option.Option.{Option}
use Rattle.std.specs.List.{filter}
use Rattle.serde_json.specs.Data.{Data, number, unsigned, string, array, object, Members, no_members, member, put}
use Rattle.serde_json.specs.View.{items_of}
use Rattle.serde_json.specs.Written.{compact_text}
use Rattle.bl_files.specs.ErrorFeed.{error_feed}
use Rattle.bl_files.specs.Shown.{shown_counts, totals}
use Rattle.bl_files.specs.Statuses.{has_ended, is_completed}
use Rattle.bl_files.specs.declared.counts.Counts.{Counts}
use Rattle.bl_files.specs.declared.error_feed.ErrorEntry.{ErrorEntry}
use Rattle.bl_files.specs.declared.feed.Feed.{Feed}
use Rattle.bl_files.specs.declared.feed_status.FeedStatus.{FeedStatus}
use Rattle.bl_files.specs.declared.feed_status.FeedStatus.TheVariants.{NotStarted, InProgress, Completed, Failed, ReadError, Modified, CancelledDueToErrors, CancelledByUser}
use Rattle.bl_queue.specs.declared.job.Job.{Job}
use Rattle.bl_feed.specs.Words.{code_text, feed_status_text, job_status_text, message}
use Rattle.bl_feed.specs.Bodies.{id_text, success_data}

-- Moments are told in milliseconds, and shown in whole seconds.
abbrev pub seconds : ℕ → ℕ
seconds moment = moment / 1000

-- the time from the start to the last entry of a job that was started
abbrev pub time_spent : Job → ℕ
time_spent job = if job.run == 0 then 0 else seconds (job.latest - job.started)

abbrev pub a_number : ℕ → Data
a_number n = number (unsigned n)

-- what is shown of a job, or of a file of it
abbrev pub state_data : Job → List ℕ → List ℕ → Counts → Data
state_data job uri status counts =
    object (member (codes "datatypeMismatchErrors") (a_number counts.datatype) (member (codes "fullUri") (string uri) (member (codes "insertErrors") (a_number counts.insert)
    (member (codes "parsingErrors") (a_number counts.parsing) (member (codes "retryNumber") (a_number 0) (member (codes "runNumber") (a_number job.run)
    (member (codes "startTime") (a_number (seconds job.started)) (member (codes "status") (string status) (member (codes "totalDuplicates") (a_number counts.duplicates)
    (member (codes "totalRecords") (a_number counts.records) (member (codes "totalTimeSpent") (a_number (time_spent job)) no_members)))))))))))

-- the name of a file, behind the source and a slash; the source where it is this one file
abbrev pub shown_name : List ℕ → List ℕ → List ℕ
shown_name source name = if length name == 0 then source else source ++ 47 ∷ name

abbrev pub job_data : Job → Data
job_data job = state_data job job.request.source (job_status_text job.status) (totals job.feeds)

abbrev pub feed_data : Job → Feed → Data
feed_data job feed = state_data job (shown_name job.request.source feed.name) (feed_status_text feed.status) (shown_counts feed)

-- the files that ended otherwise than whole
abbrev pub is_stopped : Feed → Bool
is_stopped feed = has_ended feed.status && not (is_completed feed.status)

abbrev pub stopped_data : Job → Data
stopped_data job = array (items_of (map (feed_data job) (filter is_stopped job.feeds)))

-- the statuses of files, in byte order of their names
abbrev pub statuses : List FeedStatus
statuses = CancelledByUser ∷ (CancelledDueToErrors ∷ (Completed ∷ (Modified ∷ (Failed ∷ (InProgress ∷ (NotStarted ∷ (ReadError ∷ [])))))))

abbrev pub place : FeedStatus → ℕ
place NotStarted = 0
place InProgress = 1
place Completed = 2
place Failed = 3
place ReadError = 4
place Modified = 5
place CancelledDueToErrors = 6
place CancelledByUser = 7

abbrev pub count_of : FeedStatus → List Feed → ℕ
count_of status feeds = count_by (λ feed. place feed.status == place status) feeds

abbrev pub count_data : List Feed → FeedStatus → Data
count_data feeds status = object (member (feed_status_text status) (a_number (count_of status feeds)) no_members)

-- how many files have each status that a file has
abbrev pub counts_data : List Feed → Data
counts_data feeds = array (items_of (map (count_data feeds) (filter (λ status. nat_lt 0 (count_of status feeds)) statuses)))

-- the name of the file of an entry
abbrev pub name_of : Job → Option Feed → List ℕ
name_of job None = job.request.source
name_of job (Some feed) = shown_name job.request.source feed.name

abbrev pub name_at : Job → Option ℕ → List ℕ
name_at job None = job.request.source
name_at job (Some index) = name_of job (slice_get job.feeds (index - 1))

abbrev pub entry_data : Job → ErrorEntry → Data
entry_data job entry =
    object (member (codes "errorCode") (string (code_text entry.log.code)) (member (codes "errorMessage") (string (message entry.log))
    (member (codes "fileName") (string (name_at job entry.feed)) (member (codes "recordNum") (a_number entry.log.number) no_members))))

-- the entries of a page, of so many per page
abbrev pub entries_of : Job → ℕ × ℕ → List ErrorEntry
entries_of job asked = take asked.1 (drop ((asked.0 - 1) * asked.1) (error_feed job.feeds job.end_log))

-- the numbers of the first and the last of them, or 0
abbrev pub first_index : ℕ × ℕ → ℕ → ℕ
first_index asked count = if count == 0 then 0 else (asked.0 - 1) * asked.1 + 1

abbrev pub last_index : ℕ × ℕ → ℕ → ℕ
last_index asked count = if count == 0 then 0 else (asked.0 - 1) * asked.1 + count

abbrev pub errors_data : Job → ℕ × ℕ → Data
errors_data job asked =
    object (member (codes "endIndex") (a_number (last_index asked (length (entries_of job asked))))
    (member (codes "errorLogs") (array (items_of (map (entry_data job) (entries_of job asked)))) (member (codes "loadId") (string (id_text job.id))
    (member (codes "startIndex") (a_number (first_index asked (length (entries_of job asked)))) no_members))))

-- Members that are there where they are asked for.
abbrev pub with_errors : Job → Option (ℕ × ℕ) → Members → Members
with_errors job None members = members
with_errors job (Some asked) members = member (codes "errors") (errors_data job asked) members

abbrev pub with_stopped : Job → Bool → Members → Members
with_stopped job true members = member (codes "failedFeeds") (stopped_data job) members
with_stopped job false members = members

-- For private clauses: the same of members that are added one by one.
abbrev pub and_errors : Job → Option (ℕ × ℕ) → Members → Members
and_errors job None members = members
and_errors job (Some asked) members = put (codes "errors") (errors_data job asked) members

abbrev pub and_stopped : Job → Bool → Members → Members
and_stopped job true members = put (codes "failedFeeds") (stopped_data job) members
and_stopped job false members = members

abbrev pub payload_data : Job → Bool → Option (ℕ × ℕ) → Data
payload_data job details errors =
    object (with_errors job errors (with_stopped job details (member (codes "feedCount") (counts_data job.feeds) (member (codes "overallStatus") (job_data job) no_members))))

abbrev pub status_text : Job → Bool → Option (ℕ × ℕ) → List ℕ
status_text job details errors = compact_text (success_data (payload_data job details errors))
