-- Names of statuses and codes (Neptune User Guide, "Loader Get-Status responses"), and what a log says.
use Rattle.std.specs.Prelude.{ℕ, Bool, true, false, if◌then◌else◌, codes, decimal, List, ◌++◌}
use Rattle.bl_value.specs.declared.log_code.LogCode.{LogCode}
use Rattle.bl_value.specs.declared.log_code.LogCode.TheVariants.{ColumnCount, NotUtf8, RecordTooLarge, MissingId, IdTooLong, NotOfType, OutOfRange, TooManyValues, FromMissing, ToMissing, EdgeConflict, SingleConflict, Header, Compressed, ReadFault, FileTooLarge, FeedModified, SourceNotFound, ListFault, TooManyFiles, NoPreviousLoad}
use Rattle.bl_files.specs.declared.feed_status.FeedStatus.{FeedStatus}
use Rattle.bl_files.specs.declared.feed_status.FeedStatus.TheVariants as feed
use Rattle.bl_files.specs.declared.log.Log.{Log}
use Rattle.bl_queue.specs.declared.job_status.JobStatus.{JobStatus}
use Rattle.bl_queue.specs.declared.job_status.JobStatus.TheVariants as job

abbrev pub job_status_text : JobStatus → List ℕ
job_status_text job.NotStarted = codes "LOAD_NOT_STARTED"
job_status_text job.InQueue = codes "LOAD_IN_QUEUE"
job_status_text job.InProgress = codes "LOAD_IN_PROGRESS"
job_status_text job.Completed = codes "LOAD_COMPLETED"
job_status_text job.CancelledByUser = codes "LOAD_CANCELLED_BY_USER"
job_status_text job.Failed = codes "LOAD_FAILED"
job_status_text job.DependencyNotSatisfied = codes "LOAD_FAILED_BECAUSE_DEPENDENCY_NOT_SATISFIED"

abbrev pub feed_status_text : FeedStatus → List ℕ
feed_status_text feed.NotStarted = codes "LOAD_NOT_STARTED"
feed_status_text feed.InProgress = codes "LOAD_IN_PROGRESS"
feed_status_text feed.Completed = codes "LOAD_COMPLETED"
feed_status_text feed.Failed = codes "LOAD_FAILED"
feed_status_text feed.ReadError = codes "LOAD_S3_READ_ERROR"
feed_status_text feed.Modified = codes "LOAD_DATA_FAILED_DUE_TO_FEED_MODIFIED_OR_DELETED"
feed_status_text feed.CancelledDueToErrors = codes "LOAD_CANCELLED_DUE_TO_ERRORS"
feed_status_text feed.CancelledByUser = codes "LOAD_CANCELLED_BY_USER"

abbrev pub code_text : LogCode → List ℕ
code_text ColumnCount = codes "COLUMN_COUNT"
code_text NotUtf8 = codes "NOT_UTF8"
code_text RecordTooLarge = codes "RECORD_TOO_LARGE"
code_text MissingId = codes "MISSING_ID"
code_text IdTooLong = codes "ID_TOO_LONG"
code_text NotOfType = codes "NOT_OF_TYPE"
code_text OutOfRange = codes "OUT_OF_RANGE"
code_text TooManyValues = codes "TOO_MANY_VALUES"
code_text FromMissing = codes "FROM_MISSING"
code_text ToMissing = codes "TO_MISSING"
code_text EdgeConflict = codes "EDGE_CONFLICT"
code_text SingleConflict = codes "SINGLE_CONFLICT"
code_text Header = codes "HEADER"
code_text Compressed = codes "COMPRESSED"
code_text ReadFault = codes "READ_FAULT"
code_text FileTooLarge = codes "FILE_TOO_LARGE"
code_text FeedModified = codes "FEED_MODIFIED"
code_text SourceNotFound = codes "SOURCE_NOT_FOUND"
code_text ListFault = codes "LIST_FAULT"
code_text TooManyFiles = codes "TOO_MANY_FILES"
code_text NoPreviousLoad = codes "NO_PREVIOUS_LOAD"

-- what is wrong, without the column
abbrev pub trouble : LogCode → List ℕ
trouble ColumnCount = codes "the record has another number of fields than the header"
trouble NotUtf8 = codes "the record is not UTF-8"
trouble RecordTooLarge = codes "the record has more than 1048576 bytes"
trouble MissingId = codes "an id is missing"
trouble IdTooLong = codes "an id or label has more than 1024 bytes"
trouble NotOfType = codes "the value is not of its type"
trouble OutOfRange = codes "the number is out of range"
trouble TooManyValues = codes "the record has more than 4096 values"
trouble FromMissing = codes "the from vertex does not exist"
trouble ToMissing = codes "the to vertex does not exist"
trouble EdgeConflict = codes "the edge exists with another label or other ends"
trouble SingleConflict = codes "a single value exists"
trouble Header = codes "the header is refused"
trouble Compressed = codes "compressed files are not read"
trouble ReadFault = codes "the file could not be read"
trouble FileTooLarge = codes "the file has more than 268435456 bytes"
trouble FeedModified = codes "the file was changed or deleted since it was begun"
trouble SourceNotFound = codes "the source does not exist"
trouble ListFault = codes "the source could not be listed or planned"
trouble TooManyFiles = codes "the load has more than 4096 files"
trouble NoPreviousLoad = codes "there is no previous load of this source"

-- a code that is said of one column
abbrev pub names_column : LogCode → Bool
names_column ColumnCount = false
names_column NotUtf8 = false
names_column RecordTooLarge = false
names_column MissingId = true
names_column IdTooLong = true
names_column NotOfType = true
names_column OutOfRange = true
names_column TooManyValues = false
names_column FromMissing = false
names_column ToMissing = false
names_column EdgeConflict = false
names_column SingleConflict = true
names_column Header = true
names_column Compressed = false
names_column ReadFault = false
names_column FileTooLarge = false
names_column FeedModified = false
names_column SourceNotFound = false
names_column ListFault = false
names_column TooManyFiles = false
names_column NoPreviousLoad = false

-- what a log says
abbrev pub message : Log → List ℕ
message log = if names_column log.code then trouble log.code ++ codes " in column " ++ decimal log.column else trouble log.code
