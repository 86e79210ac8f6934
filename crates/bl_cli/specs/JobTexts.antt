-- The texts of a job: its id and its status.
use Rattle.std.specs.Prelude.{ℕ, codes, List}
use Rattle.std.specs.Int.{w128, to_be_bytes}
use Rattle.uuid.specs.Text.{hyphenated_text, lower}
use Rattle.bl_queue.specs.declared.job_status.JobStatus.{JobStatus}
use Rattle.bl_queue.specs.declared.job_status.JobStatus.TheVariants.{NotStarted, InQueue, InProgress, Completed, CancelledByUser, Failed, DependencyNotSatisfied}

abbrev pub status_text : JobStatus → List ℕ
status_text NotStarted = codes "LOAD_NOT_STARTED"
status_text InQueue = codes "LOAD_IN_QUEUE"
status_text InProgress = codes "LOAD_IN_PROGRESS"
status_text Completed = codes "LOAD_COMPLETED"
status_text CancelledByUser = codes "LOAD_CANCELLED_BY_USER"
status_text Failed = codes "LOAD_FAILED"
status_text DependencyNotSatisfied = codes "LOAD_FAILED_BECAUSE_DEPENDENCY_NOT_SATISFIED"

-- the id as a UUID (RFC 9562), in lower case
abbrev pub id_text : ℕ → List ℕ
id_text id = hyphenated_text lower (to_be_bytes w128 id)
