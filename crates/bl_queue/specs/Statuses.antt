-- What the status of a job says.
use Rattle.std.specs.Prelude.{Bool, true, false}
use Rattle.bl_queue.specs.declared.job_status.JobStatus.{JobStatus}
use Rattle.bl_queue.specs.declared.job_status.JobStatus.TheVariants.{NotStarted, InQueue, InProgress, Completed, CancelledByUser, Failed, DependencyNotSatisfied}

abbrev pub has_ended : JobStatus → Bool
has_ended NotStarted = false
has_ended InQueue = false
has_ended InProgress = false
has_ended Completed = true
has_ended CancelledByUser = true
has_ended Failed = true
has_ended DependencyNotSatisfied = true

-- ended, and other than completed
abbrev pub has_failed : JobStatus → Bool
has_failed NotStarted = false
has_failed InQueue = false
has_failed InProgress = false
has_failed Completed = false
has_failed CancelledByUser = true
has_failed Failed = true
has_failed DependencyNotSatisfied = true

abbrev pub is_in_queue : JobStatus → Bool
is_in_queue NotStarted = false
is_in_queue InQueue = true
is_in_queue InProgress = false
is_in_queue Completed = false
is_in_queue CancelledByUser = false
is_in_queue Failed = false
is_in_queue DependencyNotSatisfied = false

-- not started, or waiting behind another
abbrev pub is_to_start : JobStatus → Bool
is_to_start NotStarted = true
is_to_start InQueue = true
is_to_start InProgress = false
is_to_start Completed = false
is_to_start CancelledByUser = false
is_to_start Failed = false
is_to_start DependencyNotSatisfied = false

abbrev pub is_in_progress : JobStatus → Bool
is_in_progress NotStarted = false
is_in_progress InQueue = false
is_in_progress InProgress = true
is_in_progress Completed = false
is_in_progress CancelledByUser = false
is_in_progress Failed = false
is_in_progress DependencyNotSatisfied = false
