-- What the status of a file says.
use Rattle.std.specs.Prelude.{Bool, true, false, not}
use Rattle.bl_files.specs.declared.feed_status.FeedStatus.{FeedStatus}
use Rattle.bl_files.specs.declared.feed_status.FeedStatus.TheVariants.{NotStarted, InProgress, Completed, Failed, ReadError, Modified, CancelledDueToErrors, CancelledByUser}

abbrev pub is_completed : FeedStatus → Bool
is_completed Completed = true
is_completed NotStarted = false
is_completed InProgress = false
is_completed Failed = false
is_completed ReadError = false
is_completed Modified = false
is_completed CancelledDueToErrors = false
is_completed CancelledByUser = false

abbrev pub is_failed : FeedStatus → Bool
is_failed NotStarted = false
is_failed InProgress = false
is_failed Completed = false
is_failed Failed = true
is_failed ReadError = false
is_failed Modified = false
is_failed CancelledDueToErrors = false
is_failed CancelledByUser = false

-- a file of this status hasn't ended
abbrev pub is_open : FeedStatus → Bool
is_open NotStarted = true
is_open InProgress = true
is_open Completed = false
is_open Failed = false
is_open ReadError = false
is_open Modified = false
is_open CancelledDueToErrors = false
is_open CancelledByUser = false

-- it has
abbrev pub has_ended : FeedStatus → Bool
has_ended status = not (is_open status)
