-- Why a request is refused, and what its refusal says.
use Rattle.std.specs.Prelude.{ℕ, ◌==◌, if◌then◌else◌, codes, decimal, None, Some, List, ◌++◌}
use Rattle.std.specs.declared.option.Option.{Option}
use Rattle.bl_http.specs.declared.refusal.HeadRefusal.{HeadRefusal}
use Rattle.bl_http.specs.declared.refusal.HeadRefusal.TheVariants as head
use Rattle.bl_feed.specs.Bodies.{id_text}
use Rattle.bl_feed.specs.Parameters.{parameter_name as stream_name}
use Rattle.bl_feed.specs.Words.{job_status_text}
use Rattle.bl_session.specs.declared.parameter.Parameter.{Parameter}
use Rattle.bl_session.specs.declared.parameter.Parameter.TheVariants as parameter
use Rattle.bl_session.specs.declared.problem.Problem.{Problem}
use Rattle.bl_session.specs.declared.problem.Problem.TheVariants as problem
use Rattle.bl_session.specs.Routes.{methods_of}

abbrev pub head_status : HeadRefusal → ℕ
head_status head.BadHead = 400
head_status head.HeadTooLarge = 431
head_status head.BadLength = 400
head_status head.BodyTooLarge = 413
head_status head.TransferEncoding = 501

abbrev pub head_code : HeadRefusal → List ℕ
head_code head.BadHead = codes "BadHead"
head_code head.HeadTooLarge = codes "HeadTooLarge"
head_code head.BadLength = codes "BadLength"
head_code head.BodyTooLarge = codes "BodyTooLarge"
head_code head.TransferEncoding = codes "TransferEncoding"

abbrev pub head_message : HeadRefusal → List ℕ
head_message head.BadHead = codes "the request head can not be read"
head_message head.HeadTooLarge = codes "the request head is too large"
head_message head.BadLength = codes "content-length is not one number"
head_message head.BodyTooLarge = codes "the body has more than 1048576 bytes"
head_message head.TransferEncoding = codes "transfer-encoding is not supported"

-- the member of a load body of this number, from 1
abbrev pub member_name : ℕ → List ℕ
member_name number =
    if number == 1 then codes "source"
    else if number == 2 then codes "format"
    else if number == 3 then codes "mode"
    else if number == 4 then codes "failOnError"
    else if number == 5 then codes "parallelism"
    else if number == 6 then codes "updateSingleCardinalityProperties"
    else if number == 7 then codes "queueRequest"
    else codes "dependencies"

-- the name of a parameter
abbrev pub parameter_name : Parameter → List ℕ
parameter_name parameter.Limit = codes "limit"
parameter_name parameter.IncludeQueuedLoads = codes "includeQueuedLoads"
parameter_name parameter.LoadId = codes "loadId"
parameter_name parameter.Details = codes "details"
parameter_name parameter.Errors = codes "errors"
parameter_name parameter.Page = codes "page"
parameter_name parameter.ErrorsPerPage = codes "errorsPerPage"
parameter_name (parameter.Stream of) = stream_name of

-- the status of a refusal
abbrev pub status_of : Problem → ℕ
status_of (problem.Head refusal) = head_status refusal
status_of problem.NoRoute = 404
status_of (problem.MethodNotAllowed route) = 405
status_of problem.NotAnObject = 400
status_of (problem.BadMember number) = 400
status_of (problem.BadParameter of) = 400
status_of problem.TooManyDependencies = 400
status_of (problem.UnknownDependency place) = 400
status_of (problem.LoadBusy id) = 400
status_of problem.QueueFull = 400
status_of problem.NumbersUsedUp = 500
status_of problem.UnknownLoad = 400
status_of (problem.LoadEnded status) = 400
status_of problem.NoRecords = 404
status_of problem.JournalFull = 500
status_of problem.StoreFault = 500
status_of (problem.BadStore place) = 500

abbrev pub code_of : Problem → List ℕ
code_of (problem.Head refusal) = head_code refusal
code_of problem.NoRoute = codes "NoRoute"
code_of (problem.MethodNotAllowed route) = codes "MethodNotAllowed"
code_of problem.NotAnObject = codes "BadBody"
code_of (problem.BadMember number) = codes "BadBody"
code_of (problem.BadParameter of) = codes "InvalidParameterException"
code_of problem.TooManyDependencies = codes "TooManyDependencies"
code_of (problem.UnknownDependency place) = codes "UnknownDependency"
code_of (problem.LoadBusy id) = codes "LoadBusy"
code_of problem.QueueFull = codes "QueueFull"
code_of problem.NumbersUsedUp = codes "NumbersUsedUp"
code_of problem.UnknownLoad = codes "UnknownLoad"
code_of (problem.LoadEnded status) = codes "LoadEnded"
code_of problem.NoRecords = codes "StreamRecordsNotFoundException"
code_of problem.JournalFull = codes "JournalFull"
code_of problem.StoreFault = codes "StoreFault"
code_of (problem.BadStore place) = codes "BadStore"

abbrev pub message_of : Problem → List ℕ
message_of (problem.Head refusal) = head_message refusal
message_of problem.NoRoute = codes "no such path"
message_of (problem.MethodNotAllowed route) = codes "no such method on this path"
message_of problem.NotAnObject = codes "not a JSON object"
message_of (problem.BadMember number) = codes "member " ++ member_name number
message_of (problem.BadParameter of) = codes "parameter " ++ parameter_name of
message_of problem.TooManyDependencies = codes "more than 64 dependencies"
message_of (problem.UnknownDependency place) = codes "dependency " ++ decimal place ++ codes " is not a kept load"
message_of (problem.LoadBusy id) = codes "load " ++ id_text id ++ codes " has not ended"
message_of problem.QueueFull = codes "64 loads are queued"
message_of problem.NumbersUsedUp = codes "no load number is left"
message_of problem.UnknownLoad = codes "no kept load has this id"
message_of (problem.LoadEnded status) = codes "the load has ended as " ++ job_status_text status
message_of problem.NoRecords = codes "no record at the place asked for"
message_of problem.JournalFull = codes "the journal is full"
message_of problem.StoreFault = codes "the store failed"
message_of (problem.BadStore place) = codes "the store is damaged at " ++ decimal place

-- the methods that the path has, which are told where the request's isn't one
abbrev pub allow_of : Problem → Option (List ℕ)
allow_of (problem.MethodNotAllowed route) = Some (methods_of route)
allow_of other = None
