-- The reply to a request.
use Rattle.std.specs.Prelude.{◌≡◌, ◌⊎◌, ℕ, Bool, true, codes, None, Some, List, Result, Ok, Err}
use Rattle.std.specs.declared.option.Option.{Option}
use Rattle.bl_http.specs.Replies.{reply_of}
use Rattle.bl_http.specs.declared.refusal.HeadRefusal.{HeadRefusal}
use Rattle.bl_feed.specs.Bodies.{problem_text}
use Rattle.bl_session.specs.declared.problem.Problem.{Problem}
use Rattle.bl_session.specs.declared.problem.Problem.TheVariants.{Head}
use Rattle.bl_session.specs.declared.reply.Reply.{Reply}
use Rattle.bl_session.specs.declared.reply.Reply.TheVariants.{Made, MemoryOut}
use Rattle.bl_session.specs.Problems.{allow_of, code_of, message_of, status_of}

-- the text of a reply with this body
abbrev pub success_bytes : List ℕ → Bool → List ℕ
success_bytes body close = reply_of 200 None body close

-- the text of a refusal's reply
abbrev pub problem_bytes : Problem → Bool → List ℕ
problem_bytes problem close = reply_of (status_of problem) (allow_of problem) (problem_text (code_of problem) (message_of problem)) close

-- the reply for want of memory
abbrev pub memory_out_bytes : List ℕ
memory_out_bytes = reply_of 500 None (codes "{\"code\":\"MemoryLimitExceededException\",\"detailedMessage\":\"no memory\"}") true

-- the bytes that a reply sends
abbrev pub reply_bytes : Reply → List ℕ
reply_bytes (Made text close) = text
reply_bytes MemoryOut = memory_out_bytes

-- nothing is read behind it
abbrev pub ends : Reply → Bool
ends (Made text close) = close
ends MemoryOut = true

-- the bytes of the reply to a head that is refused, which closes
abbrev pub refusal_bytes : HeadRefusal → List ℕ
refusal_bytes refusal = problem_bytes (Head refusal) true

-- what is to be told: a body of success, or why the request is refused
abbrev pub Told : Type 0
Told = Result (List ℕ) Problem

abbrev pub told_reply : Result (List ℕ) Problem → Bool → Reply
told_reply (Ok body) close = Made (success_bytes body close) close
told_reply (Err problem) close = Made (problem_bytes problem close) close

-- It is told, or no memory was there to tell it. Nothing is to be told where memory ran out before.
abbrev pub Tells : Option (Result (List ℕ) Problem) → Bool → Reply → Type 0
Tells None close reply = reply ≡ MemoryOut
Tells (Some told) close reply = (reply ≡ told_reply told close) ⊎ (reply ≡ MemoryOut)

-- the same of a body that was made, or not for want of memory
abbrev pub TellsMade : {E : Type 0} → Result (List ℕ) E → Bool → Reply → Type 0
TellsMade (Ok body) close reply = Tells (Some (Ok body)) close reply
TellsMade (Err refusal) close reply = reply ≡ MemoryOut

-- a refusal is to be told, unless memory ran out
abbrev pub problem_told : Option Problem → Option (Result (List ℕ) Problem)
problem_told None = None
problem_told (Some problem) = Some (Err problem)
