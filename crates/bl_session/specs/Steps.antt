-- One step of a session: a request is read, answered and its reply written.
use Rattle.std.specs.Prelude.{◌≡◌, ◌⊎◌, ℕ, Bool, true, false, List, Result, Ok, Err}
use Rattle.std.specs.declared.option.Option.{Option}
use Rattle.bl_outside.specs.declared.refusals.Failed.{Failed}
use Rattle.bl_outside.specs.Streams.{Puts}
use Rattle.bl_http.specs.declared.asked.Asked.{Asked}
use Rattle.bl_http.specs.declared.asked.Asked.TheVariants as asked
use Rattle.bl_http.specs.declared.refusal.HeadRefusal.{HeadRefusal}
use Rattle.bl_http.specs.declared.refusal.HttpFault.{HttpFault}
use Rattle.bl_http.specs.declared.refusal.HttpFault.TheVariants as http
use Rattle.bl_http.specs.declared.request.Request.{Request}
use Rattle.bl_http.specs.Buffers.{BufferRecord, Moves}
use Rattle.bl_http.specs.Readings.{ReadsOne}
use Rattle.bl_session.specs.declared.reply.Reply.{Reply}
use Rattle.bl_session.specs.declared.step.Step.{Step}
use Rattle.bl_session.specs.declared.step.Step.TheVariants.{Answered, Closed, Ended, Torn, TooLong}
use Rattle.bl_session.specs.declared.step.SessionFault.{SessionFault}
use Rattle.bl_session.specs.declared.step.SessionFault.TheVariants as fault
use Rattle.bl_session.specs.Replies.{ends, refusal_bytes, reply_bytes}

-- ---- what was written, where it is told

-- a text was added whole
abbrev pub Writes : List ℕ → Option (List ℕ) → Option (List ℕ) → Type 0
Writes text old now = Puts old now text (Ok tt)

-- a front of a text was added
abbrev pub WritesFront : List ℕ → Option (List ℕ) → Option (List ℕ) → Type 0
WritesFront text old now = (failed : Failed) × Puts old now text (Err failed)

-- why a request was not read
abbrev pub fault_from : HttpFault → SessionFault
fault_from http.ReadFault = fault.ReadFault
fault_from http.NoMemory = fault.NoMemory

-- ---- a request is answered

-- the connection ends with the reply, or goes on
abbrev pub step_of : Bool → Step
step_of true = Closed
step_of false = Answered

-- The reply was written whole, or a front of it.
abbrev pub Sends : Reply → Option (List ℕ) → Option (List ℕ) → Result Step SessionFault → Type 0
Sends reply old now (Ok step) = (step ≡ step_of (ends reply)) × Writes (reply_bytes reply) old now
Sends reply old now (Err refused) = (refused ≡ fault.WriteFault) × WritesFront (reply_bytes reply) old now

-- The desk answered the request once, and its reply is what was written.
pub record Replies {P : Type 0} (Answers : P → Request → Reply → P → Type 0) (request : Request) (old new : P) (written now : Option (List ℕ)) (result : Result Step SessionFault) : Type 0 where
  pub reply : Reply
  pub answers : Answers old request reply new
  pub sends : Sends reply written now result

-- ---- a head is refused

-- The reply of the refusal was written whole, or a front of it; nothing was where no memory was there to make it.
abbrev pub Refuses : HeadRefusal → Option (List ℕ) → Option (List ℕ) → Result (Unit {0}) SessionFault → Type 0
Refuses refusal old now (Ok done) = Writes (refusal_bytes refusal) old now
Refuses refusal old now (Err fault.ReadFault) = ⊥
Refuses refusal old now (Err fault.WriteFault) = WritesFront (refusal_bytes refusal) old now
Refuses refusal old now (Err fault.NoMemory) = now ≡ old

-- the connection ends with the refusal
abbrev pub RefusesBy : HeadRefusal → Option (List ℕ) → Option (List ℕ) → Result Step SessionFault → Type 0
RefusesBy refusal old now (Ok step) = (step ≡ Closed) × Refuses refusal old now (Ok tt)
RefusesBy refusal old now (Err refused) = Refuses refusal old now (Err refused)

-- ---- what was read is acted on

-- The desk stays as it was, and nothing is written.
abbrev pub Rests : {P : Type 0} → P → P → Option (List ℕ) → Option (List ℕ) → Type 0
Rests old new written now = (new ≡ old) × (now ≡ written)

abbrev pub ActsOn : {P : Type 0} → (P → Request → Reply → P → Type 0) → Asked → P → P → Option (List ℕ) → Option (List ℕ) → Result Step SessionFault → Type 0
ActsOn Answers (asked.Got request) old new written now result = Replies Answers request old new written now result
ActsOn Answers (asked.Refused refusal) old new written now result = (new ≡ old) × RefusesBy refusal written now result
ActsOn Answers asked.End old new written now result = Rests old new written now × (result ≡ Ok Ended)
ActsOn Answers asked.Torn old new written now result = Rests old new written now × (result ≡ Ok Torn)
ActsOn Answers asked.TooLong old new written now result = Rests old new written now × (result ≡ Ok TooLong)

-- ---- a step

-- Nothing was read, since the source failed or memory ran out.
pub record IsUnread {P : Type 0} (left left_now : Option (List ℕ)) (buffer buffer_now : BufferRecord) (old new : P) (written now : Option (List ℕ)) (result : Result Step SessionFault) : Type 0 where
  pub moves : Moves left left_now buffer buffer_now
  pub rests : Rests old new written now
  pub fault : (result ≡ Err fault.ReadFault) ⊎ (result ≡ Err fault.NoMemory)

-- What stands next in the input was read and acted on.
pub record HasActed {P : Type 0} (Answers : P → Request → Reply → P → Type 0) (left left_now : Option (List ℕ)) (buffer buffer_now : BufferRecord) (old new : P) (written now : Option (List ℕ)) (result : Result Step SessionFault) : Type 0 where
  pub asked : Asked
  pub reads : ReadsOne left left_now buffer buffer_now asked
  pub acts : ActsOn Answers asked old new written now result

abbrev pub StepIs : {P : Type 0} → (P → Request → Reply → P → Type 0) → Option (List ℕ) → Option (List ℕ) → BufferRecord → BufferRecord → P → P → Option (List ℕ) → Option (List ℕ) → Result Step SessionFault → Type 0
StepIs Answers left left_now buffer buffer_now old new written now result =
    IsUnread left left_now buffer buffer_now old new written now result ⊎ HasActed Answers left left_now buffer buffer_now old new written now result
