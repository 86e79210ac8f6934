-- What the code does from one round to the next.
use Rattle.std.specs.Prelude.{◌≡◌, ◌≢◌, ℕ, ◌+◌, ◌<◌, Bool, true, false, List, length, None, Result, Ok, Err}
use Rattle.std.specs.declared.option.Option.{Option}
use Rattle.bl_outside.specs.Folders.{Files}
use Rattle.bl_outside.specs.declared.disk.Disk.{Ghosts}
use Rattle.bl_engine.specs.Engines.{View}
use Rattle.bl_http.specs.declared.asked.Asked.{Asked}
use Rattle.bl_http.specs.declared.asked.Asked.TheVariants as asked
use Rattle.bl_http.specs.Buffers.{BufferRecord}
use Rattle.bl_http.specs.Inputs.{Ahead}
use Rattle.bl_load.specs.declared.turn_fault.TurnFault.{TurnFault}
use Rattle.bl_session.specs.declared.step.Step.{Step}
use Rattle.bl_session.specs.declared.step.Step.TheVariants.{Answered, Closed, Ended, Torn, TooLong}
use Rattle.bl_session.specs.declared.step.SessionFault.{SessionFault}
use Rattle.bl_session.specs.declared.step.SessionFault.TheVariants as fault
use Rattle.bl_session.specs.Steps.{Writes, WritesFront}
use Rattle.bl_script.specs.Turns.{earlier, first_refusal}
use Rattle.bl_script.specs.Rounds.{Answer, AreAsked, AreOpen, AreRounds, AsksNext, IsAnswerOf, IsRoundOf, Round, ahead_in, refusal_in, replies}
use Rattle.bl_script.specs.Scripts.{Meets}

-- ---- where a script stands

-- The engine, the folder's count of faults, what is ahead in the input, and what was written.
pub record Place (D : Type 0) : Type 0 where
  pub engine : View D
  pub faults : ℕ
  pub ahead : Option Ahead
  pub written : Option (List ℕ)

abbrev pub place_of : {D : Type 0} → View D → ℕ → BufferRecord → Option (List ℕ) → Option (List ℕ) → Place D
place_of engine faults buffer left written = record { engine = engine; faults = faults; ahead = ahead_in buffer left; written = written }

-- the input moves on, and nothing else befalls
pub record HasRested {D : Type 0} (old new : Place D) : Type 0 where
  pub engine : new.engine ≡ old.engine
  pub faults : new.faults ≡ old.faults
  pub written : new.written ≡ old.written

-- a request used bytes of the input up
abbrev pub UsesUp : BufferRecord → BufferRecord → Type 0
UsesUp old new = length new.bytes + old.taken < new.taken + length old.bytes

-- ---- what stands next is answered

-- It has its answer, which was written whole.
pub record HasAnswered {D : Type 0} (of : Ghosts D) (salt : ℕ) (old new : Place D) (closes : Bool) : Type 0 where
  pub answer : Answer D
  pub answers : IsAnswerOf of salt old.engine answer
  pub asked : AsksNext old.ahead answer.asked new.ahead
  pub writes : Writes answer.bytes old.written new.written
  pub closes_is : answer.closes ≡ closes
  pub engine : new.engine ≡ answer.engine
  pub faults : new.faults ≡ old.faults

-- It is no request.
pub record HasMet {D : Type 0} (asked : Asked) (old new : Place D) : Type 0 where
  pub rests : HasRested old new
  pub asked_is : AsksNext old.ahead asked new.ahead

-- It has its answer, of which a front was written.
pub record HasBroken {D : Type 0} (of : Ghosts D) (salt : ℕ) (old new : Place D) : Type 0 where
  pub answer : Answer D
  pub asked : Meets old.ahead answer.asked
  pub answers : IsAnswerOf of salt old.engine answer
  pub engine : new.engine ≡ answer.engine
  pub front : WritesFront answer.bytes old.written new.written

abbrev pub FailsBy : {D : Type 0} → Ghosts D → ℕ → Place D → Place D → SessionFault → Type 0
FailsBy of salt old new fault.ReadFault = HasRested old new
FailsBy of salt old new fault.WriteFault = HasBroken of salt old new
FailsBy of salt old new fault.NoMemory = HasRested old new

abbrev pub StepsTo : {D : Type 0} → Ghosts D → ℕ → Place D → Place D → Step → Type 0
StepsTo of salt old new Answered = HasAnswered of salt old new false
StepsTo of salt old new Closed = HasAnswered of salt old new true
StepsTo of salt old new Ended = HasMet asked.End old new
StepsTo of salt old new Torn = HasMet asked.Torn old new
StepsTo of salt old new TooLong = HasMet asked.TooLong old new

abbrev pub AnswersNext : {D : Type 0} → Ghosts D → ℕ → Place D → Place D → Result Step SessionFault → Type 0
AnswersNext of salt old new (Ok step) = StepsTo of salt old new step
AnswersNext of salt old new (Err fault) = FailsBy of salt old new fault

-- ---- a round

-- A request was answered, and turns were made behind it.
pub record HasPlayed {D : Type 0} (of : Ghosts D) (salt most : ℕ) (files : Option Files) (old new : Place D) (closes : Bool) (refused : Option TurnFault) : Type 0 where
  pub round : Round D
  pub is : IsRoundOf of salt most files old.engine old.faults round
  pub asked : AsksNext old.ahead round.answer.asked new.ahead
  pub writes : Writes round.answer.bytes old.written new.written
  pub closes_is : round.answer.closes ≡ closes
  pub refused_is : refused ≡ first_refusal round.turns
  pub engine : new.engine ≡ round.engine
  pub faults : new.faults ≡ round.faults

abbrev pub PlaysTo : {D : Type 0} → Ghosts D → ℕ → ℕ → Option Files → Place D → Place D → Option TurnFault → Step → Type 0
PlaysTo of salt most files old new refused Answered = HasPlayed of salt most files old new false refused
PlaysTo of salt most files old new refused Closed = HasPlayed of salt most files old new true refused
PlaysTo of salt most files old new refused Ended = HasMet asked.End old new × (refused ≡ None)
PlaysTo of salt most files old new refused Torn = HasMet asked.Torn old new × (refused ≡ None)
PlaysTo of salt most files old new refused TooLong = HasMet asked.TooLong old new × (refused ≡ None)

abbrev pub PlaysRound : {D : Type 0} → Ghosts D → ℕ → ℕ → Option Files → Place D → Place D → Result (Step × Option TurnFault) SessionFault → Type 0
PlaysRound of salt most files old new (Ok came) = PlaysTo of salt most files old new came.1 came.0
PlaysRound of salt most files old new (Err fault) = FailsBy of salt old new fault

-- ---- rounds, up to the last

-- So many rounds were played, none of which closes, and the first refusal among their turns is this.
pub record HaveGone {D : Type 0} (of : Ghosts D) (salt most : ℕ) (files : Option Files) (old new : Place D) (first : Option TurnFault) : Type 0 where
  pub rounds : List (Round D)
  pub are : AreRounds of salt most files old.engine old.faults rounds new.engine new.faults
  pub asked : AreAsked old.ahead rounds new.ahead
  pub going : AreOpen rounds
  pub writes : Writes (replies rounds) old.written new.written
  pub first_is : first ≡ refusal_in rounds

-- the last one closes, or finds no request
abbrev pub IsLast : {D : Type 0} → Ghosts D → ℕ → ℕ → Option Files → Place D → Place D → Option TurnFault → Result (Step × Option TurnFault) SessionFault → Type 0
IsLast of salt most files old new first (Ok came) =
    (came.0 ≢ Answered) × (refused : Option TurnFault) × PlaysTo of salt most files old new refused came.0 × (came.1 ≡ earlier first refused)
IsLast of salt most files old new first (Err fault) = FailsBy of salt old new fault

pub record PlaysRounds {D : Type 0} (of : Ghosts D) (salt most : ℕ) (files : Option Files) (old new : Place D) (result : Result (Step × Option TurnFault) SessionFault) : Type 0 where
  pub between : Place D
  pub first : Option TurnFault
  pub gone : HaveGone of salt most files old between first
  pub last : IsLast of salt most files between new first result
