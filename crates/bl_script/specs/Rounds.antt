-- Rounds of a script: a request, its reply, and the turns behind it.
use Rattle.std.specs.Prelude.{◌≡◌, ℕ, Bool, true, false, List, [], ◌∷◌, None, Some, option_map}
use Rattle.std.specs.declared.option.Option.{Option}
use Rattle.std.specs.List.{All, flat_map}
use Rattle.bl_outside.specs.Folders.{Files}
use Rattle.bl_outside.specs.declared.disk.Disk.{Ghosts}
use Rattle.bl_engine.specs.Engines.{View}
use Rattle.bl_http.specs.declared.asked.Asked.{Asked}
use Rattle.bl_http.specs.declared.asked.Asked.TheVariants as asked
use Rattle.bl_http.specs.Buffers.{BufferRecord}
use Rattle.bl_http.specs.Inputs.{Ahead, Asks, ahead}
use Rattle.bl_load.specs.declared.turn_fault.TurnFault.{TurnFault}
use Rattle.bl_session.specs.declared.reply.Reply.{Reply}
use Rattle.bl_session.specs.Answers.{Answered}
use Rattle.bl_session.specs.Replies.{ends, refusal_bytes, reply_bytes}
use Rattle.bl_script.specs.Turns.{AreTurns, IsRoundOfTurns, MadeTurn, earlier, first_refusal}

-- ---- a reply

-- What was asked, the bytes of its reply, whether nothing is read behind it, and then the engine.
pub record Answer (D : Type 0) : Type 0 where
  pub asked : Asked
  pub bytes : List ℕ
  pub closes : Bool
  pub engine : View D

-- A request has the reply of the engine, which may append its entry; a refused head has that of its refusal, which closes.
abbrev pub AnswersBy : {D : Type 0} → Ghosts D → ℕ → View D → Asked → List ℕ → Bool → View D → Type 0
AnswersBy of salt old (asked.Got request) bytes closes new =
    (reply : Reply) × (now : ℕ) × Answered of salt now request old new reply × (bytes ≡ reply_bytes reply) × (closes ≡ ends reply)
AnswersBy of salt old (asked.Refused refusal) bytes closes new = (new ≡ old) × (bytes ≡ refusal_bytes refusal) × (closes ≡ true)
AnswersBy of salt old asked.End bytes closes new = ⊥
AnswersBy of salt old asked.Torn bytes closes new = ⊥
AnswersBy of salt old asked.TooLong bytes closes new = ⊥

abbrev pub IsAnswerOf : {D : Type 0} → Ghosts D → ℕ → View D → Answer D → Type 0
IsAnswerOf of salt old it = AnswersBy of salt old it.asked it.bytes it.closes it.engine

-- ---- a round

-- An answer and the turns behind it; then the engine, and the folder's count of faults.
pub record Round (D : Type 0) : Type 0 where
  pub answer : Answer D
  pub turns : List (MadeTurn D)
  pub engine : View D
  pub faults : ℕ

pub record IsRoundOf {D : Type 0} (of : Ghosts D) (salt most : ℕ) (files : Option Files) (old : View D) (faults : ℕ) (round : Round D) : Type 0 where
  pub answers : IsAnswerOf of salt old round.answer
  pub turns : AreTurns of files round.answer.engine faults round.turns round.engine round.faults
  pub all : IsRoundOfTurns most round.turns

-- ---- rounds, one after another

abbrev pub AreRounds : {D : Type 0} → Ghosts D → ℕ → ℕ → Option Files → View D → ℕ → List (Round D) → View D → ℕ → Type 0
AreRounds of salt most files old faults [] new now = (new ≡ old) × (now ≡ faults)
AreRounds of salt most files old faults (round ∷ rounds) new now =
    IsRoundOf of salt most files old faults round × AreRounds of salt most files round.engine round.faults rounds new now

-- none of them closes
abbrev pub AreOpen : {D : Type 0} → List (Round D) → Type 0
AreOpen rounds = All (λ round. round.answer.closes ≡ false) rounds

-- the bytes of their replies, in order
abbrev pub replies : {D : Type 0} → List (Round D) → List ℕ
replies rounds = flat_map (λ round. round.answer.bytes) rounds

-- why the first turn was refused that was
abbrev pub refusal_in : {D : Type 0} → List (Round D) → Option TurnFault
refusal_in [] = None
refusal_in (round ∷ rounds) = earlier (first_refusal round.turns) (refusal_in rounds)

-- ---- the input

-- what is ahead of a buffer over what the source has left, where it is told
abbrev pub ahead_in : BufferRecord → Option (List ℕ) → Option Ahead
ahead_in buffer left = option_map (ahead buffer) left

-- What stands next in the input, where it is told.
abbrev pub AsksNext : Option Ahead → Asked → Option Ahead → Type 0
AsksNext None it next = next ≡ None
AsksNext (Some now) it next = (rest : Ahead) × (next ≡ Some rest) × Asks now it rest

-- The rounds are of what stands in the input, in order, and then this is ahead.
abbrev pub AreAsked : {D : Type 0} → Option Ahead → List (Round D) → Option Ahead → Type 0
AreAsked now [] rest = rest ≡ now
AreAsked now (round ∷ rounds) rest = (next : Option Ahead) × AsksNext now round.answer.asked next × AreAsked next rounds rest
