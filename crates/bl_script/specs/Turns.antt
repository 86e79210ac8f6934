-- The turns that are made behind a reply.
use Rattle.std.specs.Prelude.{◌≡◌, ℕ, ◌≤◌, ◌<◌, ◌-◌, Bool, true, false, List, [], ◌∷◌, None, Some, Result, Ok, Err, IfOk, OnOk, IsErrOf}
use Rattle.std.specs.declared.option.Option.{Option}
use Rattle.std.specs.Result.{result_err}
use Rattle.bl_outside.specs.Counts.{Rose}
use Rattle.bl_outside.specs.Folders.{Files}
use Rattle.bl_outside.specs.declared.disk.Disk.{Ghosts}
use Rattle.bl_world.specs.States.{State}
use Rattle.bl_engine.specs.declared.turned.Turned.{Turned}
use Rattle.bl_engine.specs.declared.turned.Turned.TheVariants.{Idle, Planned, Rows, Ended}
use Rattle.bl_engine.specs.Attempts.{HasNoRoom}
use Rattle.bl_engine.specs.Calls.{Handles}
use Rattle.bl_engine.specs.Engines.{Stays, View}
use Rattle.bl_load.specs.declared.turn_fault.TurnFault.{TurnFault}
use Rattle.bl_load.specs.declared.turn_fault.TurnFault.TheVariants.{JournalFull}
use Rattle.bl_load.specs.TurnFaults.{trouble_of}
use Rattle.bl_load.specs.Turns.{CountsUp, DrainsAnyhow, DrainsFull, DrainsOver, IsDrained, MayTurn, TurnsTo}

-- a fact of the files, where they are told
abbrev pub OfFiles : Option Files → (Files → Type 0) → Type 0
OfFiles None P = Unit {0}
OfFiles (Some files) P = P files

-- ---- one turn

-- A turn: its answer, and then the engine, the folder's count of faults, and the value that the clock gave last.
pub record MadeTurn (D : Type 0) : Type 0 where
  pub result : Result Turned TurnFault
  pub engine : View D
  pub faults : ℕ
  pub now : ℕ

-- What a turn does over told files, from a state of the store.
pub record IsTurnFrom {D : Type 0} (of : Ghosts D) (files : Files) (old : View D) (faults : ℕ) (turn : MadeTurn D) (state : State) : Type 0 where
  -- where the folder didn't fail it appends the one entry of a turn, or finds no work
  pub turned : ¬ Rose faults turn.faults → IfOk turn.result (TurnsTo of files turn.now old turn.engine state)
  -- else an entry that is made over the files, or nothing
  pub made : DrainsOver of files old turn.engine state
  pub full : IsErrOf turn.result JournalFull → HasNoRoom of (MayTurn files) state turn.engine.journal

-- This turn was made over an engine and a folder with so many faults.
pub record IsTurnOf {D : Type 0} (of : Ghosts D) (files : Option Files) (old : View D) (faults : ℕ) (turn : MadeTurn D) : Type 0 where
  pub over : OfFiles files (λ told. (state : State) → Stays of old state → IsTurnFrom of told old faults turn state)
  pub anyhow : (state : State) → Stays of old state → DrainsAnyhow of old turn.engine state
  pub counts : IfOk turn.result (CountsUp old turn.engine)
  pub handles : Handles of old turn.engine (trouble_of turn.result)
  pub later : faults ≤ turn.faults

-- ---- turns, one after another

abbrev pub AreTurns : {D : Type 0} → Ghosts D → Option Files → View D → ℕ → List (MadeTurn D) → View D → ℕ → Type 0
AreTurns of files old faults [] new now = (new ≡ old) × (now ≡ faults)
AreTurns of files old faults (turn ∷ turns) new now = IsTurnOf of files old faults turn × AreTurns of files turn.engine turn.faults turns new now

-- no turn of a round is made behind one that found no work or was refused
abbrev pub ends_round : Result Turned TurnFault → Bool
ends_round (Ok Idle) = true
ends_round (Ok Planned) = false
ends_round (Ok (Rows n)) = false
ends_round (Ok (Ended status)) = false
ends_round (Err fault) = true

abbrev pub GoesOn : {D : Type 0} → Bool → List (MadeTurn D) → Type 0 → Type 0
GoesOn true turns others = turns ≡ []
GoesOn false turns others = others

-- So many were made, one found no work, or one was refused.
abbrev pub IsRoundOfTurns : {D : Type 0} → ℕ → List (MadeTurn D) → Type 0
IsRoundOfTurns most [] = most ≡ 0
IsRoundOfTurns most (turn ∷ turns) = (0 < most) × GoesOn (ends_round turn.result) turns (IsRoundOfTurns (most - 1) turns)

-- the earlier of two refusals, where there are
abbrev pub earlier : Option TurnFault → Option TurnFault → Option TurnFault
earlier None second = second
earlier (Some fault) second = Some fault

-- why the first one was refused that was
abbrev pub first_refusal : {D : Type 0} → List (MadeTurn D) → Option TurnFault
first_refusal [] = None
first_refusal (turn ∷ turns) = earlier (result_err turn.result) (first_refusal turns)

-- ---- the turns at the end

-- Turns were made until one found no work, or one was refused.
pub record IsLastDrain {D : Type 0} (of : Ghosts D) (files : Option Files) (old new : View D) (result : Result (Unit {0}) TurnFault) : Type 0 where
  pub idle : OnOk result (IsDrained new)
  pub over : OfFiles files (λ told. (state : State) → Stays of old state → DrainsOver of told old new state)
  pub anyhow : (state : State) → Stays of old state → DrainsAnyhow of old new state
  pub full : IsErrOf result JournalFull → OfFiles files (λ told. (state : State) → Stays of old state → DrainsFull of told state new)
  pub handles : Handles of old new (trouble_of result)

-- ---- the turns of a round

-- Turns of a round were made, and the first refusal among them is this.
pub record MakesTurns {D : Type 0} (of : Ghosts D) (most : ℕ) (files : Option Files) (old : View D) (faults : ℕ) (new : View D) (now : ℕ) (refused : Option TurnFault) : Type 0 where
  pub turns : List (MadeTurn D)
  pub are : AreTurns of files old faults turns new now
  pub all : IsRoundOfTurns most turns
  pub first : refused ≡ first_refusal turns
