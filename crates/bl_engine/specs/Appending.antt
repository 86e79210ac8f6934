-- An entry is taken into the world, and appended to the journal.
use Rattle.std.specs.Prelude.{◌≡◌, ◌↔◌, ℕ, ◌+◌, ◌≤◌, List, [], ◌∷◌, ◌++◌, length, Result, Ok, Err, OnOk, IsErrOf}
use Rattle.bl_outside.specs.Counts.{Rose}
use Rattle.bl_outside.specs.declared.disk.Disk.{Ghosts}
use Rattle.bl_journal.specs.Frames.{WithOrWithout}
use Rattle.bl_journal.specs.Journals.{Ends, HasRoom, IsAtEnd, IsFull, IsSound, JournalRecord, Since}
use Rattle.bl_journal.specs.declared.refusal.AppendRefusal.{AppendRefusal}
use Rattle.bl_journal.specs.declared.refusal.AppendRefusal.TheVariants as append
use Rattle.bl_entry.specs.declared.entry.Entry.{Entry}
use Rattle.bl_entry.specs.Encoding.{entry_bytes}
use Rattle.bl_world.specs.Worlds.{IsBegun, Step, World}
use Rattle.bl_engine.specs.declared.refusals.Trouble.TheVariants as trouble
use Rattle.bl_engine.specs.declared.refusals.SubmitRefusal.{SubmitRefusal}
use Rattle.bl_engine.specs.declared.refusals.SubmitRefusal.TheVariants as submit
use Rattle.bl_engine.specs.declared.refusals.CancelRefusal.{CancelRefusal}
use Rattle.bl_engine.specs.declared.refusals.CancelRefusal.TheVariants as cancel
use Rattle.bl_engine.specs.declared.refusals.TurnRefusal.{TurnRefusal}
use Rattle.bl_engine.specs.declared.refusals.TurnRefusal.TheVariants as turn
use Rattle.bl_engine.specs.declared.appending.Unappended.{Unappended}
use Rattle.bl_engine.specs.declared.appending.Unappended.TheVariants.{Untried, Refused}
use Rattle.bl_engine.specs.Outcomes.{Outcome, Done, Full, Stopped}

-- the world has taken the entry
abbrev pub IsTried : Result (Unit {0}) Unappended → Type 0
IsTried (Ok done) = Unit {0}
IsTried (Err Untried) = ⊥
IsTried (Err (Refused refusal)) = Unit {0}

-- the world had begun the entry, and the journal stood at its end
pub record Adds {D : Type 0} (of : Ghosts D) (entry : Entry) (old new : JournalRecord D) (begun world : World) (result : Result (Unit {0}) Unappended) : Type 0 where
  pub untried : IsErrOf result Untried → (new ≡ old) × (world ≡ begun)
  pub step : IsTried result → (before : World) → IsBegun before entry begun → Step before entry world
  pub acknowledged : OnOk result ((bodies : List (List ℕ)) → Ends of old bodies → Ends of new (bodies ++ entry_bytes entry ∷ []))
  pub at_end : OnOk result (IsAtEnd of new)
  pub room : OnOk result (HasRoom old.place (length (entry_bytes entry)) × (new.place ≡ old.place + 5 + length (entry_bytes entry)))
  pub any_moment : (bodies : List (List ℕ)) → Ends of old bodies → Since of old.disk new.disk (WithOrWithout bodies (entry_bytes entry))
  pub full : IsErrOf result (Refused append.Full) → (new ≡ old) × IsFull old.place (length (entry_bytes entry))
  pub store : IsErrOf result (Refused append.StoreFault) → Rose (of.faults old.disk) (of.faults new.disk)
  pub sound : IsSound of old.disk ↔ IsSound of new.disk
  pub later : of.faults old.disk ≤ of.faults new.disk

-- how a call ends whose append ends so
abbrev pub refused_outcome : AppendRefusal → Outcome
refused_outcome append.NoMemory = Stopped trouble.NoMemory
refused_outcome append.Full = Full
refused_outcome append.StoreFault = Stopped trouble.StoreFault

abbrev pub append_outcome : {T : Type 0} → Result T AppendRefusal → Outcome
append_outcome (Ok done) = Done
append_outcome (Err refusal) = refused_outcome refusal

-- just this entry, in this world
abbrev pub IsJust : World → Entry → World → Entry → Type 0
IsJust world entry before made = (before ≡ world) × (made ≡ entry)

abbrev pub submit_refused : AppendRefusal → SubmitRefusal
submit_refused append.NoMemory = submit.NoMemory
submit_refused append.Full = submit.JournalFull
submit_refused append.StoreFault = submit.StoreFault

abbrev pub cancel_refused : AppendRefusal → CancelRefusal
cancel_refused append.NoMemory = cancel.NoMemory
cancel_refused append.Full = cancel.JournalFull
cancel_refused append.StoreFault = cancel.StoreFault

abbrev pub turn_refused : AppendRefusal → TurnRefusal
turn_refused append.NoMemory = turn.NoMemory
turn_refused append.Full = turn.JournalFull
turn_refused append.StoreFault = turn.StoreFault
