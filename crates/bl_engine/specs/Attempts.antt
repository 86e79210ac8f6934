-- The whole promise of a call that appends.
use Rattle.std.specs.Prelude.{◌≡◌, ◌⊎◌, ℕ, ◌+◌, true, false, List, length}
use Rattle.bl_outside.specs.declared.disk.Disk.{Ghosts}
use Rattle.bl_journal.specs.Journals.{Ends, HasRoom, IsFull, JournalRecord}
use Rattle.bl_entry.specs.declared.entry.Entry.{Entry}
use Rattle.bl_entry.specs.Encoding.{entry_bytes}
use Rattle.bl_world.specs.Worlds.{Follows, IsWorldOf, Step, World}
use Rattle.bl_world.specs.States.{Settles, State}
use Rattle.bl_engine.specs.declared.refusals.Trouble.{Trouble}
use Rattle.bl_engine.specs.declared.refusals.Trouble.TheVariants.{StoreFault, BadStore, NoMemory}
use Rattle.bl_engine.specs.Images.{bodies_of}
use Rattle.bl_engine.specs.Engines.{Stays, View}
use Rattle.bl_engine.specs.Openings.{Meets}
use Rattle.bl_engine.specs.Calls.{Breaks, Commits, Handles, Settled}
use Rattle.bl_engine.specs.Outcomes.{Outcome, Done, Refused, Full, Stopped, trouble_in}

-- the engine is ready after these
abbrev pub LeavesReady : Outcome → Type 0
LeavesReady Done = Unit {0}
LeavesReady Refused = Unit {0}
LeavesReady Full = ⊥
LeavesReady (Stopped what) = ⊥

-- It is closed after these. After want of memory it is either.
abbrev pub LeavesClosed : Outcome → Type 0
LeavesClosed Done = ⊥
LeavesClosed Refused = ⊥
LeavesClosed Full = Unit {0}
LeavesClosed (Stopped StoreFault) = Unit {0}
LeavesClosed (Stopped (BadStore place)) = Unit {0}
LeavesClosed (Stopped NoMemory) = ⊥

-- the entry of the call is known to be neither appended nor pending
abbrev pub AppendsNothing : Outcome → Type 0
AppendsNothing Done = ⊥
AppendsNothing Refused = Unit {0}
AppendsNothing Full = Unit {0}
AppendsNothing (Stopped what) = ⊥

-- What the call makes in the world that it finds, which may follow.
pub record Makes {D : Type 0} (of : Ghosts D) (makes : World → Entry → Type 0) (old : View D) : Type 0 where
  pub world : World
  pub meets : Meets of old world
  pub entry : Entry
  pub made : makes world entry
  pub follows : Follows world entry

-- The journal ends behind the entries of a state, once its pending one is kept or lost. They lead to a world in which an
-- entry is made that may follow, but it doesn't fit behind the gate at which the journal stands.
pub record HasNoRoom {D : Type 0} (of : Ghosts D) (makes : World → Entry → Type 0) (state : State) (journal : JournalRecord D) : Type 0 where
  pub entries : List Entry
  pub settles : Settles state entries
  pub ends : Ends of journal (bodies_of entries)
  pub world : World
  pub leads : IsWorldOf entries world
  pub entry : Entry
  pub made : makes world entry
  pub follows : Follows world entry
  pub full : IsFull journal.place (length (entry_bytes entry))

-- `makes` is the entry that the call appends, in the world that it finds.
pub record Attempts {D : Type 0} (of : Ghosts D) (makes : World → Entry → Type 0) (old new : View D) (outcome : Outcome) : Type 0 where
  -- over a store that this program left, whatever its state
  pub commits : outcome ≡ Done → (s : State) → Stays of old s → Commits of makes old new s
  pub breaks : ¬ (outcome ≡ Done) → (s : State) → Stays of old s → Breaks of makes old new s
  pub rests : AppendsNothing outcome → (s : State) → Stays of old s → Settled of (λ _. Unit {0}) old new s
  pub no_room : outcome ≡ Full → (s : State) → Stays of old s → HasNoRoom of makes s new.journal
  -- over every disk
  pub ready : LeavesReady outcome → new.ready ≡ true
  pub closed : LeavesClosed outcome → new.ready ≡ false
  pub done : outcome ≡ Done → (made : Makes of makes old) × Step made.world made.entry new.world × (new.seq ≡ made.world.entries + 1)
  -- exactly where the entry doesn't fit behind the gate at which the journal stands
  pub full : outcome ≡ Full → (made : Makes of makes old) × IsFull new.journal.place (length (entry_bytes made.entry))
  pub room : outcome ≡ Done → (place : ℕ) × (made : Makes of makes old) × HasRoom place (length (entry_bytes made.entry)) × (new.journal.place ≡ place + 5 + length (entry_bytes made.entry))
  pub handles : Handles of old new (trouble_in outcome)
