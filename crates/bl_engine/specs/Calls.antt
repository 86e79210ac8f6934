-- What calls do to the state of a store.
use Rattle.std.specs.Prelude.{◌≡◌, ◌⊎◌, ◌↔◌, ℕ, ◌≤◌, true, false, List, length, None, Some, Err}
use Rattle.std.specs.declared.option.Option.{Option}
use Rattle.bl_outside.specs.Counts.{Rose}
use Rattle.bl_outside.specs.declared.disk.Disk.{Ghosts}
use Rattle.bl_journal.specs.Frames.{AsBefore}
use Rattle.bl_journal.specs.Journals.{IsSound, Since}
use Rattle.bl_entry.specs.declared.entry.Entry.{Entry}
use Rattle.bl_world.specs.Worlds.{World}
use Rattle.bl_world.specs.States.{Appends, Fails, Grows, Rests, State}
use Rattle.bl_engine.specs.declared.refusals.Trouble.{Trouble}
use Rattle.bl_engine.specs.declared.refusals.Trouble.TheVariants.{StoreFault, BadStore}
use Rattle.bl_engine.specs.Images.{IsImageOf}
use Rattle.bl_engine.specs.Engines.{Stays, View}
use Rattle.bl_engine.specs.Openings.{IsTold, Judges, Meets}

-- The call leads from one state to another, and a crash at any moment of it leaves an image of one of these two.
pub record Answers {D : Type 0} (of : Ghosts D) (old new : View D) (from to : State) : Type 0 where
  pub stays : Stays of new to
  pub since : Since of old.journal.disk new.journal.disk (λ image. IsImageOf from image ⊎ IsImageOf to image)
  -- its number of entries stays that of those that are kept
  pub counts : old.seq ≡ length from.kept → new.seq ≡ length to.kept

-- It is done: the pending entry is settled, and what the call makes is appended.
abbrev pub Commits : {D : Type 0} → Ghosts D → (World → Entry → Type 0) → View D → View D → State → Type 0
Commits of makes old new from = (to : State) × Appends makes from to × Answers of old new from to

-- It isn't done: nothing is settled, or the pending entry is, and then what the call makes may be pending.
abbrev pub Breaks : {D : Type 0} → Ghosts D → (World → Entry → Type 0) → View D → View D → State → Type 0
Breaks of makes old new from = (to : State) × Fails makes from to × Answers of old new from to

-- Nothing is appended: the pending entry is settled, in a world of which this holds.
abbrev pub Settled : {D : Type 0} → Ghosts D → (World → Type 0) → View D → View D → State → Type 0
Settled of Is old new from = (to : State) × Rests Is from to × Answers of old new from to

-- Any number of calls lead from one state to the other: nothing was settled, or the store has grown.
abbrev pub Reaches : (World → Entry → Type 0) → State → State → Type 0
Reaches makes from to = (to ≡ from) ⊎ Grows makes from to

-- Any number of calls: a crash leaves an image of a state on the way.
pub record Drains {D : Type 0} (of : Ghosts D) (makes : World → Entry → Type 0) (old new : View D) (from : State) : Type 0 where
  pub to : State
  pub reaches : Reaches makes from to
  pub stays : Stays of new to
  pub since : Since of old.journal.disk new.journal.disk (λ image. (between : State) × Reaches makes from between × IsImageOf between image)
  pub left : new.left ≡ old.left
  pub right : new.right ≡ old.right

-- What holds however a call ends that may open the engine. `trouble` is what it answers of the store.
pub record Handles {D : Type 0} (of : Ghosts D) (old new : View D) (trouble : Option Trouble) : Type 0 where
  pub left : new.left ≡ old.left
  pub right : new.right ≡ old.right
  pub sound : IsSound of old.journal.disk ↔ IsSound of new.journal.disk
  pub later : of.faults old.journal.disk ≤ of.faults new.journal.disk
  pub store : trouble ≡ Some StoreFault → Rose (of.faults old.journal.disk) (of.faults new.journal.disk)
  -- Only an opening finds a bad store, and it says where.
  pub bad : (place : ℕ) → trouble ≡ Some (BadStore place) → (old.ready ≡ false) × (IsTold of old.journal.disk → Judges (of.seen old.journal.disk) (Err place))

-- What a call does that appends nothing: it opens the engine, where it is closed.
pub record Looks {D : Type 0} (of : Ghosts D) (old new : View D) (trouble : Option Trouble) : Type 0 where
  pub same : old.ready ≡ true → new ≡ old
  -- its world is the one that was found, and the pending entry is settled
  pub meets : new.ready ≡ true → Meets of old new.world
  pub settled : new.ready ≡ true → (s : State) → Stays of old s → Settled of (λ world. world ≡ new.world) old new s
  -- or it could not be opened, and the store is as it was
  pub closed : new.ready ≡ false → (old.ready ≡ false) × (new.seq ≡ old.seq) × ((s : State) → Stays of old s → Answers of old new s s)
  pub any_moment : IsSound of old.journal.disk → Since of old.journal.disk new.journal.disk (AsBefore (of.may_leave old.journal.disk))
  pub handles : Handles of old new trouble
