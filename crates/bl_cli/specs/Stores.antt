-- What a run makes of the store.
use Rattle.std.specs.Prelude.{◌≡◌, ◌⊎◌, ℕ, List, ◌++◌, None, Some, Ok as ok}
use Rattle.std.specs.declared.option.Option.{Option}
use Rattle.bl_outside.specs.Folders.{Files}
use Rattle.bl_outside.specs.Sound.{Since}
use Rattle.bl_outside.specs.declared.disk.Disk.{Ghosts}
use Rattle.bl_outside.specs.declared.disks.Disks.{Disks}
use Rattle.bl_journal.specs.Frames.{AsBefore}
use Rattle.bl_entry.specs.declared.entry.Entry.{Entry}
use Rattle.bl_world.specs.Worlds.{IsWorldOf, World}
use Rattle.bl_world.specs.States.{AreNew, Grows, IsNew, Settles, State, at_rest, unsure}
use Rattle.bl_chain.specs.Folders.{AreTablesOf}
use Rattle.bl_chain.specs.MadeEntries.{IsMade}
use Rattle.bl_engine.specs.Images.{HasEntries, IsImageOf}
use Rattle.bl_engine.specs.Openings.{IsTold, Judges}
use Rattle.bl_load.specs.Turns.{HasResumed}

-- ---- what was found, and what is left

-- The world that the store led to when it was opened, where its journal is told.
abbrev pub WasFound : {D : Type 0} → Ghosts D → Disks D → World → Type 0
WasFound of disks world = IsTold of disks.journal → Judges (of.seen disks.journal) (ok world)

-- A crash leaves entries that lead to this world.
abbrev pub LeadsTo : {D : Type 0} → Ghosts D → Disks D → World → Type 0
LeadsTo of disks world = (image : List ℕ) → of.may_leave disks.journal image → (entries : List Entry) × HasEntries image entries × IsWorldOf entries world

-- ---- what was done to it

-- a fact of the files, where they are told
abbrev pub OfFiles : Option Files → (Files → Type 0) → Type 0
OfFiles None P = Unit {0}
OfFiles (Some files) P = P files

-- The image is one of a state on the way from these entries, by entries that are made over the
-- files.
abbrev pub IsOnTheWay : Files → List Entry → List ℕ → Type 0
IsOnTheWay files first image = (between : State) × Grows (IsMade (AreTablesOf files)) (at_rest first) between × IsImageOf between image

-- All that was appended is kept, but for one entry more whose fate may not be known.
abbrev pub EndsBehind : Files → List Entry → State → Type 0
EndsBehind files entries to = (to ≡ at_rest entries) ⊎ ((entry : Entry) × IsNew (IsMade (AreTablesOf files)) entries entry × (to ≡ unsure entries entry))

-- The store was opened, and has grown by entries that are made over the files.
pub record HasGrown {D : Type 0} (of : Ghosts D) (files : Files) (old new : Disks D) : Type 0 where
  -- the entries that were found, in an image that a crash might have left before; the newest is the
  -- first
  pub first : List Entry
  pub image : List ℕ
  pub was : of.may_leave old.journal image
  pub has : HasEntries image first
  -- the entries that were appended, and the state in which the store is
  pub more : List Entry
  pub made : AreNew (IsMade (AreTablesOf files)) first more
  pub to : State
  pub ends : EndsBehind files (more ++ first) to
  pub now : (c : List ℕ) → of.may_leave new.journal c → IsImageOf to c
  -- A crash at any moment leaves what one might have left before, or an image of a state on the
  -- way.
  pub since : Since of old.journal new.journal (λ c. AsBefore (of.may_leave old.journal) c ⊎ IsOnTheWay files first c)
  -- In each list of entries on the way, whatever became of its last one, loads that were stopped,
  -- cancelled and gone on with come to what one uninterrupted load comes to.
  pub resumes : (between : State) (entries : List Entry) → Grows (IsMade (AreTablesOf files)) (at_rest first) between → Settles between entries → HasResumed files (at_rest first) entries

-- It wasn't opened, and stands for what it stood for before.
abbrev pub IsUntouched : {D : Type 0} → Ghosts D → Disks D → Disks D → Type 0
IsUntouched of old new = Since of old.journal new.journal (AsBefore (of.may_leave old.journal))

abbrev pub RunsOver : {D : Type 0} → Ghosts D → Files → Disks D → Disks D → Type 0
RunsOver of files old new = IsUntouched of old new ⊎ HasGrown of files old new
