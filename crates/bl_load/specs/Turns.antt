-- What turns do to the state of a store.
use Rattle.std.specs.Prelude.{◌≡◌, ◌≢◌, ◌⊎◌, ℕ, ◌+◌, ◌<◌, ◌^◌, true, List, ◌++◌, Contains}
use Rattle.bl_outside.specs.declared.disk.Disk.{Ghosts}
use Rattle.bl_outside.specs.Folders.{Files}
use Rattle.bl_outside.specs.Sound.{Since}
use Rattle.bl_queue.specs.declared.job.Job.{Job}
use Rattle.bl_queue.specs.declared.job_status.JobStatus.TheVariants.{CancelledByUser}
use Rattle.bl_queue.specs.Statuses.{has_ended}
use Rattle.bl_entry.specs.declared.entry.Entry.{Entry}
use Rattle.bl_entry.specs.declared.entry.Entry.TheVariants.{Submit, Cancel, Start, Batch, FeedEnd as End}
use Rattle.bl_files.specs.declared.feed_end.FeedEnd.TheVariants as end
use Rattle.bl_files.specs.declared.plan_result.PlanResult.TheVariants as plan
use Rattle.bl_world.specs.Worlds.{World}
use Rattle.bl_world.specs.Works.{work_of}
use Rattle.bl_world.specs.States.{IsIdle, Settles, State}
use Rattle.bl_world.specs.declared.work.Work.TheVariants.{Idle as no_work}
use Rattle.bl_engine.specs.declared.turned.Turned.{Turned}
use Rattle.bl_engine.specs.declared.turned.Turned.TheVariants.{Idle, Planned, Rows, Ended}
use Rattle.bl_engine.specs.Attempts.{HasNoRoom}
use Rattle.bl_engine.specs.Calls.{Commits, Drains, Reaches, Settled}
use Rattle.bl_engine.specs.Engines.{View}
use Rattle.bl_engine.specs.Findings.{turned_by}
use Rattle.bl_engine.specs.Images.{HasEntries}
use Rattle.bl_chain.specs.Chains.{Chain, Stands}
use Rattle.bl_chain.specs.Folders.{AreTablesOf}
use Rattle.bl_chain.specs.MadeEntries.{IsMade}
use Rattle.bl_chain.specs.NextEntries.{IsTurn}
use Rattle.bl_chain.specs.Resumption.{MayResume, Unchanged}
use Rattle.bl_chain.specs.UncutLoads.{MayEndWhole, Uncut}
use Rattle.bl_chain.specs.WholeEnds.{EndsWhole}

-- ---- what a turn appends

-- the entry of a turn over these files, of which the turn tells
abbrev pub TurnsBy : Files → ℕ → Turned → World → Entry → Type 0
TurnsBy files now told world entry = IsTurn (AreTablesOf files) world now entry × (told ≡ turned_by entry)

-- What a turn does over told files, where it is made: it finds no work, or it appends the one entry of a turn.
abbrev pub TurnsTo : {D : Type 0} → Ghosts D → Files → ℕ → View D → View D → State → Turned → Type 0
TurnsTo of files now old new state Idle = Settled of IsIdle old new state
TurnsTo of files now old new state Planned = Commits of (TurnsBy files now Planned) old new state
TurnsTo of files now old new state (Rows n) = Commits of (TurnsBy files now (Rows n)) old new state
TurnsTo of files now old new state (Ended status) = Commits of (TurnsBy files now (Ended status)) old new state

-- Any number of turns, made or not, each of which appends an entry that is made over these files.
abbrev pub DrainsOver : {D : Type 0} → Ghosts D → Files → View D → View D → State → Type 0
DrainsOver of files old new state = Drains of (IsMade (AreTablesOf files)) old new state

-- The same over whatever files, told or not: each entry that it appends may follow.
abbrev pub DrainsAnyhow : {D : Type 0} → Ghosts D → View D → View D → State → Type 0
DrainsAnyhow of old new state = Drains of (λ world entry. Unit {0}) old new state

-- ---- an entry for which there is no room

-- it tells that the folder failed
abbrev pub IsOfFault : Entry → Type 0
IsOfFault (Submit moment job id request) = ⊥
IsOfFault (Cancel moment job) = ⊥
IsOfFault (Start moment job planned) = planned ≡ plan.ListFault
IsOfFault (Batch moment job feed from rows digest duplicates logs changes) = ⊥
IsOfFault (End moment job feed how) = how ≡ end.ReadError

-- the entry of a turn over these files at some moment, or one of a fault
abbrev pub MayTurn : Files → World → Entry → Type 0
MayTurn files world entry = ((now : ℕ) × IsTurn (AreTablesOf files) world now entry) ⊎ IsOfFault entry

-- After some turns the entry of the next one doesn't fit into the journal.
abbrev pub DrainsFull : {D : Type 0} → Ghosts D → Files → State → View D → Type 0
DrainsFull of files state new = (between : State) × Reaches (IsMade (AreTablesOf files)) state between × HasNoRoom of (MayTurn files) between new.journal

-- ---- how a turn leaves the engine

abbrev pub IsOneMore : {D : Type 0} → View D → View D → Type 0
IsOneMore old new = (new.ready ≡ true) × (new.world.entries < 2 ^ 40) × (old.ready ≡ true → new.world.entries ≡ old.world.entries + 1)

-- ready, and nothing is to be done
abbrev pub IsDrained : {D : Type 0} → View D → Type 0
IsDrained engine = (engine.ready ≡ true) × (work_of engine.world.kept.jobs ≡ no_work)

-- A turn that was made left the engine ready. It found no work, or there is one entry more, of which the journal has room
-- for fewer than 2^40.
abbrev pub CountsUp : {D : Type 0} → View D → View D → Turned → Type 0
CountsUp old new Idle = IsDrained new
CountsUp old new Planned = IsOneMore old new
CountsUp old new (Rows n) = IsOneMore old new
CountsUp old new (Ended status) = IsOneMore old new

-- ---- what loads come to

-- Loads of the grown list come to what one uninterrupted load comes to, where they may be resumed.
abbrev pub ResumeOver : Files → List Entry → List Entry → Type 0
ResumeOver files old new =
    (world : World) (job : ℕ) (chain : Chain)
    → MayResume (AreTablesOf files) old new world job chain
    → (unchanged : Unchanged (AreTablesOf files) (new ++ old) world job chain) × Stands unchanged.tables world job chain

-- Those that nothing cut off end as one uninterrupted load, where they have ended.
abbrev pub EndWholeOver : Files → List Entry → List Entry → Type 0
EndWholeOver files old new =
    (world : World) (job : ℕ) (chain : Chain)
    → MayEndWhole (AreTablesOf files) old new world job chain
    → (uncut : Uncut (AreTablesOf files) (new ++ old) world job chain)
    × ((it : Job) → Contains world.kept.jobs it → it.number ≡ job → has_ended it.status ≡ true → it.status ≢ CancelledByUser → EndsWhole uncut.tables chain it)

-- The entries stand behind those of the state, once its pending one is kept or lost. So do loads of each list on the way.
pub record HasResumed (files : Files) (state : State) (entries : List Entry) : Type 0 where
  pub before : List Entry
  pub later : List Entry
  pub settles : Settles state before
  pub are : entries ≡ later ++ before
  pub resume : (rest part : List Entry) → later ≡ rest ++ part → ResumeOver files before part
  pub end : (rest part : List Entry) → later ≡ rest ++ part → EndWholeOver files before part

-- Whatever a crash at any moment leaves, its loads have resumed.
abbrev pub ResumesTo : {D : Type 0} → Ghosts D → Files → View D → View D → State → Type 0
ResumesTo of files old new state = Since of old.journal.disk new.journal.disk (λ image. (entries : List Entry) × HasEntries image entries × HasResumed files state entries)
