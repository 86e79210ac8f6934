-- What a load comes to.
use Rattle.std.specs.Prelude.{◌≡◌, ◌⊎◌, ◌+◌, ℕ, true, List, Result, IfOk, IfErr, OnOk, IsErrOf}
use Rattle.std.specs.declared.option.Option.{Option}
use Rattle.std.specs.List.{Contains}
use Rattle.bl_outside.specs.Folders.{Files}
use Rattle.bl_outside.specs.declared.disk.Disk.{Ghosts}
use Rattle.bl_journal.specs.Journals.{JournalRecord}
use Rattle.bl_files.specs.declared.load_request.LoadRequest.{LoadRequest}
use Rattle.bl_queue.specs.declared.job.Job.{Job}
use Rattle.bl_queue.specs.Statuses.{has_ended}
use Rattle.bl_entry.specs.declared.entry.Entry.{Entry}
use Rattle.bl_chain.specs.Folders.{AreTablesOf}
use Rattle.bl_chain.specs.MadeEntries.{IsMade}
use Rattle.bl_world.specs.LoadIds.{load_number}
use Rattle.bl_world.specs.Makings.{SubmitEntry}
use Rattle.bl_world.specs.Works.{work_of}
use Rattle.bl_world.specs.Worlds.{World}
use Rattle.bl_world.specs.declared.work.Work.TheVariants.{Idle as no_work}
use Rattle.bl_engine.specs.Attempts.{HasNoRoom}
use Rattle.bl_engine.specs.Calls.{Handles, Reaches}
use Rattle.bl_engine.specs.Engines.{IsAt, View}
use Rattle.bl_world.specs.States.{State, at_rest}
use Rattle.bl_load.specs.Turns.{DrainsFull, DrainsOver, IsDrained, MayTurn}
use Rattle.bl_cli.specs.declared.load_fault.LoadFault.{LoadFault}
use Rattle.bl_cli.specs.declared.load_fault.LoadFault.TheVariants as fault
use Rattle.bl_cli.specs.LoadFaults.{IsOfLook, IsOfStore, IsOfTurns, trouble_of}
use Rattle.bl_cli.specs.Stores.{OfFiles}
use Rattle.bl_load.specs.SameJobs.{HasSameJobs}
use Rattle.bl_cli.specs.Tags.{HasTaken}

-- ---- the job

-- In this world the job is the one that was submitted behind an earlier world. It has ended, and
-- nothing is to be done.
pub record IsLoadOf (salt : ℕ) (wanted : LoadRequest) (before world : World) (it : Job) : Type 0 where
  pub kept : Contains world.kept.jobs it
  pub number : it.number ≡ before.kept.last + 1
  pub id : it.id ≡ load_number salt it.number
  pub request : it.request ≡ wanted
  pub ended : has_ended it.status ≡ true
  pub idle : work_of world.kept.jobs ≡ no_work

-- ---- a journal that is full

-- the entry of a turn over these files, or the one by which the load is taken on
abbrev pub MayAppend : Files → ℕ → LoadRequest → World → Entry → Type 0
MayAppend files salt request world entry = MayTurn files world entry ⊎ ((now : ℕ) × SubmitEntry salt request now world entry)

-- Behind entries that were appended, the next one doesn't fit into the journal.
abbrev pub LacksRoom : {D : Type 0} → Ghosts D → Files → ℕ → LoadRequest → State → JournalRecord D → Type 0
LacksRoom of files salt request from journal = (between : State) × Reaches (IsMade (AreTablesOf files)) from between × HasNoRoom of (MayAppend files salt request) between journal

-- ---- what is done to an engine that is ready

-- Turns were made until nothing is to be done, or one was not made.
pub record DrainsAll {D : Type 0} (of : Ghosts D) (files : Option Files) (old new : View D) (result : Result (Unit {0}) LoadFault) : Type 0 where
  pub idle : OnOk result (IsDrained new × HasSameJobs old.world.kept new.world.kept)
  pub over : OfFiles files (λ told. (entries : List Entry) → IsAt of old entries → DrainsOver of told old new (at_rest entries))
  pub handles : Handles of old new (trouble_of result)
  pub full : IsErrOf result fault.JournalFull → OfFiles files (λ told. (entries : List Entry) → IsAt of old entries → DrainsFull of told (at_rest entries) new)
  pub fault : IfErr result IsOfTurns

-- A load was submitted, or it was not.
pub record Submits {D : Type 0} (of : Ghosts D) (salt : ℕ) (request : LoadRequest) (old new : View D) (result : Result ℕ LoadFault) : Type 0 where
  pub taken : IfOk result (λ id. (new.ready ≡ true) × HasTaken salt request old.world.kept new.world.kept id)
  pub over : (files : Files) (entries : List Entry) → IsAt of old entries → DrainsOver of files old new (at_rest entries)
  pub handles : Handles of old new (trouble_of result)
  pub used_up : IsErrOf result fault.NumbersUsedUp → old.world.kept.last ≡ 4294967295
  pub full : IsErrOf result fault.JournalFull → (entries : List Entry) → IsAt of old entries → (now : ℕ) × HasNoRoom of (SubmitEntry salt request now) (at_rest entries) new.journal
  pub fault : IfErr result IsOfStore

-- A load was made, or it was not.
pub record Makes {D : Type 0} (of : Ghosts D) (files : Option Files) (salt : ℕ) (request : LoadRequest) (old new : View D) (result : Result Job LoadFault) : Type 0 where
  pub ended : IfOk result (λ it. (new.ready ≡ true) × IsLoadOf salt request old.world new.world it)
  pub drains : OfFiles files (λ told. (entries : List Entry) → IsAt of old entries → DrainsOver of told old new (at_rest entries))
  pub handles : Handles of old new (trouble_of result)
  -- the last number of a load was given
  pub used_up : IsErrOf result fault.NumbersUsedUp → old.world.kept.last ≡ 4294967295
  -- the entry of a turn, or of the load, has no room
  pub full : IsErrOf result fault.JournalFull → OfFiles files (λ told. (entries : List Entry) → IsAt of old entries → LacksRoom of told salt request (at_rest entries) new.journal)
  pub fault : IfErr result IsOfStore

-- The kept job of this id, or the store can't tell.
pub record FindsLoad {D : Type 0} (of : Ghosts D) (id : ℕ) (old new : View D) (result : Result Job LoadFault) : Type 0 where
  pub found : IfOk result (λ it. Contains old.world.kept.jobs it × (it.id ≡ id))
  pub same : new ≡ old
  pub handles : Handles of old new (trouble_of result)
  pub fault : IfErr result IsOfLook
