-- What each call finds in the world, and so when it is refused.
use Rattle.std.specs.Prelude.{◌≡◌, ◌≢◌, ◌⊎◌, ◌↔◌, ℕ, ◌+◌, ◌≤◌, ◌<◌, ◌^◌, Bool, true, false, List, length, None, Some, Result, Ok, Err}
use Rattle.bl_outside.specs.declared.disk.Disk.{Ghosts}
use Rattle.bl_value.specs.declared.row.DigestRow.{DigestRow}
use Rattle.bl_files.specs.declared.feed_end.FeedEnd.{FeedEnd}
use Rattle.bl_files.specs.declared.load_request.LoadRequest.{LoadRequest}
use Rattle.bl_files.specs.declared.plan_result.PlanResult.{PlanResult}
use Rattle.bl_queue.specs.declared.job.Job.{Job}
use Rattle.bl_queue.specs.Jobs.{is_unended, job_with_id}
use Rattle.bl_queue.specs.Checks.{refusal}
use Rattle.bl_queue.specs.Runs.{end_status}
use Rattle.bl_queue.specs.declared.check_refusal.CheckRefusal.TheVariants as check
use Rattle.bl_entry.specs.declared.entry.Entry.{Entry}
use Rattle.bl_entry.specs.declared.entry.Entry.TheVariants.{Submit, Cancel, Start, Batch, FeedEnd as End}
use Rattle.bl_entry.specs.Valid.{IsPlan}
use Rattle.bl_job.specs.Batched.{AreValidRows}
use Rattle.bl_world.specs.LoadIds.{load_number}
use Rattle.bl_world.specs.Makings.{EndEntry, FitsPlan, IsUnstopped, PlanEntry, RowsEntry}
use Rattle.bl_world.specs.Works.{work_of}
use Rattle.bl_world.specs.Worlds.{World}
use Rattle.bl_world.specs.declared.work.Work.{Work}
use Rattle.bl_world.specs.declared.work.Work.TheVariants.{Idle, Plan, Continue}
use Rattle.bl_engine.specs.declared.refusals.Trouble.{Trouble}
use Rattle.bl_engine.specs.declared.refusals.SubmitRefusal.{SubmitRefusal}
use Rattle.bl_engine.specs.declared.refusals.SubmitRefusal.TheVariants as submit
use Rattle.bl_engine.specs.declared.refusals.CancelRefusal.{CancelRefusal}
use Rattle.bl_engine.specs.declared.refusals.CancelRefusal.TheVariants as cancel
use Rattle.bl_engine.specs.declared.refusals.TurnRefusal.{TurnRefusal}
use Rattle.bl_engine.specs.declared.refusals.TurnRefusal.TheVariants as turn
use Rattle.bl_engine.specs.declared.turned.Turned.{Turned}
use Rattle.bl_engine.specs.declared.turned.Turned.TheVariants as turned
use Rattle.bl_engine.specs.Engines.{View}
use Rattle.bl_engine.specs.Openings.{Meets}
use Rattle.bl_engine.specs.Outcomes.{Outcome, Refused, Stopped}

-- The engine was closed, and could not be opened.
pub record IsUnopened {D : Type 0} (old new : View D) (outcome : Outcome) : Type 0 where
  pub was : old.ready ≡ false
  pub is : new.ready ≡ false
  pub stopped : (what : Trouble) × (outcome ≡ Stopped what)

-- Else the answer is the one of the world that the engine then had. Where the call is refused, that is still its world.
abbrev pub Finds : {D : Type 0} → Ghosts D → View D → View D → Outcome → (World → Type 0) → Type 0
Finds of old new outcome Is =
    IsUnopened old new outcome ⊎ ((world : World) × Meets of old world × Is world × (outcome ≡ Refused → new.world ≡ world))

-- ---- a load is taken on

-- Where it isn't, the answer is the first reason why not. Troubles come only where it would be.
abbrev pub SubmitFinds : ℕ → LoadRequest → Result ℕ SubmitRefusal → World → Type 0
SubmitFinds salt request (Ok id) world = (refusal world.kept request ≡ None) × (id ≡ load_number salt (world.kept.last + 1))
SubmitFinds salt request (Err submit.TooManyDependencies) world = refusal world.kept request ≡ Some check.TooManyDependencies
SubmitFinds salt request (Err (submit.UnknownDependency place)) world = refusal world.kept request ≡ Some (check.UnknownDependency place)
SubmitFinds salt request (Err (submit.Busy id)) world = refusal world.kept request ≡ Some (check.Busy id)
SubmitFinds salt request (Err submit.QueueFull) world = refusal world.kept request ≡ Some check.QueueFull
SubmitFinds salt request (Err submit.NumbersUsedUp) world = refusal world.kept request ≡ Some check.NumbersUsedUp
SubmitFinds salt request (Err submit.JournalFull) world = refusal world.kept request ≡ None
SubmitFinds salt request (Err submit.StoreFault) world = refusal world.kept request ≡ None
SubmitFinds salt request (Err (submit.BadStore place)) world = ⊥
SubmitFinds salt request (Err submit.NoMemory) world = refusal world.kept request ≡ None

-- ---- a load is cancelled

abbrev pub HasUnended : ℕ → World → Type 0
HasUnended id world = (it : Job) × (job_with_id id world.kept.jobs ≡ Some it) × (is_unended it ≡ true)

abbrev pub CancelFinds : ℕ → Result (Unit {0}) CancelRefusal → World → Type 0
CancelFinds id (Ok done) world = HasUnended id world
CancelFinds id (Err cancel.Unknown) world = job_with_id id world.kept.jobs ≡ None
CancelFinds id (Err (cancel.Ended status)) world = (it : Job) × (job_with_id id world.kept.jobs ≡ Some it) × (is_unended it ≡ false) × (it.status ≡ status)
CancelFinds id (Err cancel.JournalFull) world = HasUnended id world
CancelFinds id (Err cancel.StoreFault) world = HasUnended id world
CancelFinds id (Err (cancel.BadStore place)) world = ⊥
CancelFinds id (Err cancel.NoMemory) world = HasUnended id world

-- ---- the work that was handed out is done

abbrev pub IsStillNext : Work → World → Type 0
IsStillNext work world = work_of world.kept.jobs ≡ work

-- It is stale where it isn't the next work any more.
abbrev pub TurnFinds : Work → Result Turned TurnRefusal → World → Type 0
TurnFinds work (Ok turned) world = IsStillNext work world
TurnFinds work (Err (turn.Stale next)) world = (work_of world.kept.jobs ≡ next) × (next ≢ work)
TurnFinds work (Err turn.JournalFull) world = IsStillNext work world
TurnFinds work (Err turn.StoreFault) world = IsStillNext work world
TurnFinds work (Err (turn.BadStore place)) world = ⊥
TurnFinds work (Err turn.NoMemory) world = IsStillNext work world

-- the refusal of work that isn't the next any more
abbrev pub IsStale : Work → World → TurnRefusal → Type 0
IsStale work world refusal = (next : Work) × (refusal ≡ turn.Stale next) × (work_of world.kept.jobs ≡ next) × (next ≢ work)

-- the work is a plan, and this may be the plan
abbrev pub PlansWork : Work → PlanResult → Type 0
PlansWork Idle planned = ⊥
PlansWork (Plan job previous no_previous) planned = FitsPlan (Plan job previous no_previous) job planned × IsPlan planned
PlansWork (Continue job feed from) planned = ⊥

-- the work is a file that goes on, and these may be its next rows
abbrev pub TakesRows : Work → List DigestRow → Type 0
TakesRows Idle rows = ⊥
TakesRows (Plan job previous no_previous) rows = ⊥
TakesRows (Continue job feed from) rows = (1 ≤ length rows) × (length rows ≤ 1000) × (from + length rows < 2 ^ 48) × AreValidRows rows

-- the work is a file that goes on, and it may end so
abbrev pub EndsFile : Work → FeedEnd → Type 0
EndsFile Idle how = ⊥
EndsFile (Plan job previous no_previous) how = ⊥
EndsFile (Continue job feed from) how = IsUnstopped how

-- ---- the entries of work

abbrev pub PlannedEntry : Work → PlanResult → ℕ → World → Entry → Type 0
PlannedEntry Idle planned now world entry = ⊥
PlannedEntry (Plan job previous no_previous) planned now world entry = PlanEntry job planned now world entry
PlannedEntry (Continue job feed from) planned now world entry = ⊥

abbrev pub TakenEntry : Work → List DigestRow → ℕ → World → Entry → Type 0
TakenEntry Idle rows now world entry = ⊥
TakenEntry (Plan job previous no_previous) rows now world entry = ⊥
TakenEntry (Continue job feed from) rows now world entry = RowsEntry job feed rows now world entry

abbrev pub EndedEntry : Work → FeedEnd → ℕ → World → Entry → Type 0
EndedEntry Idle how now world entry = ⊥
EndedEntry (Plan job previous no_previous) how now world entry = ⊥
EndedEntry (Continue job feed from) how now world entry = EndEntry job feed how now world entry

-- what is told of an entry of work
abbrev pub turned_by : Entry → Turned
turned_by (Submit moment job id request) = turned.Idle
turned_by (Cancel moment job) = turned.Idle
turned_by (Start moment job planned) = turned.Planned
turned_by (Batch moment job feed from rows digest duplicates logs changes) = turned.Rows rows
turned_by (End moment job feed how) = turned.Ended (end_status how)

-- A call that makes such an entry tells of it where it is done.
abbrev pub Tells : {E : Type 0} → (World → Entry → Type 0) → Result Turned E → World → Entry → Type 0
Tells makes (Ok told) world entry = makes world entry × (told ≡ turned_by entry)
Tells makes (Err refusal) world entry = makes world entry
