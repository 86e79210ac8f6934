-- What is shown of a store: a body, and a line feed.
use Rattle.std.specs.Prelude.{◌≡◌, ℕ, true, List, [], ◌∷◌, ◌++◌, None, Some, Result, Ok, Err}
use Rattle.std.specs.declared.option.Option.{Option}
use Rattle.bl_outside.specs.declared.disk.Disk.{Ghosts}
use Rattle.bl_change.specs.declared.event.Event.{Event}
use Rattle.bl_queue.specs.Jobs.{job_with_id}
use Rattle.bl_queue.specs.declared.job.Job.{Job}
use Rattle.bl_stream.specs.declared.page.PageRefusal.{PageRefusal}
use Rattle.bl_stream.specs.declared.page.PageRefusal.TheVariants as page
use Rattle.bl_world.specs.Works.{listed}
use Rattle.bl_world.specs.Worlds.{World}
use Rattle.bl_engine.specs.Calls.{Handles}
use Rattle.bl_engine.specs.Engines.{View}
use Rattle.bl_engine.specs.Streams.{page_of}
use Rattle.bl_engine.specs.declared.refusals.Trouble.{Trouble}
use Rattle.bl_engine.specs.declared.refusals.ViewRefusal.{ViewRefusal}
use Rattle.bl_engine.specs.declared.refusals.ViewRefusal.TheVariants as view
use Rattle.bl_feed.specs.Bodies.{list_text, page_text}
use Rattle.bl_feed.specs.StatusBodies.{status_text}
use Rattle.bl_cli.specs.declared.command.Look.{Look}
use Rattle.bl_cli.specs.declared.command.Look.TheVariants as look
use Rattle.bl_cli.specs.declared.status.Status.{Status}
use Rattle.bl_cli.specs.declared.status.Status.TheVariants as status
use Rattle.bl_cli.specs.LoadFaults.{status_trouble}

-- ---- bodies

abbrev pub list_body : List ℕ → List ℕ
list_body ids = list_text ids ++ 10 ∷ []

-- with the files that ended otherwise than whole, and the first ten errors
abbrev pub job_body : Job → List ℕ
job_body job = status_text job true (Some (1, 10)) ++ 10 ∷ []

abbrev pub page_body : List Event → List ℕ
page_body events = page_text events ++ 10 ∷ []

-- ---- what is told of a world

abbrev pub told_job : Option Job → Result (List ℕ) Status
told_job None = Err status.UnknownLoad
told_job (Some job) = Ok (job_body job)

abbrev pub told_page : List Event → Result (List ℕ) Status
told_page [] = Err status.NoRecords
told_page (event ∷ events) = Ok (page_body (event ∷ events))

-- the text that shows it, or the status where there is nothing: the ids of at most 100 loads, those
-- that wait among them; the load of the id; or the page that is asked for
abbrev pub told : Look → World → Result (List ℕ) Status
told look.Loads world = Ok (list_body (listed 100 true world.kept.jobs))
told (look.Load id) world = told_job (job_with_id id world.kept.jobs)
told (look.Page ask) world = told_page (page_of world ask)

-- ---- what an engine that is ready tells

-- The answer is what there is to tell, or the store or memory failed.
abbrev pub IsAnswer : Result (List ℕ) Status → Result (List ℕ) Status → Type 0
IsAnswer truth (Ok text) = truth ≡ Ok text
IsAnswer truth (Err status.Ok) = ⊥
IsAnswer truth (Err status.JobNotCompleted) = ⊥
IsAnswer truth (Err status.Usage) = ⊥
IsAnswer truth (Err status.ReadFault) = ⊥
IsAnswer truth (Err status.WriteFault) = ⊥
IsAnswer truth (Err status.StoreFault) = Unit {0}
IsAnswer truth (Err (status.BadStore place)) = Unit {0}
IsAnswer truth (Err status.NoMemory) = Unit {0}
IsAnswer truth (Err status.InputTooLong) = ⊥
IsAnswer truth (Err status.TornInput) = ⊥
IsAnswer truth (Err status.JournalFull) = ⊥
IsAnswer truth (Err status.NumbersUsedUp) = ⊥
IsAnswer truth (Err status.UnknownLoad) = truth ≡ Err status.UnknownLoad
IsAnswer truth (Err status.NoRecords) = truth ≡ Err status.NoRecords

-- the trouble of the store that it tells of
abbrev pub answer_trouble : Result (List ℕ) Status → Option Trouble
answer_trouble (Ok text) = None
answer_trouble (Err why) = status_trouble why

-- The engine was looked at, and stays as it was.
pub record Tells {D : Type 0} (of : Ghosts D) (what : Look) (old new : View D) (result : Result (List ℕ) Status) : Type 0 where
  pub answer : IsAnswer (told what old.world) result
  pub same : new ≡ old
  pub handles : Handles of old new (answer_trouble result)

-- ---- statuses of refusals

-- a body, or want of memory
abbrev pub made : {E : Type 0} → Result (List ℕ) E → Result (List ℕ) Status
made (Ok body) = Ok body
made (Err want) = Err status.NoMemory

abbrev pub view_status : ViewRefusal → Status
view_status view.Unknown = status.UnknownLoad
view_status view.StoreFault = status.StoreFault
view_status (view.BadStore place) = status.BadStore place
view_status view.NoMemory = status.NoMemory

abbrev pub page_status : PageRefusal → Status
page_status page.NoRecords = status.NoRecords
page_status page.StoreFault = status.StoreFault
page_status (page.BadStore place) = status.BadStore place
page_status page.NoMemory = status.NoMemory
