-- The answer to a request over an engine: what it did to the store, and what it replied.
use Rattle.std.specs.Prelude.{◌≡◌, ◌⊎◌, ℕ, Bool, true, List, [], None, Some, Result, Ok, Err, IfOk, OnOk, IsErrOf}
use Rattle.std.specs.declared.option.Option.{Option}
use Rattle.std.specs.Result.{result_err}
use Rattle.bl_outside.specs.declared.disk.Disk.{Ghosts}
use Rattle.bl_files.specs.declared.load_request.LoadRequest.{LoadRequest}
use Rattle.bl_queue.specs.declared.job.Job.{Job}
use Rattle.bl_queue.specs.Jobs.{job_with_id}
use Rattle.bl_stream.specs.declared.page.Page.{Page}
use Rattle.bl_stream.specs.declared.page.PageRefusal.{PageRefusal}
use Rattle.bl_stream.specs.declared.page.PageRefusal.TheVariants as page
use Rattle.bl_stream.specs.declared.page_ask.PageAsk.{PageAsk}
use Rattle.bl_world.specs.Makings.{CancelEntry, SubmitEntry}
use Rattle.bl_world.specs.Works.{listed}
use Rattle.bl_engine.specs.declared.refusals.Trouble.{Trouble}
use Rattle.bl_engine.specs.declared.refusals.Trouble.TheVariants as trouble
use Rattle.bl_engine.specs.declared.refusals.SubmitRefusal.{SubmitRefusal}
use Rattle.bl_engine.specs.declared.refusals.SubmitRefusal.TheVariants as submit
use Rattle.bl_engine.specs.declared.refusals.CancelRefusal.{CancelRefusal}
use Rattle.bl_engine.specs.declared.refusals.CancelRefusal.TheVariants as cancel
use Rattle.bl_engine.specs.declared.refusals.ViewRefusal.{ViewRefusal}
use Rattle.bl_engine.specs.declared.refusals.ViewRefusal.TheVariants as view
use Rattle.bl_engine.specs.Attempts.{Attempts}
use Rattle.bl_engine.specs.Calls.{Looks}
use Rattle.bl_engine.specs.Engines.{View}
use Rattle.bl_engine.specs.Findings.{CancelFinds, Finds, SubmitFinds}
use Rattle.bl_engine.specs.Outcomes.{cancel_outcome, submit_outcome, view_trouble}
use Rattle.bl_engine.specs.Streams.{page_of, page_trouble}
use Rattle.bl_http.specs.declared.request.Request.{Request}
use Rattle.bl_feed.specs.Bodies.{cancelled_text, list_text, page_text, submitted_text}
use Rattle.bl_feed.specs.StatusBodies.{status_text}
use Rattle.bl_session.specs.declared.ask.Ask.{Ask}
use Rattle.bl_session.specs.declared.ask.Ask.TheVariants.{Submit, Cancel, List as Listing, Show, Page as Paged}
use Rattle.bl_session.specs.declared.problem.Problem.{Problem}
use Rattle.bl_session.specs.declared.problem.Problem.TheVariants as problem
use Rattle.bl_session.specs.declared.reply.Reply.{Reply}
use Rattle.bl_session.specs.declared.reply.Reply.TheVariants.{MemoryOut}
use Rattle.bl_session.specs.Asks.{Asks}
use Rattle.bl_session.specs.Replies.{Tells, problem_told}

-- ---- what is told of the answers of an engine; of want of memory nothing

abbrev pub trouble_problem : Trouble → Option Problem
trouble_problem trouble.StoreFault = Some problem.StoreFault
trouble_problem (trouble.BadStore place) = Some (problem.BadStore place)
trouble_problem trouble.NoMemory = None

abbrev pub submit_problem : SubmitRefusal → Option Problem
submit_problem submit.TooManyDependencies = Some problem.TooManyDependencies
submit_problem (submit.UnknownDependency place) = Some (problem.UnknownDependency place)
submit_problem (submit.Busy id) = Some (problem.LoadBusy id)
submit_problem submit.QueueFull = Some problem.QueueFull
submit_problem submit.NumbersUsedUp = Some problem.NumbersUsedUp
submit_problem submit.JournalFull = Some problem.JournalFull
submit_problem submit.StoreFault = Some problem.StoreFault
submit_problem (submit.BadStore place) = Some (problem.BadStore place)
submit_problem submit.NoMemory = None

abbrev pub cancel_problem : CancelRefusal → Option Problem
cancel_problem cancel.Unknown = Some problem.UnknownLoad
cancel_problem (cancel.Ended status) = Some (problem.LoadEnded status)
cancel_problem cancel.JournalFull = Some problem.JournalFull
cancel_problem cancel.StoreFault = Some problem.StoreFault
cancel_problem (cancel.BadStore place) = Some (problem.BadStore place)
cancel_problem cancel.NoMemory = None

abbrev pub view_problem : ViewRefusal → Option Problem
view_problem view.Unknown = Some problem.UnknownLoad
view_problem view.StoreFault = Some problem.StoreFault
view_problem (view.BadStore place) = Some (problem.BadStore place)
view_problem view.NoMemory = None

abbrev pub page_problem : PageRefusal → Option Problem
page_problem page.NoRecords = Some problem.NoRecords
page_problem page.StoreFault = Some problem.StoreFault
page_problem (page.BadStore place) = Some (problem.BadStore place)
page_problem page.NoMemory = None

-- the body of the answer, or its refusal
abbrev pub told : {A E : Type 0} → (A → List ℕ) → (E → Option Problem) → Result A E → Option (Result (List ℕ) Problem)
told body refusal (Ok answer) = Some (Ok (body answer))
told body refusal (Err refused) = problem_told (refusal refused)

-- ---- requests that change the list of loads

-- A load is taken on: the engine's answer is told.
pub record Submits {D : Type 0} (of : Ghosts D) (salt : ℕ) (load : LoadRequest) (now : ℕ) (close : Bool) (old new : View D) (reply : Reply) : Type 0 where
  pub answer : Result ℕ SubmitRefusal
  pub finds : Finds of old new (submit_outcome answer) (SubmitFinds salt load answer)
  pub attempts : Attempts of (SubmitEntry salt load now) old new (submit_outcome answer)
  pub tells : Tells (told submitted_text submit_problem answer) close reply

-- The same of a load that is cancelled.
pub record Cancels {D : Type 0} (of : Ghosts D) (id now : ℕ) (close : Bool) (old new : View D) (reply : Reply) : Type 0 where
  pub answer : Result (Unit {0}) CancelRefusal
  pub finds : Finds of old new (cancel_outcome answer) (CancelFinds id answer)
  pub attempts : Attempts of (CancelEntry id now) old new (cancel_outcome answer)
  pub tells : Tells (told (λ done. cancelled_text) cancel_problem answer) close reply

-- ---- requests that only look

-- The loads are listed that the world has which the engine then has.
pub record Lists {D : Type 0} (of : Ghosts D) (limit : ℕ) (queued close : Bool) (old new : View D) (reply : Reply) : Type 0 where
  pub answer : Result (List ℕ) Trouble
  pub looks : Looks of old new (result_err answer)
  pub ready : OnOk answer (new.ready ≡ true)
  pub ids : IfOk answer (λ ids. ids ≡ listed limit queued new.world.kept.jobs)
  pub tells : Tells (told list_text trouble_problem answer) close reply

-- The load of an id is shown, exactly where that world has one.
pub record Shows {D : Type 0} (of : Ghosts D) (id : ℕ) (details : Bool) (errors : Option (ℕ × ℕ)) (close : Bool) (old new : View D) (reply : Reply) : Type 0 where
  pub answer : Result Job ViewRefusal
  pub looks : Looks of old new (view_trouble answer)
  pub ready : OnOk answer (new.ready ≡ true)
  pub job : IfOk answer (λ job. job_with_id id new.world.kept.jobs ≡ Some job)
  pub unknown : IsErrOf answer view.Unknown → (new.ready ≡ true) × (job_with_id id new.world.kept.jobs ≡ None)
  pub tells : Tells (told (λ job. status_text job details errors) view_problem answer) close reply

-- The page of that world is told, exactly where it has an event.
pub record Pages {D : Type 0} (of : Ghosts D) (ask : PageAsk) (close : Bool) (old new : View D) (reply : Reply) : Type 0 where
  pub answer : Result Page PageRefusal
  pub looks : Looks of old new (page_trouble answer)
  pub ready : OnOk answer (new.ready ≡ true)
  pub events : IfOk answer (λ page. page.events ≡ page_of new.world ask)
  pub none : IsErrOf answer page.NoRecords → (new.ready ≡ true) × (page_of new.world ask ≡ [])
  pub tells : Tells (told (λ page. page_text page.events) page_problem answer) close reply

-- ---- any request

abbrev pub AnswersAsk : {D : Type 0} → Ghosts D → ℕ → ℕ → Bool → Ask → View D → View D → Reply → Type 0
AnswersAsk of salt now close (Submit load) old new reply = Submits of salt load now close old new reply
AnswersAsk of salt now close (Cancel id) old new reply = Cancels of id now close old new reply
AnswersAsk of salt now close (Listing limit queued) old new reply = Lists of limit queued close old new reply
AnswersAsk of salt now close (Show id details errors) old new reply = Shows of id details errors close old new reply
AnswersAsk of salt now close (Paged ask) old new reply = Pages of ask close old new reply

-- A request that is refused leaves the engine alone.
abbrev pub AnswersAsked : {D : Type 0} → Ghosts D → ℕ → ℕ → Bool → Result Ask Problem → View D → View D → Reply → Type 0
AnswersAsked of salt now close (Ok ask) old new reply = AnswersAsk of salt now close ask old new reply
AnswersAsked of salt now close (Err problem) old new reply = (new ≡ old) × Tells (Some (Err problem)) close reply

-- What the request asks for was done and told, or no memory was there and nothing was done. `now` is the
-- value that the clock gave last.
abbrev pub Answered : {D : Type 0} → Ghosts D → ℕ → ℕ → Request → View D → View D → Reply → Type 0
Answered of salt now request old new reply =
    ((new ≡ old) × (reply ≡ MemoryOut)) ⊎ ((asked : Result Ask Problem) × Asks request asked × AnswersAsked of salt now request.close asked old new reply)
