-- How the calls end, in words that they share.
use Rattle.std.specs.Prelude.{ℕ, None, Some, Result, Ok, Err}
use Rattle.std.specs.declared.option.Option.{Option}
use Rattle.bl_queue.specs.declared.check_refusal.CheckRefusal.{CheckRefusal}
use Rattle.bl_queue.specs.declared.check_refusal.CheckRefusal.TheVariants as check
use Rattle.bl_queue.specs.declared.job.Job.{Job}
use Rattle.bl_engine.specs.declared.refusals.Trouble.{Trouble}
use Rattle.bl_engine.specs.declared.refusals.Trouble.TheVariants as trouble
use Rattle.bl_engine.specs.declared.refusals.SubmitRefusal.{SubmitRefusal}
use Rattle.bl_engine.specs.declared.refusals.SubmitRefusal.TheVariants as submit
use Rattle.bl_engine.specs.declared.refusals.CancelRefusal.{CancelRefusal}
use Rattle.bl_engine.specs.declared.refusals.CancelRefusal.TheVariants as cancel
use Rattle.bl_engine.specs.declared.refusals.ViewRefusal.{ViewRefusal}
use Rattle.bl_engine.specs.declared.refusals.ViewRefusal.TheVariants as view
use Rattle.bl_engine.specs.declared.refusals.TurnRefusal.{TurnRefusal}
use Rattle.bl_engine.specs.declared.refusals.TurnRefusal.TheVariants as turn
use Rattle.bl_engine.specs.declared.turned.Turned.{Turned}

-- how a call ends that appends: done, refused over the world, the journal full, or in a trouble
pub data Outcome : Type 0 where
  Done : Outcome
  Refused : Outcome
  Full : Outcome
  Stopped : Trouble → Outcome

abbrev pub trouble_in : Outcome → Option Trouble
trouble_in Done = None
trouble_in Refused = None
trouble_in Full = None
trouble_in (Stopped what) = Some what

abbrev pub submit_outcome : Result ℕ SubmitRefusal → Outcome
submit_outcome (Ok id) = Done
submit_outcome (Err submit.TooManyDependencies) = Refused
submit_outcome (Err (submit.UnknownDependency place)) = Refused
submit_outcome (Err (submit.Busy id)) = Refused
submit_outcome (Err submit.QueueFull) = Refused
submit_outcome (Err submit.NumbersUsedUp) = Refused
submit_outcome (Err submit.JournalFull) = Full
submit_outcome (Err submit.StoreFault) = Stopped trouble.StoreFault
submit_outcome (Err (submit.BadStore place)) = Stopped (trouble.BadStore place)
submit_outcome (Err submit.NoMemory) = Stopped trouble.NoMemory

abbrev pub cancel_outcome : Result (Unit {0}) CancelRefusal → Outcome
cancel_outcome (Ok done) = Done
cancel_outcome (Err cancel.Unknown) = Refused
cancel_outcome (Err (cancel.Ended status)) = Refused
cancel_outcome (Err cancel.JournalFull) = Full
cancel_outcome (Err cancel.StoreFault) = Stopped trouble.StoreFault
cancel_outcome (Err (cancel.BadStore place)) = Stopped (trouble.BadStore place)
cancel_outcome (Err cancel.NoMemory) = Stopped trouble.NoMemory

abbrev pub turn_outcome : Result Turned TurnRefusal → Outcome
turn_outcome (Ok turned) = Done
turn_outcome (Err (turn.Stale work)) = Refused
turn_outcome (Err turn.JournalFull) = Full
turn_outcome (Err turn.StoreFault) = Stopped trouble.StoreFault
turn_outcome (Err (turn.BadStore place)) = Stopped (trouble.BadStore place)
turn_outcome (Err turn.NoMemory) = Stopped trouble.NoMemory

-- the trouble that a view answers
abbrev pub view_trouble : Result Job ViewRefusal → Option Trouble
view_trouble (Ok job) = None
view_trouble (Err view.Unknown) = None
view_trouble (Err view.StoreFault) = Some trouble.StoreFault
view_trouble (Err (view.BadStore place)) = Some (trouble.BadStore place)
view_trouble (Err view.NoMemory) = Some trouble.NoMemory

-- the refusal of a load that isn't taken on
abbrev pub submit_refusal : CheckRefusal → SubmitRefusal
submit_refusal check.TooManyDependencies = submit.TooManyDependencies
submit_refusal (check.UnknownDependency place) = submit.UnknownDependency place
submit_refusal (check.Busy id) = submit.Busy id
submit_refusal check.QueueFull = submit.QueueFull
submit_refusal check.NumbersUsedUp = submit.NumbersUsedUp
