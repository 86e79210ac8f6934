-- How refusals are told.
use Rattle.std.proofs.Common.{◌≡◌, ◌≢◌, ℕ, Some, None, Ok, Err, true, false, refl, sym, subst}
use Rattle.std.specs.Prelude.{Result}
use Rattle.bl_files.specs.declared.load_request.LoadRequest.{LoadRequest}
use Rattle.bl_queue.specs.Checks.{refusal}
use Rattle.bl_queue.specs.declared.check_refusal.CheckRefusal.{CheckRefusal}
use Rattle.bl_queue.specs.declared.check_refusal.CheckRefusal.TheVariants.{TooManyDependencies, UnknownDependency, Busy, QueueFull, NumbersUsedUp}
use Rattle.bl_journal.specs.declared.refusal.AppendRefusal.{AppendRefusal}
use Rattle.bl_journal.specs.declared.refusal.AppendRefusal.TheVariants.{NoMemory, Full as full, StoreFault}
use Rattle.bl_world.specs.Worlds.{World}
use Rattle.bl_world.specs.declared.work.Work.{Work}
use Rattle.bl_outside.specs.declared.disk.Disk.{Ghosts}
use Rattle.bl_entry.specs.declared.entry.Entry.{Entry}
use Rattle.bl_engine.specs.declared.refusals.TurnRefusal.{TurnRefusal}
use Rattle.bl_engine.specs.declared.turned.Turned.{Turned}
use Rattle.bl_engine.specs.Attempts.{Attempts}
use Rattle.bl_engine.specs.Engines.{View}
use Rattle.bl_engine.specs.Outcomes.{Done, Outcome, Refused, cancel_outcome, submit_outcome, submit_refusal, turn_outcome}
use Rattle.bl_engine.specs.Appending.{cancel_refused, refused_outcome, submit_refused, turn_refused}
use Rattle.bl_engine.specs.Findings.{CancelFinds, HasUnended, IsStillNext, SubmitFinds, Tells, TurnFinds, turned_by}

-- ---- a load isn't taken on

pub check_is_refused : (check : CheckRefusal) → submit_outcome (Err (submit_refusal check)) ≡ Refused
check_is_refused TooManyDependencies = refl
check_is_refused (UnknownDependency place) = refl
check_is_refused (Busy id) = refl
check_is_refused QueueFull = refl
check_is_refused NumbersUsedUp = refl

pub check_finds : (salt : ℕ) (request : LoadRequest) (world : World) (check : CheckRefusal) → refusal world.kept request ≡ Some check → SubmitFinds salt request (Err (submit_refusal check)) world
check_finds salt request world TooManyDependencies is = is
check_finds salt request world (UnknownDependency place) is = is
check_finds salt request world (Busy id) is = is
check_finds salt request world QueueFull is = is
check_finds salt request world NumbersUsedUp is = is

-- ---- the append is refused

pub submit_append : (append : AppendRefusal) → submit_outcome (Err (submit_refused append)) ≡ refused_outcome append
submit_append NoMemory = refl
submit_append full = refl
submit_append StoreFault = refl

pub submit_append_finds : (salt : ℕ) (request : LoadRequest) (world : World) (append : AppendRefusal) → refusal world.kept request ≡ None → SubmitFinds salt request (Err (submit_refused append)) world
submit_append_finds salt request world NoMemory is = is
submit_append_finds salt request world full is = is
submit_append_finds salt request world StoreFault is = is

pub cancel_append : (append : AppendRefusal) → cancel_outcome (Err (cancel_refused append)) ≡ refused_outcome append
cancel_append NoMemory = refl
cancel_append full = refl
cancel_append StoreFault = refl

pub cancel_append_finds : (id : ℕ) (world : World) (append : AppendRefusal) → HasUnended id world → CancelFinds id (Err (cancel_refused append)) world
cancel_append_finds id world NoMemory is = is
cancel_append_finds id world full is = is
cancel_append_finds id world StoreFault is = is

pub turn_append : (append : AppendRefusal) → turn_outcome (Err (turn_refused append)) ≡ refused_outcome append
turn_append NoMemory = refl
turn_append full = refl
turn_append StoreFault = refl

pub turn_append_finds : (work : Work) (world : World) (append : AppendRefusal) → IsStillNext work world → TurnFinds work (Err (turn_refused append)) world
turn_append_finds work world NoMemory is = is
turn_append_finds work world full is = is
turn_append_finds work world StoreFault is = is

-- a failed append is no refusal over the world
pub append_not_refused : {P : Type 0} (append : AppendRefusal) → refused_outcome append ≡ Refused → P
append_not_refused NoMemory is = cc
append_not_refused full is = cc
append_not_refused StoreFault is = cc

-- ---- the calls of the loader

module _ {D : Type 0} (of : Ghosts D) (made : Work → World → Entry → Type 0) (work arm : Work) (same : work ≡ arm) (old new : View D) where
  pub turn_failed : (append : AppendRefusal) (r : Result Turned TurnRefusal) → r ≡ Err (turn_refused append) → Attempts of (made arm) old new (refused_outcome append) → Attempts of (Tells (made work) r) old new (turn_outcome r)
  turn_failed append r is a =
      subst (λ (x : Result Turned TurnRefusal). Attempts of (Tells (made work) x) old new (turn_outcome x)) (sym is)
      (subst (λ o. Attempts of (made work) old new o) (sym (turn_append append)) (subst (λ w. Attempts of (made w) old new (refused_outcome append)) (sym same) a))

  pub turn_done : (told : Turned) → Attempts of (λ world entry. made arm world entry × (told ≡ turned_by entry)) old new Done → Attempts of (λ world entry. made work world entry × (told ≡ turned_by entry)) old new Done
  turn_done told a = subst (λ w. Attempts of (λ world entry. made w world entry × (told ≡ turned_by entry)) old new Done) (sym same) a
