-- Turns after turns.
use Rattle.std.proofs.Common.{◌≡◌, ◌≢◌, ◌⊎◌, inl, inr, ⊎_elim, ℕ, ◌+◌, ◌-◌, ◌<◌, ◌≤◌, ◌^◌, Bool, true, false, cond, None, Some, Err, refl, sym, ◌∙◌, ap, subst, arith}
use Rattle.std.specs.Prelude.{Result}
use Rattle.std.specs.declared.option.Option.{Option}
use Rattle.bl_outside.specs.declared.disk.Disk.{Ghosts}
use Rattle.bl_engine.specs.declared.refusals.Trouble.{Trouble}
use Rattle.bl_engine.specs.declared.turned.Turned.{Turned}
use Rattle.bl_engine.specs.declared.turned.Turned.TheVariants.{Ended, Idle, Planned, Rows}
use Rattle.bl_engine.specs.Calls.{Handles}
use Rattle.bl_engine.specs.Engines.{View}
use Rattle.bl_engine.proofs.Composed.{handles_after}
use Rattle.bl_load.specs.declared.turn_fault.TurnFault.{TurnFault}
use Rattle.bl_load.specs.SameJobs.{HasSameJobs}
use Rattle.bl_load.specs.Turns.{CountsUp}
use Rattle.bl_load.proofs.SameJobs.{same_then}

none_some : {P : Type 0} (what : Trouble) → None ≡ Some what → P
none_some what is = cc

pub handles_none : {D : Type 0} (of : Ghosts D) (engine : View D) → Handles of engine engine None
handles_none of engine = record {
  left = refl;
  right = refl;
  sound = ((λ x. x), λ x. x);
  later = omega arith;
  store = λ is. none_some _ is;
  bad = λ place is. none_some _ is;
}

abbrev not_drained : TurnFault → Result (Unit {0}) TurnFault
not_drained fault = Err fault

pub same_fault : (a b : TurnFault) → not_drained a ≡ not_drained b → a ≡ b
same_fault a b is = cc

abbrev pub not_turned : TurnFault → Result Turned TurnFault
not_turned fault = Err fault

-- no turn was made yet, or the engine is ready
abbrev pub IsBegun : {D : Type 0} → View D → View D → Type 0
IsBegun old mid = (mid ≡ old) ⊎ (mid.ready ≡ true)

pub handles_on : {D : Type 0} (of : Ghosts D) (old mid new : View D) (trouble : Option Trouble) → IsBegun old mid → Handles of old mid None → Handles of mid new trouble → Handles of old new trouble
handles_on of old mid new trouble (inl same) first second = subst (λ v. Handles of v new trouble) same second
handles_on of old mid new trouble (inr ready) first second = handles_after of old mid new trouble ready first second

pub keeps_on : {D : Type 0} (old mid new : View D) → IsBegun old mid → (old.ready ≡ true → HasSameJobs old.world.kept mid.world.kept) → (mid.ready ≡ true → HasSameJobs mid.world.kept new.world.kept) → old.ready ≡ true → HasSameJobs old.world.kept new.world.kept
keeps_on {D} old mid new begun first second was = same_then old.world.kept mid.world.kept new.world.kept (first was) (second (⊎_elim (λ same. ap (λ (v : View D). v.ready) same ∙ was) (λ ready. ready) begun))

-- ---- how many turns there may be

-- of a closed engine more than of any ready one
abbrev pub turns_left : Bool → ℕ → ℕ
turns_left true entries = 2 ^ 40 - entries
turns_left false entries = 2 ^ 40 + 1

-- it is ready then
pub ready_after : {D : Type 0} (old new : View D) (told : Turned) → CountsUp old new told → new.ready ≡ true
ready_after old new Idle counts = counts.0
ready_after old new Planned counts = counts.0
ready_after old new (Rows n) counts = counts.0
ready_after old new (Ended status) counts = counts.0
