-- Counts of faults, and the cause of an answer.
use Rattle.std.specs.Prelude.{◌≡◌, ◌⊎◌, ℕ, ◌+◌, ◌-◌, ◌^◌, ◌≤◌, min, Result, OnErr, IsErrOf}
use Rattle.bl_outside.specs.declared.refusals.Failed.{Failed}
use Rattle.bl_outside.specs.declared.refusals.Outside.{Outside}
use Rattle.bl_outside.specs.declared.refusals.Outside.TheVariants.{Failed as device_failed}

-- A count has risen. One that stands at its end, which no run reaches, counts as risen.
abbrev pub Rose : ℕ → ℕ → Type 0
Rose before now = min (before + 1) (2 ^ 64 - 1) ≤ now

-- a count, one higher, or the greatest that there is
abbrev pub one_more : ℕ → ℕ
one_more count = min (count + 1) (2 ^ 64 - 1)

-- a clock was read once, or not at all
abbrev pub IsReadOnce : ℕ → ℕ → Type 0
IsReadOnce before now = (now ≡ before) ⊎ (now ≡ one_more before)

-- A count never falls, and rises where the call failed.
pub record HasCause {T : Type 0} (before now : ℕ) (result : Result T Failed) : Type 0 where
  pub later : before ≤ now
  pub failed : OnErr result (Rose before now)

-- The same of a call that may also run out of memory.
pub record HasDeviceCause {T : Type 0} (before now : ℕ) (result : Result T Outside) : Type 0 where
  pub later : before ≤ now
  pub failed : IsErrOf result device_failed → Rose before now
