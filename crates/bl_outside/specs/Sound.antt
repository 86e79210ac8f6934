-- A disk that is trusted, and what a run of calls may have left of it.
use Rattle.std.specs.Prelude.{◌≡◌, ℕ, true, is_some, List}
use Rattle.bl_outside.specs.Disks.{LeavesOnly, OnlySeen}
use Rattle.bl_outside.specs.declared.disk.Disk.{Ghosts}

-- a disk that keeps the disk model and tells its content
pub record IsSound {D : Type 0} (of : Ghosts D) (disk : D) : Type 0 where
  pub honest : of.honest disk
  pub told : is_some (of.seen disk) ≡ true

-- an honest disk with nothing pending: a crash now leaves what reads see
pub record IsSettled {D : Type 0} (of : Ghosts D) (disk : D) : Type 0 where
  pub honest : of.honest disk
  pub only : OnlySeen (of.seen disk) (of.may_leave disk)

-- every image of every moment from the first disk to the second has P
abbrev pub Since : {D : Type 0} → Ghosts D → D → D → (List ℕ → Type 0) → Type 0
Since of old new P = LeavesOnly of.moment of.left_since old new P
