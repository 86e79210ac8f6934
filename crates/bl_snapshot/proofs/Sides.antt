-- What is said of the slot at work is said of the left one or of the right one.
use Rattle.std.proofs.Common.{◌≡◌, true, false, cond, sym, subst}
use Rattle.std.specs.declared.option.Option.{Option}
use Rattle.bl_outside.specs.declared.disk.Disk.{Ghosts}
use Rattle.bl_outside.specs.Sound.{Since}
use Rattle.bl_snapshot.specs.SlotFiles.{ClosedOr}
use Rattle.bl_snapshot.specs.TwoSlots.{SlotsRecord, is_left, at_work, Holds}
use Rattle.bl_snapshot.specs.declared.snapshot.Snapshot.{Snapshot}

module _ {D : Type 0} (of : Ghosts D) (old now s : SlotsRecord D) (is : s ≡ old) where
  -- from one disk to another each image is closed, or holds what was held
  abbrev Keeps : D → D → Type 0
  Keeps first last = (found : Option Snapshot) → Holds of first found → Since of first last (ClosedOr found)

  pub closes_left : is_left s ≡ true → Keeps s.left now.left → Keeps (at_work old old) (at_work old now)
  closes_left side run = subst (λ t. Keeps (at_work t t) (at_work t now)) is (subst (λ b. Keeps (cond b s.left s.right) (cond b now.left now.right)) (sym side) run)

  pub closes_right : is_left s ≡ false → Keeps s.right now.right → Keeps (at_work old old) (at_work old now)
  closes_right side run = subst (λ t. Keeps (at_work t t) (at_work t now)) is (subst (λ b. Keeps (cond b s.left s.right) (cond b now.left now.right)) (sym side) run)
