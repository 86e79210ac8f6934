-- A told content, and the one image of a settled disk.
use Rattle.std.proofs.Common.{◌≡◌, ◌↔◌, ℕ, true, is_some, List, Some, None, refl, sym, ◌∙◌, ap, subst}
use Rattle.std.specs.declared.option.Option.{Option}
use Rattle.std.proofs.lemmas.Bool.{false≢true}
use Rattle.bl_outside.specs.Disks.{OnlySeen, StepsTold, OfContent}
use Rattle.bl_outside.specs.declared.disk.Disk.{Ghosts}
use Rattle.bl_journal.specs.Frames.{Found, prefixed, frames, HasFrames}
use Rattle.bl_journal.specs.Journals.{JournalRecord, IsSound, IsSettled, Ends, SeesFrames}
use Rattle.bl_journal.proofs.Reaching.{prefix_none}
pub use Rattle.bl_outside.proofs.Told.{content_told, of_told, only_told, told_written, settled_after, sound_after}

pub sees_told : (seen : Option (List ℕ)) (content : List ℕ) (all : Found) → seen ≡ Some content → frames content ≡ all → SeesFrames seen all
sees_told seen content all told is = subst (λ o. SeesFrames o all) (sym told) is

module _ {D : Type 0} (of : Ghosts D) where
  -- at the end of a settled journal each image has just its frames
  pub ends_has : (journal : JournalRecord D) (bodies : List (List ℕ)) (e : Ends of journal bodies) → (c : List ℕ) → of.may_leave journal.disk c → HasFrames c bodies
  ends_has journal bodies e c now =
      ap frames (only_told (of.seen journal.disk) e.stands.content (of.may_leave journal.disk) e.stands.told e.settled.only c now)
      ∙ e.stands.reaches.own ∙ ap (λ (m : Found). prefixed bodies m) (sym e.stands.rest) ∙ prefix_none bodies

  -- a call that leaves told and honest alone, and a write behind it, keep a disk sound
  pub sound_written : (old mid new : D) → of.seen mid ≡ of.seen old → (of.honest mid ↔ of.honest old) → is_some (of.seen new) ≡ is_some (of.seen mid) → (of.honest new ↔ of.honest mid) → (IsSound of old ↔ IsSound of new)
  sound_written old mid new seen honest told again = (
    λ s. record { honest = again.1 (honest.1 s.honest); told = told ∙ ap is_some seen ∙ s.told },
    λ s. record { honest = honest.0 (again.0 s.honest); told = sym (told ∙ ap is_some seen) ∙ s.told },
  )
