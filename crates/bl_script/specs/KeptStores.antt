-- What is left of a store whatever was done.
use Rattle.std.specs.Prelude.{◌≡◌, ◌↔◌, ◌≤◌}
use Rattle.bl_outside.specs.declared.disk.Disk.{Ghosts}
use Rattle.bl_journal.specs.Journals.{IsSound}
use Rattle.bl_engine.specs.Engines.{View}

-- The slots are left alone, the journal's disk keeps its model or never kept it, and its count of faults doesn't fall.
pub record IsKept {D : Type 0} (of : Ghosts D) (old new : View D) : Type 0 where
  pub left : new.left ≡ old.left
  pub right : new.right ≡ old.right
  pub sound : IsSound of old.journal.disk ↔ IsSound of new.journal.disk
  pub later : of.faults old.journal.disk ≤ of.faults new.journal.disk
