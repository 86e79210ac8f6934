use Rattle.std.proofs.Common.{◌≡◌, ◌≤◌, Some}
use Rattle.bl_outside.specs.Folders.{Files}
use Rattle.bl_load.specs.OpenFiles.{IsFresh}
use Rattle.bl_script.proofs.MadeTurns.{HaveGoneOn}
use Rattle.bl_script.proofs.turns.make_turns.Given as goal

-- the turns so far
abbrev pub invariant-loop : goal.invariant-loop
invariant-loop g l = record {
  gone : HaveGoneOn g.D.Disk (g.F.Folder.files l.initial.folder) l.initial.engine (g.F.Folder.faults l.initial.folder) l.engine (g.F.Folder.faults l.folder) l.counter;
  fresh : (files : Files) → g.F.Folder.files l.folder ≡ Some files → IsFresh files l.held;
  files : g.F.Folder.files l.folder ≡ g.F.Folder.files l.initial.folder;
  later : g.F.Folder.faults l.initial.folder ≤ g.F.Folder.faults l.folder;
}
