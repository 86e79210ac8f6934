use Rattle.std.proofs.Common.{◌≡◌, ◌≤◌, Some, take}
use Rattle.std.specs.List.{AllZip}
use Rattle.bl_outside.specs.Folders.{Files}
use Rattle.bl_load.specs.Finding.{AreAllThere, IsFoundAt}
use Rattle.bl_load.proofs.FoundNames.{AreFoundSoFar}
use Rattle.bl_load.proofs.planning.find_all.Given as goal

-- what was found of the names before
abbrev pub invariant-loop-name : goal.invariant-loop-name
invariant-loop-name g l = record {
  so_far : AreFoundSoFar l.names l.name-index l.found;
  files : g.F.Folder.files l.folder ≡ g.F.Folder.files l.initial.folder;
  later : g.F.Folder.faults l.initial.folder ≤ g.F.Folder.faults l.folder;
  told : (files : Files) → g.F.Folder.files l.initial.folder ≡ Some files → AreAllThere files l.source l.names → AllZip (IsFoundAt files l.source l.previous) (take l.name-index l.names) l.found;
}
