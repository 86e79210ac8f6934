use Rattle.std.proofs.Common.{◌≡◌, ◌≤◌, ◌-◌, ℕ, Option, None, Some, List, [], length, take}
use Rattle.std.specs.FinMap.{get}
use Rattle.bl_outside.specs.Folders.{Files}
use Rattle.bl_rows.proofs.file.read_file.Given as goal

-- this was read of a content, and nothing where there is none
abbrev pub IsFrontOf : Option (List ℕ) → List ℕ → Type 0
IsFrontOf None read = read ≡ []
IsFrontOf (Some bytes) read = (length read ≤ length bytes) × (read ≡ take (length read) bytes)

-- the same of the file at a path, where the files are told
abbrev pub IsFront : Option Files → List ℕ → List ℕ → Type 0
IsFront None path read = Unit {0}
IsFront (Some files) path read = IsFrontOf (get files path) read

-- a front of the file was read
abbrev pub invariant-loop-folder : goal.invariant-loop-folder
invariant-loop-folder g l = record {
  files : g.F.Folder.files l.folder ≡ g.F.Folder.files l.fn.folder;
  later : g.F.Folder.faults l.fn.folder ≤ g.F.Folder.faults l.folder;
  front : IsFront (g.F.Folder.files l.fn.folder) l.path l.bytes;
  small : length l.bytes ≤ 269484032;
}

abbrev pub decreases-loop-folder : goal.decreases-loop-folder
decreases-loop-folder g l = 269484032 - length l.bytes
