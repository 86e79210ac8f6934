use Rattle.std.proofs.Common.{◌≡◌, take}
use Rattle.bl_files.proofs.found.copy_found.Given as goal

abbrev pub invariant-loop-file : goal.invariant-loop-file
invariant-loop-file l = l.copy ≡ take l.file-index l.file-items
