use Rattle.std.proofs.Common.{◌≡◌, ◌+◌, drop}
use Rattle.bl_rows.specs.SystemCells.{gather, gathered}
use Rattle.bl_rows.proofs.system_cells.system_cells.Given as goal

-- the columns from here on were gathered
abbrev pub invariant-loop-i : goal.invariant-loop-i
invariant-loop-i l = gathered l.cells ≡ gather l.side (l.i + 1) (drop l.i l.uses) (drop l.i l.fields)
