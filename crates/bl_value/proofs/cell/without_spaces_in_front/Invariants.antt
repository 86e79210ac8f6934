use Rattle.std.proofs.Common.{◌≡◌, length}
use Rattle.bl_value.specs.Cells.{without_spaces_in_front}
use Rattle.bl_value.proofs.cell.without_spaces_in_front.Given as goal

abbrev pub invariant-loop-rest : goal.invariant-loop-rest
invariant-loop-rest l = without_spaces_in_front l.rest ≡ without_spaces_in_front l.cell

abbrev pub decreases-loop-rest : goal.decreases-loop-rest
decreases-loop-rest l = length l.rest
