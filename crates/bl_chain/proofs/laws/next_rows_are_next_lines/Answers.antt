use Rattle.bl_chain.proofs.Positions.{more_lines}
use Rattle.bl_chain.proofs.laws.next_rows_are_next_lines.Goals as goal

pub returns : goal.returns
returns c = more_lines
