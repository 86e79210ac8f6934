use Rattle.bl_http.proofs.BufferLemmas.{moves_more}
use Rattle.bl_http.proofs.reading.read_head.Goals as goal

pub returns-then-not-branch-clause-moves : goal.returns-then-not-branch-clause-moves
returns-then-not-branch-clause-moves g c = moves_more _ _ _ _ _ _ c.loop-found.invariant.moves c.fill_line.ensures.moves
