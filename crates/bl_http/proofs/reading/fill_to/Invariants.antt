use Rattle.std.proofs.Common.{◌≤◌, ◌-◌, length}
use Rattle.bl_http.specs.Buffers.{Moves}
use Rattle.bl_http.proofs.reading.fill_to.Given as goal

abbrev pub invariant-loop-buffer : goal.invariant-loop-buffer
invariant-loop-buffer g l = record {
  moves : Moves (g.S.Source.left l.fn.source) (g.S.Source.left l.source) l.fn.buffer l.buffer;
  later : g.S.Source.faults l.fn.source ≤ g.S.Source.faults l.source;
}

abbrev pub decreases-loop-buffer : goal.decreases-loop-buffer
decreases-loop-buffer g l = l.size - length l.buffer.bytes
