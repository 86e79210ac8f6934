use Rattle.std.proofs.Common.{◌≤◌, ◌-◌, length}
use Rattle.bl_http.specs.Buffers.{Moves}
use Rattle.bl_http.proofs.reading.read_head.Given as goal

abbrev pub invariant-loop-found : goal.invariant-loop-found
invariant-loop-found g l = record {
  moves : Moves (g.S.Source.left l.fn.source) (g.S.Source.left l.source) l.fn.buffer l.buffer;
  later : g.S.Source.faults l.fn.source ≤ g.S.Source.faults l.source;
}

abbrev pub decreases-loop-found : goal.decreases-loop-found
decreases-loop-found g l = 16384 - length l.buffer.bytes
