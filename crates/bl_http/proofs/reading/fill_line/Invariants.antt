use Rattle.std.proofs.Common.{◌≡◌, ◌≤◌, ◌-◌, ◌⊎◌, ◌<◌, length}
use Rattle.bl_http.specs.Buffers.{IsWithin, Moves}
use Rattle.bl_http.proofs.reading.fill_line.Given as goal

abbrev pub invariant-loop-held : goal.invariant-loop-held
invariant-loop-held g l = record {
  moves : Moves (g.S.Source.left l.fn.source) (g.S.Source.left l.source) l.fn.buffer l.buffer;
  held : l.held ≡ length l.buffer.bytes;
  grows : (l.held < 16384) ⊎ (length l.fn.buffer.bytes < length l.buffer.bytes);
  within : IsWithin l.buffer;
  later : g.S.Source.faults l.fn.source ≤ g.S.Source.faults l.source;
}

abbrev pub decreases-loop-held : goal.decreases-loop-held
decreases-loop-held g l = 16384 - l.held
