use Rattle.std.proofs.Common.{◌≤◌, ◌-◌, length}
use Rattle.bl_http.specs.Buffers.{IsWithin, input_limit}
use Rattle.bl_http.proofs.InputLemmas.{Reading}
use Rattle.bl_http.proofs.reading.read_requests.Given as goal

abbrev pub invariant-loop-requests : goal.invariant-loop-requests
invariant-loop-requests g l = record {
  reading : Reading (g.S.Source.left l.fn.source) (g.S.Source.left l.source) l.buffer l.requests;
  within : IsWithin l.buffer;
  later : g.S.Source.faults l.fn.source ≤ g.S.Source.faults l.source;
}

abbrev pub decreases-loop-requests : goal.decreases-loop-requests
decreases-loop-requests g l = input_limit - (l.buffer.taken - length l.buffer.bytes)
