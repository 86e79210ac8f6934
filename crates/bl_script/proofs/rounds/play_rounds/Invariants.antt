use Rattle.std.proofs.Common.{◌≡◌, ◌≤◌, ◌+◌, ◌-◌, Some, length}
use Rattle.bl_outside.specs.Folders.{Files}
use Rattle.bl_http.specs.Buffers.{IsWithin, input_limit}
use Rattle.bl_load.specs.OpenFiles.{IsFresh}
use Rattle.bl_script.specs.PlayedRounds.{HaveGone, place_of}
use Rattle.bl_script.proofs.rounds.play_rounds.Given as goal

-- the rounds so far
abbrev pub invariant-loop-step : goal.invariant-loop-step
invariant-loop-step g l = record {
  gone :
      HaveGone g.D.Disk l.initial.desk.salt l.most (g.F.Folder.files l.initial.folder)
      (place_of l.initial.desk.engine (g.F.Folder.faults l.initial.folder) l.initial.buffer (g.S.Source.left l.initial.input) (g.O.Sink.written l.initial.out))
      (place_of l.desk.engine (g.F.Folder.faults l.folder) l.buffer (g.S.Source.left l.input) (g.O.Sink.written l.out)) l.first;
  salt : l.desk.salt ≡ l.initial.desk.salt;
  within : IsWithin l.buffer;
  fresh : (files : Files) → g.F.Folder.files l.folder ≡ Some files → IsFresh files l.held;
  files : g.F.Folder.files l.folder ≡ g.F.Folder.files l.initial.folder;
  later : g.F.Folder.faults l.initial.folder ≤ g.F.Folder.faults l.folder;
  reads_on : g.S.Source.faults l.initial.input ≤ g.S.Source.faults l.input;
  writes_on : g.O.Sink.faults l.initial.out ≤ g.O.Sink.faults l.out;
}

-- each request uses bytes of the input up, of which there are so many at most
abbrev pub decreases-loop-step : goal.decreases-loop-step
decreases-loop-step g l = (input_limit + length l.buffer.bytes) - l.buffer.taken
