use Rattle.std.proofs.Common.{◌≡◌, ◌≤◌, None, Some, true}
use Rattle.bl_outside.specs.Folders.{Files}
use Rattle.bl_world.specs.States.{State}
use Rattle.bl_engine.specs.Calls.{Handles}
use Rattle.bl_engine.specs.Engines.{Stays}
use Rattle.bl_load.specs.OpenFiles.{IsFresh}
use Rattle.bl_load.specs.SameJobs.{HasSameJobs}
use Rattle.bl_load.specs.Turns.{DrainsAnyhow, DrainsOver}
use Rattle.bl_load.proofs.Drains.{IsBegun, turns_left}
use Rattle.bl_load.proofs.turning.drain.Given as goal

-- what the turns before have done
abbrev pub invariant-loop : goal.invariant-loop
invariant-loop g l = record {
  made : (files : Files) → g.F.Folder.files l.initial.folder ≡ Some files → IsFresh files l.initial.held → (state : State) → Stays g.D.Disk l.initial.engine state → DrainsOver g.D.Disk files l.initial.engine l.engine state;
  anyhow : (state : State) → Stays g.D.Disk l.initial.engine state → DrainsAnyhow g.D.Disk l.initial.engine l.engine state;
  fresh : (files : Files) → g.F.Folder.files l.initial.folder ≡ Some files → IsFresh files l.initial.held → IsFresh files l.held;
  files : g.F.Folder.files l.folder ≡ g.F.Folder.files l.initial.folder;
  later : g.F.Folder.faults l.initial.folder ≤ g.F.Folder.faults l.folder;
  handles : Handles g.D.Disk l.initial.engine l.engine None;
  keeps : l.initial.engine.ready ≡ true → HasSameJobs l.initial.engine.world.kept l.engine.world.kept;
  begun : IsBegun l.initial.engine l.engine;
}

abbrev pub decreases-loop : goal.decreases-loop
decreases-loop g l = turns_left l.engine.ready l.engine.world.entries
