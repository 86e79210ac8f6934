use Rattle.std.proofs.Common.{◌≡◌, take}
use Rattle.std.specs.Prelude.{All, map}
use Rattle.bl_entry.specs.Valid.{IsLog}
use Rattle.bl_job.specs.Joined.{behind}
use Rattle.bl_world.proofs.taking_rows.logs_behind.Given as goal

abbrev pub invariant-loop-log : goal.invariant-loop-log
invariant-loop-log l = record {
  are : l.all ≡ map (behind l.from) (take l.log-index l.logs);
  valid : All IsLog l.all;
}
