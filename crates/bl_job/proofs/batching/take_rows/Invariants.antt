use Rattle.std.proofs.Common.{◌≡◌, drop, None}
use Rattle.bl_job.specs.Batches.{batch, so_far, take_rows}
use Rattle.bl_job.proofs.Sound.{IsSound}
use Rattle.bl_job.proofs.batching.take_rows.Given as goal

-- what is taken, and then the rows that are left, is the batch of all rows
abbrev pub invariant-loop-row : goal.invariant-loop-row
invariant-loop-row l = record {
  left : take_rows l.request (so_far l.graph l.made) (drop l.row-index l.row-items) ≡ batch l.request l.initial.graph l.row-items;
  going : l.made.stop ≡ None;
  rows : l.made.rows ≡ l.row-index;
  sound : IsSound l.initial.graph l.request.fail_on_error (so_far l.graph l.made);
}
