use Rattle.std.proofs.Common.{◌≡◌, false}
use Rattle.bl_chain.specs.BatchSizes.{is_full}
use Rattle.bl_load.proofs.Batches.{Cuts}
use Rattle.bl_load.proofs.batch_rows.batch_rows.Given as goal

-- what was taken so far isn't full, and behind it comes the rest of the batch
abbrev pub invariant-loop-i : goal.invariant-loop-i
invariant-loop-i l = record { room : is_full l.size ≡ false; count : l.size.rows ≡ l.i; cuts : Cuts l.rows l.sizes l.i l.size }
