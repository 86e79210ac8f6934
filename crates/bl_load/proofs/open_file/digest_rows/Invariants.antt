use Rattle.std.proofs.Common.{◌≡◌, ◌+◌, ◌++◌, drop, length}
use Rattle.bl_load.specs.Gathering.{digest_rows}
use Rattle.bl_load.proofs.open_file.digest_rows.Given as goal

-- these, and then the rows that are left with the digests that are left
abbrev pub invariant-loop-row : goal.invariant-loop-row
invariant-loop-row l = record {
  whole : digest_rows l.fn.rows l.digests ≡ l.them ++ digest_rows l.left.rest.items (drop (length l.them) l.digests);
  count : length l.left.rest.items + length l.them ≡ length l.digests;
}

abbrev pub decreases-loop-row : goal.decreases-loop-row
decreases-loop-row l = length l.left.rest.items
