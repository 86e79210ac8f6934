use Rattle.std.proofs.Common.{◌≡◌, map, take, Some}
use Rattle.bl_header.specs.FirstFaults.{use_in, IsCleanBefore}
use Rattle.bl_header.proofs.column.read_columns.Given as goal

abbrev pub invariant-loop-place : goal.invariant-loop-place
invariant-loop-place l = record {
  uses : map Some l.uses ≡ map (use_in l.side) (take l.place l.fields);
  clean : IsCleanBefore l.side l.fields l.place;
}
