use Rattle.std.proofs.Common.{◌≡◌, ◌-◌, ◌≤◌, take, drop}
use Rattle.std.specs.List.{list_all}
use Rattle.bl_files.specs.Sources.{is_part, parts, parts_from}
use Rattle.bl_files.proofs.source.has_parts.Given as goal

abbrev pub invariant-loop-i : goal.invariant-loop-i
invariant-loop-i l = record {
  before : l.start ≤ l.i;
  same : list_all is_part (parts_from (take (l.i - l.start) (drop l.start l.text)) (drop l.i l.text)) ≡ list_all is_part (parts l.text);
}
