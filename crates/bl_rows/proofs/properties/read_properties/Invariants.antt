use Rattle.std.proofs.Common.{◌≡◌, ◌+◌, ◌++◌, drop}
use Rattle.std.specs.List.{All}
use Rattle.bl_rows.specs.FirstFaults.{first_told, refused_code}
use Rattle.bl_rows.specs.Rows.{properties_from}
use Rattle.bl_value.specs.ValidRows.{HasValues}
use Rattle.bl_rows.proofs.properties.read_properties.Given as goal

abbrev pub invariant-loop-i : goal.invariant-loop-i
invariant-loop-i l = record {
  properties : l.properties ++ properties_from (l.i + 1) (drop l.i l.uses) (drop l.i l.fields) ≡ properties_from 1 l.uses l.fields;
  told : first_told refused_code (l.i + 1) (drop l.i l.uses) (drop l.i l.fields) ≡ first_told refused_code 1 l.uses l.fields;
  valid : All HasValues l.properties;
}
