use Rattle.std.proofs.Common.{◌≡◌, take}
use Rattle.csv.specs.Records.{fields_of}
use Rattle.bl_rows.proofs.records.fields_of_row.Given as goal

-- the fields so far were copied
abbrev pub invariant-loop-index : goal.invariant-loop-index
invariant-loop-index l = l.fields.items ≡ take l.index (fields_of l.row)
