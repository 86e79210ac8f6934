use Rattle.std.proofs.Common.{◌≡◌, take}
use Rattle.std.specs.List.{All}
use Rattle.bl_value.specs.ValidRows.{IsRow}
use Rattle.bl_workers.specs.Rows.{record_rows}
use Rattle.bl_workers.proofs.converting.convert_piece.Given as goal

-- the records so far are converted
abbrev pub invariant-loop-record : goal.invariant-loop-record
invariant-loop-record g l = (l.rows ≡ record_rows l.columns (take l.record-index l.records)) × All IsRow l.rows
