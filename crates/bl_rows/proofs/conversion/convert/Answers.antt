use Rattle.bl_rows.proofs.RecordRows.{told_row, untold_row}
use Rattle.bl_rows.proofs.RowFaults.{has_least, record_code, row_is}
use Rattle.bl_rows.proofs.RowValid.{valid_row}
use Rattle.bl_rows.proofs.conversion.convert.Goals as goal

pub returns-in-Ok-clause-row : goal.returns-in-Ok-clause-row
returns-in-Ok-clause-row c =
    row_is c.args.columns.now c.args.fields.now c.in-Ok.row (rw c.as_slice.ensures at c.in-Ok.ensures.none) (rw c.as_slice.ensures at c.in-Ok.ensures.row)

pub returns-in-Err-Fault-clause-row : goal.returns-in-Err-Fault-clause-row
returns-in-Err-Fault-clause-row c =
    has_least c.args.columns.now c.args.fields.now c.in-Err-Fault.code c.in-Err-Fault.column (rw (c.in-Err-Fault.field-0-is, c.as_slice.ensures) at c.in-Err-Fault.ensures.fault)

pub returns-in-Err-Fault-clause-valid : goal.returns-in-Err-Fault-clause-valid
returns-in-Err-Fault-clause-valid c =
    record_code c.args.columns.now c.args.fields.now c.in-Err-Fault.code c.in-Err-Fault.column
    (has_least c.args.columns.now c.args.fields.now c.in-Err-Fault.code c.in-Err-Fault.column (rw (c.in-Err-Fault.field-0-is, c.as_slice.ensures) at c.in-Err-Fault.ensures.fault))

pub returns-in-Ok-clause-valid : goal.returns-in-Ok-clause-valid
returns-in-Ok-clause-valid c =
    valid_row c.args.columns.now c.args.fields.now c.in-Ok.row c.requires (rw c.as_slice.ensures at c.in-Ok.ensures.none) (rw c.as_slice.ensures at c.in-Ok.ensures.valid) (rw c.as_slice.ensures at c.in-Ok.ensures.row)

pub returns-in-Ok-clause-value : goal.returns-in-Ok-clause-value
returns-in-Ok-clause-value c =
    untold_row c.args.columns.now c.args.fields.now c.in-Ok.row (rw c.as_slice.ensures at c.in-Ok.ensures.none) (rw c.as_slice.ensures at c.in-Ok.ensures.row)

pub returns-in-Err-Fault-clause-value : goal.returns-in-Err-Fault-clause-value
returns-in-Err-Fault-clause-value c =
    told_row c.args.columns.now c.args.fields.now c.in-Err-Fault.code c.in-Err-Fault.column (rw (c.in-Err-Fault.field-0-is, c.as_slice.ensures) at c.in-Err-Fault.ensures.fault)
