use Rattle.std.proofs.Common.{◌∙◌, ap, sym}
use Rattle.bl_rows.specs.SystemCells.{gather, gathered}
use Rattle.bl_rows.proofs.GatheredCells.{cells_of, none_system, tells_system}
use Rattle.bl_rows.proofs.conversion.checked_cells.Goals as goal

pub returns-in-Some-system_fault-clause-fault : goal.returns-in-Some-system_fault-clause-fault
returns-in-Some-system_fault-clause-fault c =
    tells_system c.args.columns.now c.args.fields.now (gathered c.in_ok-cells.cells) c.in-Some-system_fault.refused (sym c.whole_fault.ensures ∙ c.in_default.is)
    (c.in_ok-cells.ensures ∙ ap (λ uses. gather c.args.columns.now.side 1 uses c.args.fields.now) c.as_slice.ensures) c.in-Some-system_fault.ensures.fault

pub returns-clause-cells : goal.returns-clause-cells
returns-clause-cells c =
    cells_of c.args.columns.now c.args.fields.now (gathered c.in_ok-cells.cells)
    (c.in_ok-cells.ensures ∙ ap (λ uses. gather c.args.columns.now.side 1 uses c.args.fields.now) c.as_slice.ensures)

pub returns-clause-none : goal.returns-clause-none
returns-clause-none c =
    none_system c.args.columns.now c.args.fields.now (gathered c.in_ok-cells.cells)
    (c.in_ok-cells.ensures ∙ ap (λ uses. gather c.args.columns.now.side 1 uses c.args.fields.now) c.as_slice.ensures)
    (rw c.in_default-system_fault.is at c.system_fault.ensures.none)
