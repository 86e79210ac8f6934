use Rattle.std.proofs.Common.{◌∙◌, ap, sym, subst}
use Rattle.std.specs.Prelude.{IfErr}
use Rattle.bl_rows.specs.FirstFaults.{Tells, first_told, refused_code}
use Rattle.bl_rows.specs.Rows.{properties_from}
use Rattle.bl_rows.proofs.GatheredCells.{many_is}
use Rattle.bl_rows.proofs.Texts.{texts_of, whole_record}
use Rattle.bl_rows.proofs.conversion.row_of.Goals as goal

pub read_properties-requires-clause-texts : goal.read_properties-requires-clause-texts
read_properties-requires-clause-texts c = texts_of c.args.fields.now (whole_record c.args.columns.now c.args.fields.now c.in_ok-cells.ensures.whole).utf8

pub returns-clause-fault : goal.returns-clause-fault
returns-clause-fault c =
    let columns = c.args.columns.now in
    let fields = c.args.fields.now in
    let properties = c.in_ok-properties.ensures in
    let cells = c.in_ok-cells.ensures in
    subst (λ found. IfErr c.row_with.result (Tells found))
    (many_is columns fields c.in_ok-cells.cells.label.now c.in_ok-properties.properties cells.cells.label (properties.properties ∙ ap (λ uses. properties_from 1 uses fields) c.as_slice.ensures) cells.whole cells.none
    (ap (λ uses. first_told refused_code 1 uses fields) (sym c.as_slice.ensures) ∙ properties.none))
    c.row_with.ensures.fault
