use Rattle.std.proofs.Common.{refl, subst, sym}
use Rattle.bl_rows.specs.Readings.{Reading}
use Rattle.bl_rows.specs.RowReaders.{Stands}
use Rattle.bl_rows.proofs.RowReaders.{gives-no-row, gives-row}
use Rattle.bl_rows.proofs.row_reader.RowReader.next.Goals as goal

pub returns-in_default : goal.returns-in_default
returns-in_default c = λ all taken left stands.
    let stood = subst (λ (it : Reading). Stands it all taken left) (sym c.self.view_is) stands in
    let gives = rw c.in_default.is at (c.in_ok-fields.ensures left stood.has_left) in
    gives-no-row _ _ all taken left stood gives refl refl refl refl

pub returns : goal.returns
returns c = λ all taken left stands.
    let stood = subst (λ (it : Reading). Stands it all taken left) (sym c.self.view_is) stands in
    let gives = rw c.in-Some.is at (c.in_ok-fields.ensures left stood.has_left) in
    gives-row _ _ all taken left c.in-Some.fields stood gives refl refl c.saturating_add-self-inside.ensures c.in_ok-self-inside.ensures
