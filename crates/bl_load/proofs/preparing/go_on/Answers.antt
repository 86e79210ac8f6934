use Rattle.std.proofs.Common.{◌∙◌, refl, sym}
use Rattle.bl_load.proofs.OpenLists.{none_next}
use Rattle.bl_load.proofs.PreparedFiles.{empty_rows, some_rows}
use Rattle.bl_load.proofs.preparing.go_on.Goals as goal

pub returns-then-is_empty-clause-goes_on : goal.returns-then-is_empty-clause-goes_on
returns-then-is_empty-clause-goes_on g c = λ header records is.
    let takes = c.in_ok-rows.ensures.rows header records is in
    (refl, none_next header records c.args.file is (sym (empty_rows c.in_ok-rows.rows (sym c.is_empty.ensures ∙ c.if-is_empty.true)) ∙ takes.rows_are), c.requires.none)

pub returns-clause-goes_on : goal.returns-clause-goes_on
returns-clause-goes_on g c = λ header records is.
    (c.next_rows.new.self, c.hold.ensures, c.in_ok-rows.ensures.rows header records is, some_rows c.in_ok-rows.rows (sym c.is_empty.ensures ∙ c.if-is_empty.false))
