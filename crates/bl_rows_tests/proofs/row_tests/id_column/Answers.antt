use Rattle.std.proofs.Common.{sym, ◌∙◌, ◌++◌, ◌∷◌, [], ap}
use Rattle.bl_value.specs.declared.column.ColumnUse.TheVariants.{Id}
use Rattle.bl_rows_tests.proofs.OneColumn.{one_column}
use Rattle.bl_rows_tests.proofs.row_tests.id_column.Goals as goal

pub returns : goal.returns
returns c = one_column _ (sym (c.in_ok-push.ensures.ok ∙ ap (λ uses. uses ++ Id ∷ []) c.new-uses.ensures))
