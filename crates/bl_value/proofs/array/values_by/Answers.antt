use Rattle.std.specs.Prelude.{true}
use Rattle.std.proofs.lemmas.Result.{IfOk-weaker}
use Rattle.bl_value.specs.Cells.{item_values, items, values_in}
use Rattle.bl_value.proofs.OnceValues.{read_apart}
use Rattle.bl_value.proofs.array.values_by.Goals as goal

pub returns-then-not-is_one_item-clause-differ : goal.returns-then-not-is_one_item-clause-differ
returns-then-not-is_one_item-clause-differ c =
    IfOk-weaker c.read_items.result _ _ (λ values is. read_apart (item_values c.args.kind (items c.args.cell.now)) values is) c.read_items.ensures.values

pub returns-clause-differ : goal.returns-clause-differ
returns-clause-differ c = IfOk-weaker c.read_one.result _ _ (λ values is. read_apart (values_in c.args.kind c.args.cell.now) values is) c.read_one.ensures.values
