use Rattle.std.proofs.Common.{◌∙◌, sym}
use Rattle.bl_value.proofs.Arrays.{one_where}
use Rattle.bl_value.proofs.array.is_one_item.Goals as goal

pub returns-then-not-contains : goal.returns-then-not-contains
returns-then-not-contains c =
    one_where c.contains-then-not-contains.result c.args.cell.now (sym c.contains.ensures.value ∙ c.if-not-contains.true) c.contains-then-not-contains.ensures.value
