use Rattle.std.proofs.Common.{◌∙◌, sym}
use Rattle.bl_value.proofs.Arrays.{value_pushed}
use Rattle.bl_value.proofs.array.push_value.Goals as goal

pub returns-clause-value : goal.returns-clause-value
returns-clause-value c =
    value_pushed c.args.kind c.args.item.now c.args.values.now c.push.new.self c.in_ok-value.value
    (sym c.is_empty_cell.ensures ∙ c.if-is_empty_cell.false) c.in_ok-value.ensures.value c.in_ok-push.ensures
