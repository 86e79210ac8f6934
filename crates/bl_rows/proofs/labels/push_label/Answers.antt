use Rattle.std.proofs.Common.{◌∙◌, sym, ap, length}
use Rattle.std.specs.Prelude.{◌==◌}
use Rattle.std.proofs.lemmas.Result.{on_ok_weaker}
use Rattle.bl_rows.proofs.LabelItems.{label_pushed}
use Rattle.bl_rows.proofs.labels.push_label.Goals as goal

pub returns : goal.returns
returns c =
    on_ok_weaker c.push.result
    (label_pushed c.args.labels.now c.push.new.self c.args.item.now c.in_ok-copy_of.field-0
    (ap (λ label. length label == 0) (sym c.without_spaces-label.ensures) ∙ sym c.is_empty.ensures ∙ c.if-is_empty.false)
    (c.in_ok-copy_of.ensures ∙ c.without_spaces-label.ensures))
    c.push.ensures
