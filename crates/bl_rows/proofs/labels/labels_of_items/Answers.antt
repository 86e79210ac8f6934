use Rattle.std.proofs.Common.{◌∙◌, ◌++◌, ◌∷◌, [], ap, sym}
use Rattle.std.specs.Prelude.{nat_eq}
use Rattle.std.specs.Cmp.Lexicographic.{pointwise}
use Rattle.std.specs.Option.{option_copied}
use Rattle.bl_value.specs.ItemsLeft.{items_left}
use Rattle.bl_value.specs.Once.{once_behind}
use Rattle.bl_rows.specs.Rows.{some_labels}
use Rattle.bl_rows.proofs.LabelItems.{labels_more}
use Rattle.bl_rows.proofs.labels.labels_of_items.Goals as goal

pub loop-left-preserved : goal.loop-left-preserved
loop-left-preserved c =
    let before = c.loop-left.labels in
    let item = c.read_item.new.item.items in
    sym (labels_more before c.push_label.new.labels item (items_left (option_copied c.in_ok-left.left))
    (c.in_ok-push_label.ensures ∙ ap (λ bytes. before ++ once_behind (pointwise nat_eq) before (some_labels (bytes ∷ []))) c.as_slice.ensures.value))
    ∙ ap (λ left. before ++ once_behind (pointwise nat_eq) before (some_labels left)) (sym (ap (λ left. items_left (option_copied left)) c.in-Some.is ∙ c.in_ok-left.ensures.items))
    ∙ c.loop-left.invariant
