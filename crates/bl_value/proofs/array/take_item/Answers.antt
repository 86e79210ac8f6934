use Rattle.std.proofs.Common.{◌∙◌, ap, sym, subst}
use Rattle.std.specs.List.{All}
use Rattle.std.specs.Option.{option_copied}
use Rattle.std.specs.Str.{IsUtf8}
use Rattle.std.proofs.lemmas.List.Elements.{All-head, All-tail}
use Rattle.bl_value.specs.Cells.{item_values, values_in}
use Rattle.bl_value.specs.ItemsLeft.{items_left, with_values}
use Rattle.bl_value.proofs.Arrays.{values_more}
use Rattle.bl_value.proofs.array.take_item.Goals as goal

pub push_value-requires-clause-utf8 : goal.push_value-requires-clause-utf8
push_value-requires-clause-utf8 c = λ is.
    All-head IsUtf8 c.in-Some.item.now (items_left (option_copied c.in-Some.left)) (subst (All IsUtf8) c.in-Some.ensures.items (c.requires.utf8 is))

pub returns-in-Some-clause-values : goal.returns-in-Some-clause-values
returns-in-Some-clause-values c =
    let others = items_left (option_copied c.in-Some.left) in
    ap (λ items. with_values c.args.values.now (item_values c.args.kind items)) c.in-Some.ensures.items
    ∙ values_more c.args.kind c.args.values.now c.push_value.new.values c.in-Some.item.now others c.in_ok-push_value.ensures.value

pub returns-in-Some-clause-texts : goal.returns-in-Some-clause-texts
returns-in-Some-clause-texts c = λ is.
    All-tail IsUtf8 c.in-Some.item.now (items_left (option_copied c.in-Some.left)) (subst (All IsUtf8) c.in-Some.ensures.items (c.requires.utf8 is))

pub push_value-requires-2-clause-utf8 : goal.push_value-requires-2-clause-utf8
push_value-requires-2-clause-utf8 c = λ is.
    subst IsUtf8 (sym c.as_slice.ensures.value)
    (All-head IsUtf8 c.read_item.new.item.items (items_left (option_copied c.in_ok-left.left)) (subst (All IsUtf8) c.in_ok-left.ensures.items (c.requires.utf8 is)))

pub returns-clause-values : goal.returns-clause-values
returns-clause-values c =
    let others = items_left (option_copied c.in_ok-left.left) in
    let item = c.read_item.new.item.items in
    ap (λ items. with_values c.args.values.now (item_values c.args.kind items)) c.in_ok-left.ensures.items
    ∙ values_more c.args.kind c.args.values.now c.push_value-2.new.values item others
    (ap (λ bytes. with_values c.args.values.now (values_in c.args.kind bytes)) (sym c.as_slice.ensures.value) ∙ c.in_ok-push_value-2.ensures.value)

pub returns-clause-texts : goal.returns-clause-texts
returns-clause-texts c = λ is.
    All-tail IsUtf8 c.read_item.new.item.items (items_left (option_copied c.in_ok-left.left)) (subst (All IsUtf8) c.in_ok-left.ensures.items (c.requires.utf8 is))
