use Rattle.std.proofs.Common.{◌∙◌, ap, sym, subst, arith}
use Rattle.std.specs.List.{All}
use Rattle.std.specs.Option.{option_copied}
use Rattle.std.specs.Str.{IsUtf8}
use Rattle.std.proofs.lemmas.List.Elements.{All-nil}
use Rattle.bl_value.specs.Cells.{item_values, items}
use Rattle.bl_value.specs.ItemsLeft.{items_left, with_values}
use Rattle.bl_value.specs.Valid.{IsValue}
use Rattle.bl_value.proofs.Arrays.{behind_none}
use Rattle.bl_value.proofs.ItemTexts.{items_are_utf8}
use Rattle.bl_value.proofs.array.read_items.Goals as goal

pub loop-left-init : goal.loop-left-init
loop-left-init c = record {
  values =
      ap (λ values. with_values values (item_values c.args.kind (items c.args.cell.now))) c.new-values.ensures
      ∙ behind_none (item_values c.args.kind (items c.args.cell.now));
  texts = λ is. items_are_utf8 c.args.cell.now (c.requires.utf8 is);
  bytes = omega arith;
  valid = subst (All IsValue) (sym c.new-values.ensures) (All-nil IsValue);
}

pub take_item-requires-clause-utf8 : goal.take_item-requires-clause-utf8
take_item-requires-clause-utf8 c = λ is. subst (λ left. All IsUtf8 (items_left (option_copied left))) c.in-Some.is (c.loop-left.invariant.texts is)
