use Rattle.std.proofs.Common.{◌≡◌, sym, subst}
use Rattle.std.specs.Prelude.{◌⊎◌, Ok, Err, IfOk, IfErr}
use Rattle.bl_value.specs.declared.cell.CellRefusal.TheVariants.{NoMemory}
use Rattle.bl_value.proofs.Utf8.{text_means}
use Rattle.bl_value.proofs.array.read_item_value.Goals as goal

pub returns-then-is_text-clause-value : goal.returns-then-is_text-clause-value
returns-then-is_text-clause-value c =
    subst (λ meaning. IfOk c.read_text.result (λ value. meaning ≡ Ok value)) (sym (text_means c.args.kind c.args.item.now (c.requires.utf8 c.if-is_text.true))) c.read_text.ensures.value

pub returns-then-is_text-clause-refusal : goal.returns-then-is_text-clause-refusal
returns-then-is_text-clause-refusal c =
    subst (λ meaning. IfErr c.read_text.result (λ refusal. (refusal ≡ NoMemory) ⊎ (meaning ≡ Err refusal))) (sym (text_means c.args.kind c.args.item.now (c.requires.utf8 c.if-is_text.true))) c.read_text.ensures.refusal
