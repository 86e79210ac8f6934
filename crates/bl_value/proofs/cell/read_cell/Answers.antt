use Rattle.std.proofs.Common.{◌≡◌, ap, sym, subst, inr, if◌then◌else◌}
use Rattle.std.specs.Prelude.{IfOk, IfErr, Ok, Err, ◌⊎◌}
use Rattle.bl_value.specs.Cells.{text_cell}
use Rattle.bl_value.specs.declared.cell.CellRefusal.TheVariants.{NotUtf8, NoMemory}
use Rattle.bl_value.proofs.Utf8.{no_utf8, text_means}
use Rattle.bl_value.proofs.cell.read_cell.Goals as goal

pub returns-in_default-clause-refusal : goal.returns-in_default-clause-refusal
returns-in_default-clause-refusal c =
    inr (ap (λ test. if test then text_cell c.args.kind c.args.cell.now else Err NotUtf8) (no_utf8 c.args.cell.now c.in_default.ensures.cases.0))

pub returns-clause-value : goal.returns-clause-value
returns-clause-value c =
    subst (λ meaning. IfOk c.read_text.result (λ value. meaning ≡ Ok value)) (sym (text_means c.args.kind c.args.cell.now c.in-Ok.ensures.cases.1)) c.read_text.ensures.value

pub returns-clause-refusal : goal.returns-clause-refusal
returns-clause-refusal c =
    subst (λ meaning. IfErr c.read_text.result (λ refusal. (refusal ≡ NoMemory) ⊎ (meaning ≡ Err refusal))) (sym (text_means c.args.kind c.args.cell.now c.in-Ok.ensures.cases.1)) c.read_text.ensures.refusal
