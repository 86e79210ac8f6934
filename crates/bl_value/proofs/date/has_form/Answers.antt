use Rattle.std.proofs.Common.{◌≡◌, ◌∙◌, ℕ, ◌<◌, List, [], ◌∷◌, length, drop, false, refl, sym, arith, length-drop}
use Rattle.bl_value.specs.Cells.{has_form}
use Rattle.bl_value.proofs.date.has_form.Goals as goal

no_text : (form : List ℕ) → 0 < length form → has_form form [] ≡ false
no_text [] some = absurd (omega arith)
no_text (mark ∷ form) some = refl

-- a text that ends before the form has it not
ended : (form text : List ℕ) (index : ℕ) → index < length form → length text < 1 → has_form (drop index form) text ≡ false
ended form [] index more none = no_text (drop index form) (omega (arith, length-drop index form))
ended form (byte ∷ text) index more none = absurd (omega arith)

pub returns-in_default : goal.returns-in_default
returns-in_default c =
    sym (ended c.args.form.now c.loop-mark.rest.now c.loop-mark.mark-index (omega arith) c.in_default.len_below) ∙ c.loop-mark.invariant
