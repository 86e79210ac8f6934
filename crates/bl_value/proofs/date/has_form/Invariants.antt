use Rattle.std.proofs.Common.{◌≡◌, drop}
use Rattle.bl_value.specs.Cells.{has_form}
use Rattle.bl_value.proofs.date.has_form.Given as goal

-- what is left of the text has what is left of the form
abbrev pub invariant-loop-mark : goal.invariant-loop-mark
invariant-loop-mark l = has_form (drop l.mark-index l.form) l.rest ≡ has_form l.form l.text
