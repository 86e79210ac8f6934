use Rattle.std.proofs.Common.{codes, refl, ap, ◌∙◌}
use Rattle.serde_json.specs.Find.{get}
use Rattle.bl_change.specs.Found.{operation_of, record_type}
use Rattle.bl_change.proofs.Finding.{handed_on, narrowed, one_text, type_there}
use Rattle.bl_change.proofs.change_in.change_in.Goals as goal

pub returns-in_err-text_at-clause-found : goal.returns-in_err-text_at-clause-found
returns-in_err-text_at-clause-found c =
    handed_on _ _ c.from_residual.result c.in_err-text_at.field-0.0 c.from_residual.ensures.1
    (λ change is. (record_type change, ap (get (codes "type")) is.2 ∙ type_there change)) c.in_err-text_at.ensures

pub returns-in_err-operation-clause-found : goal.returns-in_err-operation-clause-found
returns-in_err-operation-clause-found c =
    handed_on _ _ c.from_residual-in_err-operation.result c.in_err-operation.field-0.0 c.from_residual-in_err-operation.ensures.1
    (λ change is. (operation_of change, (change, refl, one_text _ _ _ c.in_ok-text_at.ensures (ap (get (codes "type")) is.2 ∙ type_there change), is.1))) c.in_err-operation.ensures

pub returns-clause-found : goal.returns-clause-found
returns-clause-found c =
    narrowed _ _
    (λ change is. (c.in_ok-operation.ensures (operation_of change) (change, refl, one_text _ _ _ c.in_ok-text_at.ensures (ap (get (codes "type")) is.2 ∙ type_there change), is.1), is.0, is.2))
    c.change_of.result c.change_of.ensures.found
