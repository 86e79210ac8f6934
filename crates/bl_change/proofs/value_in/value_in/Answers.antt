use Rattle.std.proofs.Common.{codes, refl, ap}
use Rattle.serde_json.specs.Find.{get}
use Rattle.bl_change.specs.EventText.{data_type}
use Rattle.bl_change.specs.Found.{type_of}
use Rattle.bl_change.proofs.Finding.{handed_on, narrowed, one_text}
use Rattle.bl_change.proofs.value_in.value_in.Goals as goal

pub returns-in_err-text_at-clause-found : goal.returns-in_err-text_at-clause-found
returns-in_err-text_at-clause-found c =
    handed_on _ _ c.from_residual.result c.in_err-text_at.field-0.0 c.from_residual.ensures.1
    (λ value is. (data_type value, ap (get (codes "dataType")) is.1)) c.in_err-text_at.ensures

pub returns-in_err-kind-clause-found : goal.returns-in_err-kind-clause-found
returns-in_err-kind-clause-found c =
    handed_on _ _ c.from_residual-in_err-kind.result c.in_err-kind.field-0.0 c.from_residual-in_err-kind.ensures.1
    (λ value is. (type_of value, (value, refl, one_text _ _ _ c.in_ok-text_at.ensures (ap (get (codes "dataType")) is.1)))) c.in_err-kind.ensures

pub returns-clause-found : goal.returns-clause-found
returns-clause-found c =
    narrowed _ _
    (λ value is. (c.in_ok-kind.ensures (type_of value) (value, refl, one_text _ _ _ c.in_ok-text_at.ensures (ap (get (codes "dataType")) is.1)), is.0, ap (get (codes "value")) is.1))
    c.value_of.result c.value_of.ensures.found
