use Rattle.std.proofs.Common.{◌∙◌, ◌++◌, [], ◌∷◌, pos, ap, rules, FitsSigned, w64, to_z-of_z}
use Rattle.std.specs.Prelude.{unsigned_abs}
use Rattle.std.specs.Int.{int_div_euclid, int_rem_euclid}
use Rattle.jiff.specs.Names.{iso_datetime_text}
use Rattle.bl_value.proofs.Days.{moment_text}
use Rattle.bl_value.proofs.date_text.date_text.Goals as goal

pub returns : goal.returns
returns c =
    let fits : FitsSigned w64 c.args.seconds = c.ranges.seconds in
    let day_fits : FitsSigned w64 c.div_euclid.result = search rules in
    let rest_fits : FitsSigned w64 c.rem_euclid.result = search rules in
    let part = c.time_of-time.ensures in
    c.in_ok-format.ensures.ok ∙ ap (λ moment. iso_datetime_text moment ++ 90 ∷ []) c.from_plain-moment.ensures
    ∙ moment_text c.args.seconds c.date_of-date.result c.time_of-time.result _ c.requires
    (c.date_of-date.ensures ∙ to_z-of_z day_fits ∙ c.div_euclid.ensures ∙ ap (λ z. int_div_euclid z (pos 86400)) (to_z-of_z fits))
    (ap unsigned_abs (to_z-of_z rest_fits ∙ c.rem_euclid.ensures.value ∙ ap (λ z. int_rem_euclid z (pos 86400)) (to_z-of_z fits)))
    part.hour part.minute part.second part.whole
