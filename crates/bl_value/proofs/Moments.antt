-- The parts of a date's text, put together.
use Rattle.std.proofs.Common.{◌≡◌, ℕ, ◌+◌, ◌*◌, Bool, true, List, sym, ap, ◌∙◌, arith, ℤ, pos, ◌+ℤ◌, ◌*ℤ◌}
use Rattle.std.specs.Prelude.{◌&&◌, if◌then◌else◌, Ok, Err}
use Rattle.jiff_core.specs.Calendar.{days_from_civil}
use Rattle.bl_value.specs.Cells.{date, has_date_form, is_day, is_time, moment_of, year_of, month_of, day_of, hour_of, minute_of, second_of}
use Rattle.bl_value.specs.declared.value.Value.TheVariants.{Date}
use Rattle.bl_value.specs.declared.cell.CellRefusal.TheVariants.{NotOfType}

three : (a b c : Bool) → a ≡ true → b ≡ true → c ≡ true → (a && b && c) ≡ true
three a b c first second third = grind (arith, first, second, third)

pub date_taken : (text : List ℕ) (number second moment : ℤ) → has_date_form text ≡ true →
    is_day (year_of text) (month_of text) (day_of text) ≡ true → is_time (hour_of text) (minute_of text) (second_of text) ≡ true →
    number ≡ days_from_civil (pos (year_of text)) (month_of text) (day_of text) →
    second ≡ pos (hour_of text * 3600 + minute_of text * 60 + second_of text) →
    moment ≡ pos 86400 *ℤ number +ℤ second → Ok (Date moment) ≡ date text
date_taken text number second moment form day time number_is second_is moment_is =
    ap (λ z. Ok (Date z)) (moment_is ∙ ap (λ z. pos 86400 *ℤ z +ℤ second) number_is ∙ ap (λ z. pos 86400 *ℤ days_from_civil (pos (year_of text)) (month_of text) (day_of text) +ℤ z) second_is)
    ∙ ap (λ test. if test then Ok (Date (moment_of text)) else Err NotOfType) (sym (three _ _ _ form day time))
