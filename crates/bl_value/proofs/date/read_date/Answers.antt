use Rattle.std.proofs.Common.{◌≡◌, ◌∙◌, sym, ap, arith}
use Rattle.std.proofs.lemmas.Int.{ints}
use Rattle.bl_value.specs.Cells.{two_digits, month_of, day_of, hour_of, minute_of, second_of}
use Rattle.bl_value.proofs.Moments.{date_taken}
use Rattle.bl_value.proofs.date.read_date.Goals as goal

pub returns-clause-value : goal.returns-clause-value
returns-clause-value c =
    let text = c.args.text.now in
    let year = c.year_of.ensures.value in
    let month : c.two_digits-month.result ≡ month_of text = c.two_digits-month.ensures.value ∙ ap two_digits c.behind.ensures in
    let day : c.two_digits.result ≡ day_of text = c.two_digits.ensures.value ∙ ap two_digits c.behind-2.ensures in
    let hour : c.two_digits-hour.result ≡ hour_of text = c.two_digits-hour.ensures.value ∙ ap two_digits c.behind-3.ensures in
    let minute : c.two_digits-minute.result ≡ minute_of text = c.two_digits-minute.ensures.value ∙ ap two_digits c.behind-4.ensures in
    let second : c.two_digits-2.result ≡ second_of text = c.two_digits-2.ensures.value ∙ ap two_digits c.behind-5.ensures in
    let number = c.in-Some.ensures in
    let clock = c.in-Some-second_of_day.ensures in
    date_taken text c.in-Some.day c.in-Some-second_of_day.second _
    (sym c.has_date_form.ensures ∙ c.if-not-has_date_form.false)
    (rw (year, month, day) at (sym number.day))
    (rw (hour, minute, second) at (sym clock.time))
    (rw (year, month, day) at number.number)
    (rw (hour, minute, second) at clock.number)
    (omega (arith, ints, number.bound.0, number.bound.1, clock.bound))
