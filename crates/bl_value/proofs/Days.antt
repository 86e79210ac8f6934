-- Day numbers of the years 0000 to 9999, and the dates that they name.
use Rattle.std.proofs.Common.{◌≡◌, ℕ, zero, suc, ◌<◌, ◌≤◌, inl, inr, cond, Bool, true, false, refl, sym, ap, subst, ◌∙◌, ◌/◌, ◌%◌, [], ◌∷◌, ◌++◌, arith, ℤ, pos, negsuc, ◌-ℤ◌, ◌≤ℤ◌, ◌<ℤ◌}
use Rattle.std.specs.Prelude.{int_le, unsigned_abs, codes}
use Rattle.std.proofs.lemmas.Bool.{cases_order}
use Rattle.std.proofs.lemmas.Int.{by_lt_z, ints}
use Rattle.std.specs.Int.{int_div_euclid, int_rem_euclid}
use Rattle.jiff.specs.Names.{iso_datetime_text}
use Rattle.jiff_core.specs.declared.civil.date.Date.{Date}
use Rattle.jiff_core.specs.declared.civil.time.Time.{Time}
use Rattle.jiff_core.specs.Calendar.{day_count, days_from_civil}
use Rattle.jiff_core.specs.Date.{epoch_day}
use Rattle.jiff_core.proofs.SignedLemmas.{signed_arith, int_div_euclid-parts, unsigned_abs-parts}
use Rattle.jiff_core.proofs.MarchLemmas.{day_count-early}
use Rattle.jiff_core.proofs.CalendarLemmas.{days_from_civil-day_count, day_count-day_of_year, day_count-later_year, day_count-lt_year, day_count-lt_month, day_count-day}
use Rattle.jiff_core.proofs.DateLemmas.{civil, epoch_day_range}
use Rattle.bl_value.specs.Dates.{IsDayNumber, year_from, month_from, year_at, month_at, day_at, date_text, day_text, time_text}
use Rattle.bl_value.specs.Valid.{IsDate}

-- 1 January of the year 0
first_day : day_count (pos 0) 1 1 ≡ 3652425
first_day = day_count-early (pos 0) 9999 1 1 refl (omega arith) (omega arith) (omega arith)

year_begins : (y : ℕ) → 3652425 ≤ day_count (pos y) 1 1
year_begins zero = omega (arith, first_day)
year_begins (suc y) = omega (arith, first_day, day_count-later_year (pos 0) (pos (suc y)) (omega (arith, signed_arith)) (omega (arith, signed_arith)))

-- a date of the years 0000 to 9999 has one of their day numbers
pub day_bounds : (d : Date) (y : ℕ) → d.year ≡ pos y → IsDayNumber (epoch_day d)
day_bounds d y is =
    let begins : 3652425 ≤ day_count d.year 1 1 = rw is (year_begins y) in
    let count = day_count-day_of_year d.year d.month d.day d.day_in.0 in
    let low : 3652425 ≤ day_count d.year d.month d.day = omega (arith, count) in
    let parts = days_from_civil-day_count d.year d.month d.day in
    let range = epoch_day_range d in
    (omega (arith, signed_arith, parts), range.1)

le_true : (a b : ℤ) → a ≤ℤ b → int_le a b ≡ true
le_true (pos a) (pos b) below = grind (arith, ints)
le_true (pos a) (negsuc b) below = absurd (omega (arith, ints))
le_true (negsuc a) (pos b) below = refl
le_true (negsuc a) (negsuc b) below = grind (arith, ints)

le_false : (a b : ℤ) → b <ℤ a → int_le a b ≡ false
le_false (pos a) (pos b) above = grind (arith, ints)
le_false (pos a) (negsuc b) above = refl
le_false (negsuc a) (pos b) above = absurd (omega (arith, ints))
le_false (negsuc a) (negsuc b) above = grind (arith, ints)

-- a number that isn't negative is its size
natural : (z : ℤ) → pos 0 ≤ℤ z → z ≡ pos (unsigned_abs z)
natural (pos n) from = refl
natural (negsuc n) from = absurd (omega (arith, ints))

-- and the other way: its year isn't negative
pub natural_year : (d : Date) → IsDayNumber (epoch_day d) → d.year ≡ pos (unsigned_abs d.year)
natural_year d bounds =
    by_lt_z d.year (pos 0)
    (λ before. absurd (omega (arith, signed_arith, bounds.0, days_from_civil-day_count d.year d.month d.day, first_day, day_count-lt_year d.year d.month d.day (pos 0) 1 1 (civil d) (omega arith) before)))
    (λ from. natural d.year from)

-- a choice whose test is known
chosen : (test : Bool) (first second : ℕ) → test ≡ true → cond test first second ≡ first
chosen true first second is = refl
chosen false first second is = cc

passed : (test : Bool) (first second : ℕ) → test ≡ false → cond test first second ≡ second
passed true first second is = cc
passed false first second is = refl

begun : (d : Date) (year : ℤ) → d.year ≡ year → int_le (days_from_civil year 1 1) (epoch_day d) ≡ true
begun d year is =
    rw (← is) (le_true (days_from_civil d.year 1 1) (epoch_day d) (omega (arith, signed_arith, days_from_civil-day_count d.year 1 1, days_from_civil-day_count d.year d.month d.day, day_count-day_of_year d.year d.month d.day d.day_in.0)))

not_begun : (d : Date) (year : ℤ) → d.year <ℤ year → int_le (days_from_civil year 1 1) (epoch_day d) ≡ false
not_begun d year later =
    le_false (days_from_civil year 1 1) (epoch_day d) (omega (arith, signed_arith, days_from_civil-day_count year 1 1, days_from_civil-day_count d.year d.month d.day, day_count-lt_year d.year d.month d.day year 1 1 (civil d) (omega arith) later))

-- the year that is found is the date's
year_found : (d : Date) (y n : ℕ) → d.year ≡ pos y → y ≤ n → year_from n (epoch_day d) ≡ y
year_found d y zero is most = omega arith
year_found d y (suc n) is most =
    elim (cases_order y (suc n)) [
      | inr (inl before) ↦ passed _ (suc n) (year_from n (epoch_day d)) (not_begun d (pos (suc n)) (rw is (omega (arith, signed_arith)))) ∙ year_found d y n is (omega arith)
      | inl same ↦ chosen _ (suc n) (year_from n (epoch_day d)) (begun d (pos (suc n)) (is ∙ ap pos same)) ∙ sym same
      | inr (inr after) ↦ absurd (omega arith)
    ]

month_begun : (d : Date) (year : ℤ) (month : ℕ) → d.year ≡ year → d.month ≡ month → int_le (days_from_civil year month 1) (epoch_day d) ≡ true
month_begun d year month is same =
    rw (← is, ← same) (le_true (days_from_civil d.year d.month 1) (epoch_day d) (omega (arith, signed_arith, days_from_civil-day_count d.year d.month 1, days_from_civil-day_count d.year d.month d.day, day_count-day d.year d.month d.day 1 d.day_in.0 (omega arith), d.day_in)))

month_not_begun : (d : Date) (year : ℤ) (month : ℕ) → d.year ≡ year → d.month < month → int_le (days_from_civil year month 1) (epoch_day d) ≡ false
month_not_begun d year month is later =
    rw (← is) (le_false (days_from_civil d.year month 1) (epoch_day d) (omega (arith, signed_arith, days_from_civil-day_count d.year month 1, days_from_civil-day_count d.year d.month d.day, day_count-lt_month d.year d.month d.day month 1 (civil d) (omega arith) later)))

month_found : (d : Date) (y n : ℕ) → d.year ≡ pos y → d.month ≤ n → month_from n y (epoch_day d) ≡ d.month
month_found d y zero is most = absurd (omega (arith, d.month_in))
month_found d y (suc n) is most =
    elim (cases_order d.month (suc n)) [
      | inr (inl before) ↦ passed _ (suc n) (month_from n y (epoch_day d)) (month_not_begun d (pos y) (suc n) is before) ∙ month_found d y n is (omega arith)
      | inl same ↦ chosen _ (suc n) (month_from n y (epoch_day d)) (month_begun d (pos y) (suc n) is same) ∙ sym same
      | inr (inr after) ↦ absurd (omega arith)
    ]

-- the parts of the date that a day number names
pub year_at_is : (d : Date) → IsDayNumber (epoch_day d) → year_at (epoch_day d) ≡ unsigned_abs d.year
unfolding year_at
year_at_is d bounds =
    let is = natural_year d bounds in
    year_found d (unsigned_abs d.year) 9999 is (omega (arith, signed_arith, d.year_in, unsigned_abs-parts d.year))

pub month_at_is : (d : Date) → IsDayNumber (epoch_day d) → month_at (epoch_day d) ≡ d.month
unfolding month_at
month_at_is d bounds =
    month_found d (year_at (epoch_day d)) 12 (natural_year d bounds ∙ ap pos (sym (year_at_is d bounds))) (d.month_in.1)

pub day_at_is : (d : Date) → IsDayNumber (epoch_day d) → day_at (epoch_day d) ≡ d.day
unfolding day_at
day_at_is d bounds =
    let first = days_from_civil-day_count d.year d.month 1 in
    let this = days_from_civil-day_count d.year d.month d.day in
    let apart = day_count-day d.year d.month d.day 1 d.day_in.0 (omega arith) in
    let behind = natural (epoch_day d -ℤ days_from_civil d.year d.month 1) (omega (arith, signed_arith, first, this, apart, d.day_in)) in
    rw (year_at_is d bounds, month_at_is d bounds, ← natural_year d bounds) (omega (arith, signed_arith, first, this, apart, behind))

-- the day number of a date's seconds
pub day_of_date : (seconds : ℤ) → IsDate seconds → IsDayNumber (int_div_euclid seconds (pos 86400))
day_of_date seconds is =
    let parts = int_div_euclid-parts seconds 86400 (omega arith) in
    (omega (arith, signed_arith, parts, is.0, is.1), omega (arith, signed_arith, parts, is.0, is.1))

-- the text of a date and a time
moment_words : (date : Date) (time : Time) (second : ℕ) → IsDayNumber (epoch_day date) → time.hour ≡ second / 3600 → time.minute ≡ second / 60 % 60 →
    time.second ≡ second % 60 → time.subsec_nanosecond ≡ 0 →
    iso_datetime_text (record { date = date; time = time }) ++ codes "Z" ≡ day_text (epoch_day date) ++ 84 ∷ time_text second ++ 90 ∷ []
moment_words date time second bounds hour minute second_is whole =
    rw (year_at_is date bounds, month_at_is date bounds, day_at_is date bounds, natural_year date bounds, hour, minute, second_is, whole) refl

pub moment_text : (seconds : ℤ) (date : Date) (time : Time) (second : ℕ) → IsDate seconds → epoch_day date ≡ int_div_euclid seconds (pos 86400) →
    second ≡ unsigned_abs (int_rem_euclid seconds (pos 86400)) → time.hour ≡ second / 3600 → time.minute ≡ second / 60 % 60 →
    time.second ≡ second % 60 → time.subsec_nanosecond ≡ 0 →
    iso_datetime_text (record { date = date; time = time }) ++ codes "Z" ≡ date_text seconds
moment_text seconds date time second bounds day rest hour minute second_is whole =
    moment_words date time second (subst IsDayNumber (sym day) (day_of_date seconds bounds)) hour minute second_is whole
    ∙ ap (λ number. day_text number ++ 84 ∷ time_text second ++ 90 ∷ []) day
    ∙ ap (λ part. day_text (int_div_euclid seconds (pos 86400)) ++ 84 ∷ time_text part ++ 90 ∷ []) rest
