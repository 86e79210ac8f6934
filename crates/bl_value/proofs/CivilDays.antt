-- Each day number has the date that its text names.
use Rattle.std.proofs.Common.{◌≡◌, ℕ, zero, suc, ◌+◌, ◌<◌, ◌≤◌, inl, inr, cond, Bool, true, false, refl, subst, arith, ℤ, pos, negsuc, ◌-ℤ◌, ◌≤ℤ◌, ◌<ℤ◌}
use Rattle.std.specs.Prelude.{int_le, unsigned_abs}
use Rattle.std.proofs.lemmas.Bool.{cases_lt}
use Rattle.std.proofs.lemmas.Int.{ints}
use Rattle.jiff_core.specs.Calendar.{days_from_civil, days_in_month}
use Rattle.jiff_core.proofs.SignedLemmas.{signed_arith}
use Rattle.jiff_core.proofs.MarchLemmas.{day_count-early}
use Rattle.jiff_core.proofs.CalendarLemmas.{days_from_civil-day_count, days_in_month_bounds}
use Rattle.jiff_core.proofs.DateLemmas.{days_from_civil-day, days_from_civil-next_month, days_from_civil-next_year, days_from_civil-max}
use Rattle.bl_value.specs.Dates.{IsDayNumber, year_from, month_from, year_at, month_at, day_at}

-- the last year up to n that has begun on a day
record IsYear (n : ℕ) (day : ℤ) (year : ℕ) : Type 0 where
  begun : days_from_civil (pos year) 1 1 ≤ℤ day
  most : year ≤ n
  next : year < n → day <ℤ days_from_civil (pos (suc year)) 1 1

year_or_before : (n : ℕ) (day : ℤ) (test : Bool) (year : ℕ) → int_le (days_from_civil (pos (suc n)) 1 1) day ≡ test → IsYear n day year → IsYear (suc n) day (cond test (suc n) year)
year_or_before n day true year is before = record { begun = omega (arith, signed_arith, is); most = omega arith; next = λ less. absurd (omega arith) }
year_or_before n day false year is before = record {
  begun = before.begun;
  most = let most = before.most in omega arith;
  next = λ less. elim (cases_lt year n) [
    | inl lower ↦ before.next lower
    | inr other ↦
        let most = before.most in
        let same : n ≡ year = omega arith in
        let later : day <ℤ days_from_civil (pos (suc n)) 1 1 = omega (arith, signed_arith, is) in
        subst (λ last. day <ℤ days_from_civil (pos (suc last)) 1 1) same later
  ];
}

year_is : (n : ℕ) (day : ℤ) → days_from_civil (pos 0) 1 1 ≤ℤ day → IsYear n day (year_from n day)
year_is zero day from = record { begun = from; most = omega arith; next = λ less. absurd (omega arith) }
year_is (suc n) day from = year_or_before n day (int_le (days_from_civil (pos (suc n)) 1 1) day) (year_from n day) refl (year_is n day from)

-- the last month up to n that has begun on a day of a year
record IsMonth (n : ℕ) (year : ℕ) (day : ℤ) (month : ℕ) : Type 0 where
  begun : days_from_civil (pos year) month 1 ≤ℤ day
  least : 1 ≤ month
  most : month ≤ n
  next : month < n → day <ℤ days_from_civil (pos year) (suc month) 1

first_month : (year : ℕ) (day : ℤ) (test : Bool) → int_le (days_from_civil (pos year) 1 1) day ≡ test → days_from_civil (pos year) 1 1 ≤ℤ day → IsMonth 1 year day (cond test 1 0)
first_month year day true is from = record { begun = from; least = omega arith; most = omega arith; next = λ less. absurd (omega arith) }
first_month year day false is from = absurd (omega (arith, signed_arith, is, from))

month_or_before : (n year : ℕ) (day : ℤ) (test : Bool) (month : ℕ) → int_le (days_from_civil (pos year) (suc n) 1) day ≡ test → IsMonth n year day month → IsMonth (suc n) year day (cond test (suc n) month)
month_or_before n year day true month is before = record { begun = omega (arith, signed_arith, is); least = omega arith; most = omega arith; next = λ less. absurd (omega arith) }
month_or_before n year day false month is before = record {
  begun = before.begun;
  least = before.least;
  most = let most = before.most in omega arith;
  next = λ less. elim (cases_lt month n) [
    | inl lower ↦ before.next lower
    | inr other ↦
        let most = before.most in
        let same : n ≡ month = omega arith in
        let later : day <ℤ days_from_civil (pos year) (suc n) 1 = omega (arith, signed_arith, is) in
        subst (λ last. day <ℤ days_from_civil (pos year) (suc last) 1) same later
  ];
}

month_is : (n year : ℕ) (day : ℤ) → days_from_civil (pos year) 1 1 ≤ℤ day → IsMonth (suc n) year day (month_from (suc n) year day)
month_is zero year day from = first_month year day (int_le (days_from_civil (pos year) 1 1) day) refl from
month_is (suc n) year day from =
    month_or_before (suc n) year day (int_le (days_from_civil (pos year) (suc (suc n)) 1) day) (month_from (suc n) year day) refl (month_is n year day from)

-- 1 January of the year 0
first_day : days_from_civil (pos 0) 1 1 ≡ negsuc 719527
first_day = omega (arith, signed_arith, days_from_civil-day_count (pos 0) 1 1, day_count-early (pos 0) 9999 1 1 refl (omega arith) (omega arith) (omega arith))

-- a day of a year stands at most at its 31 December
in_year : (year : ℕ) (day : ℤ) → IsDayNumber day → IsYear 9999 day year → day ≤ℤ days_from_civil (pos year) 12 31
in_year year day bounds is =
    elim (cases_lt year 9999) [
      | inl lower ↦ omega (arith, signed_arith, is.next lower, days_from_civil-next_year (pos year) (pos (suc year)) (omega (arith, signed_arith)) (omega (arith, signed_arith)))
      | inr other ↦
          let most = is.most in
          let same : 9999 ≡ year = omega arith in
          subst (λ last. day ≤ℤ days_from_civil (pos last) 12 31) same (omega (arith, signed_arith, bounds.1, days_from_civil-max))
    ]

-- and a day of a month at most at its last one
in_month : (year month : ℕ) (day : ℤ) → day ≤ℤ days_from_civil (pos year) 12 31 → IsMonth 12 year day month → day ≤ℤ days_from_civil (pos year) month (days_in_month (pos year) month)
in_month year month day most is =
    elim (cases_lt month 12) [
      | inl lower ↦
          let next : day <ℤ days_from_civil (pos year) (month + 1) 1 = subst (λ later. day <ℤ days_from_civil (pos year) later 1) (omega arith) (is.next lower) in
          omega (arith, signed_arith, next, days_from_civil-next_month (pos year) month (days_in_month (pos year) month) is.least refl)
      | inr other ↦
          let last = is.most in
          let same : 12 ≡ month = omega arith in
          subst (λ last. day ≤ℤ days_from_civil (pos year) last (days_in_month (pos year) last)) same most
    ]

-- a date of the calendar, with its day number
pub record IsDateOf (day : ℤ) (year month day_of_month : ℕ) : Type 0 where
  pub year_most : year ≤ 9999
  pub month_least : 1 ≤ month
  pub month_most : month ≤ 12
  pub day_least : 1 ≤ day_of_month
  pub day_most : day_of_month ≤ days_in_month (pos year) month
  pub number : days_from_civil (pos year) month day_of_month ≡ day

size : (z : ℤ) → pos 0 ≤ℤ z → z ≡ pos (unsigned_abs z)
size (pos n) from = refl
size (negsuc n) from = absurd (omega (arith, ints))

by_parts : (day : ℤ) (year month : ℕ) → IsDayNumber day → IsYear 9999 day year → IsMonth 12 year day month → IsDateOf day year month (unsigned_abs (day -ℤ days_from_civil (pos year) month 1) + 1)
by_parts day year month bounds in_the_year in_the_month =
    let place = unsigned_abs (day -ℤ days_from_civil (pos year) month 1) + 1 in
    let begun = in_the_month.begun in
    let behind = size (day -ℤ days_from_civil (pos year) month 1) (omega (arith, signed_arith, begun)) in
    let last = in_month year month day (in_year year day bounds in_the_year) in_the_month in
    let some = (days_in_month_bounds (pos year) month).1 in
    let from_first = days_from_civil-day (pos year) month place 1 (omega arith) (omega arith) in
    let to_last = days_from_civil-day (pos year) month place (days_in_month (pos year) month) (omega arith) (omega arith) in
    record {
      year_most = in_the_year.most;
      month_least = in_the_month.least;
      month_most = in_the_month.most;
      day_least = omega arith;
      day_most = omega (arith, signed_arith, behind, begun, last, from_first, to_last);
      number = omega (arith, signed_arith, behind, begun, from_first);
    }

pub date_of_day : (day : ℤ) → IsDayNumber day → IsDateOf day (year_at day) (month_at day) (day_at day)
unfolding year_at month_at day_at
date_of_day day bounds =
    let in_the_year = year_is 9999 day (omega (arith, signed_arith, bounds.0, first_day)) in
    by_parts day (year_at day) (month_at day) bounds in_the_year (month_is 11 (year_at day) day in_the_year.begun)
