-- The text of a date is read as that date.
use Rattle.std.proofs.Common.{◌≡◌, ℕ, ◌+◌, ◌*◌, ◌/◌, ◌%◌, ◌<◌, ◌≤◌, true, List, [], ◌∷◌, ◌++◌, refl, sym, ap, ◌∙◌, arith, le-leb, lt-ltb, ne_eqb, ℤ, pos, ◌+ℤ◌, ◌*ℤ◌}
use Rattle.std.specs.Prelude.{if◌then◌else◌, Ok, Err, unsigned_abs}
use Rattle.std.specs.Int.{int_div_euclid, int_rem_euclid}
use Rattle.std.specs.Char.{is_ascii_digit}
use Rattle.std.specs.Str.{is_utf8}
use Rattle.std.proofs.lemmas.Str.{is_utf8-from_IsUtf8}
use Rattle.json.proofs.Printed.Utf8.{IsUtf8-are_ascii}
use Rattle.jiff_core.specs.Calendar.{days_from_civil, days_in_month}
use Rattle.jiff_core.proofs.SignedLemmas.{signed_arith, int_rem_euclid-parts, unsigned_abs-parts}
use Rattle.jiff_core.proofs.CalendarLemmas.{days_in_month_bounds}
use Rattle.bl_value.specs.Cells.{cell, date, has_date_form, is_day, is_time, text_cell, without_spaces, year_of, month_of, day_of, hour_of, minute_of, second_of}
use Rattle.bl_value.specs.Dates.{date_text, in_two, year_at, month_at, day_at}
use Rattle.bl_value.specs.Valid.{IsDate}
use Rattle.bl_value.specs.declared.value.Value.TheVariants.{Date}
use Rattle.bl_value.specs.declared.value_type.ValueType.TheVariants.{Date as DateType}
use Rattle.bl_value.specs.declared.cell.CellRefusal.TheVariants.{NotUtf8}
use Rattle.bl_value.proofs.CivilDays.{IsDateOf, date_of_day}
use Rattle.bl_value.proofs.Days.{day_of_date}
use Rattle.bl_value.proofs.Moments.{date_taken}

-- ---- a number below 100 and its two digits

tens : (n : ℕ) → n < 100 → is_ascii_digit (48 + n / 10) ≡ true
tens n small = rw (le-leb 48 (48 + n / 10) (omega arith), le-leb (48 + n / 10) 57 (omega arith)) refl

ones : (n : ℕ) → is_ascii_digit (48 + n % 10) ≡ true
ones n = rw (le-leb 48 (48 + n % 10) (omega arith), le-leb (48 + n % 10) 57 (omega arith)) refl

-- ---- the text of a year's two halves, a month, a day and a clock

abbrev form_of : ℕ → ℕ → ℕ → ℕ → ℕ → ℕ → ℕ → List ℕ
form_of century year month day hour minute second =
    (in_two century ++ in_two year) ++ 45 ∷ in_two month ++ 45 ∷ in_two day ++ 84 ∷ (in_two hour ++ 58 ∷ in_two minute ++ 58 ∷ in_two second) ++ 90 ∷ []

record AreSmall (century year month day hour minute second : ℕ) : Type 0 where
  century_small : century < 100
  year_small : year < 100
  month_small : month < 100
  day_small : day < 100
  hour_small : hour < 24
  minute_small : minute < 60
  second_small : second < 60

has_form_of : (c y m d h mi s : ℕ) → AreSmall c y m d h mi s → has_date_form (form_of c y m d h mi s) ≡ true
has_form_of c y m d h mi s small =
    rw (
      tens c small.century_small,
      ones c,
      tens y small.year_small,
      ones y,
      tens m small.month_small,
      ones m,
      tens d small.day_small,
      ones d,
      tens h (let hour = small.hour_small in omega arith),
      ones h,
      tens mi (let minute = small.minute_small in omega arith),
      ones mi,
      tens s (let second = small.second_small in omega arith),
      ones s,
    ) refl

no_spaces : (c y m d h mi s : ℕ) → without_spaces (form_of c y m d h mi s) ≡ form_of c y m d h mi s
no_spaces c y m d h mi s = rw (ne_eqb (48 + c / 10) 32 (λ same. omega arith)) refl

utf8 : (c y m d h mi s : ℕ) → AreSmall c y m d h mi s → is_utf8 (form_of c y m d h mi s) ≡ true
utf8 c y m d h mi s small =
    let century = small.century_small in
    let year = small.year_small in
    let month = small.month_small in
    let day = small.day_small in
    let hour = small.hour_small in
    let minute = small.minute_small in
    let second = small.second_small in
    is_utf8-from_IsUtf8 (form_of c y m d h mi s) (IsUtf8-are_ascii (form_of c y m d h mi s)
    (rw (
      lt-ltb (48 + c / 10) 128 (omega arith),
      lt-ltb (48 + c % 10) 128 (omega arith),
      lt-ltb (48 + y / 10) 128 (omega arith),
      lt-ltb (48 + y % 10) 128 (omega arith),
      lt-ltb (48 + m / 10) 128 (omega arith),
      lt-ltb (48 + m % 10) 128 (omega arith),
      lt-ltb (48 + d / 10) 128 (omega arith),
      lt-ltb (48 + d % 10) 128 (omega arith),
      lt-ltb (48 + h / 10) 128 (omega arith),
      lt-ltb (48 + h % 10) 128 (omega arith),
      lt-ltb (48 + mi / 10) 128 (omega arith),
      lt-ltb (48 + mi % 10) 128 (omega arith),
      lt-ltb (48 + s / 10) 128 (omega arith),
      lt-ltb (48 + s % 10) 128 (omega arith),
    ) refl))

year_there : (c y m d h mi s : ℕ) → AreSmall c y m d h mi s → year_of (form_of c y m d h mi s) ≡ c * 100 + y
year_there c y m d h mi s small = rw (tens c small.century_small, ones c, tens y small.year_small, ones y) (omega arith)

month_there : (c y m d h mi s : ℕ) → AreSmall c y m d h mi s → month_of (form_of c y m d h mi s) ≡ m
month_there c y m d h mi s small = rw (tens m small.month_small, ones m) (omega arith)

day_there : (c y m d h mi s : ℕ) → AreSmall c y m d h mi s → day_of (form_of c y m d h mi s) ≡ d
day_there c y m d h mi s small = rw (tens d small.day_small, ones d) (omega arith)

hour_there : (c y m d h mi s : ℕ) → AreSmall c y m d h mi s → hour_of (form_of c y m d h mi s) ≡ h
hour_there c y m d h mi s small = rw (tens h (let hour = small.hour_small in omega arith), ones h) (omega arith)

minute_there : (c y m d h mi s : ℕ) → AreSmall c y m d h mi s → minute_of (form_of c y m d h mi s) ≡ mi
minute_there c y m d h mi s small = rw (tens mi (let minute = small.minute_small in omega arith), ones mi) (omega arith)

second_there : (c y m d h mi s : ℕ) → AreSmall c y m d h mi s → second_of (form_of c y m d h mi s) ≡ s
second_there c y m d h mi s small = rw (tens s (let second = small.second_small in omega arith), ones s) (omega arith)

-- ---- the calendar and the clock

day_is : (year month day : ℕ) → 1 ≤ month → month ≤ 12 → 1 ≤ day → day ≤ days_in_month (pos year) month → is_day year month day ≡ true
day_is year month day month_least month_most day_least day_most =
    rw (le-leb 1 month month_least, le-leb month 12 month_most, le-leb 1 day day_least, le-leb day (days_in_month (pos year) month) day_most) refl

time_is : (hour minute second : ℕ) → hour < 24 → minute < 60 → second < 60 → is_time hour minute second ≡ true
time_is hour minute second hour_small minute_small second_small = rw (lt-ltb hour 24 hour_small, lt-ltb minute 60 minute_small, lt-ltb second 60 second_small) refl

read_parts : (year month day second : ℕ) (number seconds : ℤ) → IsDateOf number year month day → second < 86400 → seconds ≡ pos 86400 *ℤ number +ℤ pos second →
    cell DateType (form_of (year / 100) (year % 100) month day (second / 3600) (second / 60 % 60) (second % 60)) ≡ Ok (Date seconds)
read_parts year month day second number seconds is clock sum =
    let c = year / 100 in
    let y = year % 100 in
    let h = second / 3600 in
    let mi = second / 60 % 60 in
    let s = second % 60 in
    let text = form_of c y month day h mi s in
    let year_most = is.year_most in
    let month_most = is.month_most in
    let day_most = is.day_most in
    let most = (days_in_month_bounds (pos year) month).0 in
    let small : AreSmall c y month day h mi s = record {
      century_small = omega arith;
      year_small = omega arith;
      month_small = omega arith;
      day_small = omega arith;
      hour_small = omega arith;
      minute_small = omega arith;
      second_small = omega arith;
    } in
    let year_eq : year_of text ≡ year = year_there c y month day h mi s small ∙ omega arith in
    let month_eq : month_of text ≡ month = month_there c y month day h mi s small in
    let day_eq : day_of text ≡ day = day_there c y month day h mi s small in
    let hour_eq : hour_of text ≡ h = hour_there c y month day h mi s small in
    let minute_eq : minute_of text ≡ mi = minute_there c y month day h mi s small in
    let second_eq : second_of text ≡ s = second_there c y month day h mi s small in
    let day_ok : is_day (year_of text) (month_of text) (day_of text) ≡ true =
    ap (λ part. is_day part (month_of text) (day_of text)) year_eq ∙ ap (λ part. is_day year part (day_of text)) month_eq ∙ ap (λ part. is_day year month part) day_eq
    ∙ day_is year month day is.month_least is.month_most is.day_least is.day_most in
    let time_ok : is_time (hour_of text) (minute_of text) (second_of text) ≡ true =
    ap (λ part. is_time part (minute_of text) (second_of text)) hour_eq ∙ ap (λ part. is_time h part (second_of text)) minute_eq ∙ ap (λ part. is_time h mi part) second_eq
    ∙ time_is h mi s small.hour_small small.minute_small small.second_small in
    let number_ok : number ≡ days_from_civil (pos (year_of text)) (month_of text) (day_of text) =
    sym (ap (λ part. days_from_civil (pos part) (month_of text) (day_of text)) year_eq ∙ ap (λ part. days_from_civil (pos year) part (day_of text)) month_eq
    ∙ ap (λ part. days_from_civil (pos year) month part) day_eq ∙ is.number) in
    let parts : second ≡ h * 3600 + mi * 60 + s = omega arith in
    let second_ok : pos second ≡ pos (hour_of text * 3600 + minute_of text * 60 + second_of text) =
    ap pos (parts ∙ sym (ap (λ part. part * 3600 + minute_of text * 60 + second_of text) hour_eq ∙ ap (λ part. h * 3600 + part * 60 + second_of text) minute_eq ∙ ap (λ part. h * 3600 + mi * 60 + part) second_eq)) in
    ap (λ test. if test then text_cell DateType text else Err NotUtf8) (utf8 c y month day h mi s small)
    ∙ ap date (no_spaces c y month day h mi s)
    ∙ sym (date_taken text number (pos second) seconds (has_form_of c y month day h mi s small) day_ok time_ok number_ok second_ok sum)

pub read_back : (seconds : ℤ) → IsDate seconds → cell DateType (date_text seconds) ≡ Ok (Date seconds)
read_back seconds bounds =
    let day = int_div_euclid seconds (pos 86400) in
    let second = unsigned_abs (int_rem_euclid seconds (pos 86400)) in
    let rest = int_rem_euclid-parts seconds 86400 (omega arith) in
    let size = unsigned_abs-parts (int_rem_euclid seconds (pos 86400)) in
    read_parts (year_at day) (month_at day) (day_at day) second day seconds (date_of_day day (day_of_date seconds bounds)) (omega (arith, rest, size)) (omega (arith, signed_arith, rest, size))
