-- The text of a date (ISO 8601): `yyyy-MM-ddTHH:mm:ssZ`.
use Rattle.std.specs.Prelude.{ℕ, zero, suc, ◌+◌, ◌/◌, ◌%◌, if◌then◌else◌, ℤ, pos, negsuc, ◌-ℤ◌, ◌≤ℤ◌, unsigned_abs, int_le, List, [], ◌∷◌, ◌++◌}
use Rattle.std.specs.Int.{int_div_euclid, int_rem_euclid}
use Rattle.jiff_core.specs.Calendar.{days_from_civil}

-- a day in the years 0000 to 9999
abbrev pub IsDayNumber : ℤ → Type 0
IsDayNumber day = (negsuc 719527 ≤ℤ day) × (day ≤ℤ pos 2932896)

-- the last of the years from 0 to the given one that has begun on a day
abbrev pub year_from : ℕ → ℤ → ℕ
year_from zero day = 0
year_from (suc year) day = if int_le (days_from_civil (pos (suc year)) 1 1) day then suc year
    else year_from year day

-- the last of the months from 1 to the given one that has begun on a day of the year
abbrev pub month_from : ℕ → ℕ → ℤ → ℕ
month_from zero year day = 0
month_from (suc month) year day =
    if int_le (days_from_civil (pos year) (suc month) 1) day then suc month
    else month_from month year day

-- the year, month and day of the month of a day number
unfoldable pub year_at : ℤ → ℕ
year_at day = year_from 9999 day

unfoldable pub month_at : ℤ → ℕ
month_at day = month_from 12 (year_at day) day

unfoldable pub day_at : ℤ → ℕ
day_at day = unsigned_abs (day -ℤ days_from_civil (pos (year_at day)) (month_at day) 1) + 1

-- a number below 100 in two digits, and one below 10,000 in four
abbrev pub in_two : ℕ → List ℕ
in_two number = (48 + number / 10) ∷ (48 + number % 10) ∷ []

abbrev pub in_four : ℕ → List ℕ
in_four number = in_two (number / 100) ++ in_two (number % 100)

-- the text of a day number, and of a second of a day
abbrev pub day_text : ℤ → List ℕ
day_text day = in_four (year_at day) ++ 45 ∷ in_two (month_at day) ++ 45 ∷ in_two (day_at day)

abbrev pub time_text : ℕ → List ℕ
time_text second = in_two (second / 3600) ++ 58 ∷ in_two (second / 60 % 60) ++ 58
    ∷ in_two (second % 60)

-- the text of the seconds from 1970 UTC, in the years 0000 to 9999
abbrev pub date_text : ℤ → List ℕ
date_text seconds =
    day_text (int_div_euclid seconds (pos 86400)) ++ 84
    ∷ time_text (unsigned_abs (int_rem_euclid seconds (pos 86400))) ++ 90 ∷ []
