-- The Gregorian calendar: the date of a day number by counting years and months up from 1970-01-01, day 0.
use Rattle.std.specs.Prelude.{◌≡◌, ℕ, zero, suc, ◌+◌, ◌-◌, ◌%◌, Bool, true, false, cond, not, ◌&&◌, ◌||◌, ◌==◌, nat_lt}
use Rattle.calendar.specs.declared.Date.{Date}

abbrev pub leap : ℕ → Bool
leap y = y % 4 == 0 && (not (y % 100 == 0) || y % 400 == 0)

abbrev pub year_days : ℕ → ℕ
year_days y = cond (leap y) 366 365

abbrev pub month_days : ℕ → ℕ → ℕ
month_days y m =
    cond (m == 2) (cond (leap y) 29 28)
    (cond (m == 4 || (m == 6 || (m == 9 || m == 11))) 30 31)

abbrev pub on : ℕ → ℕ → ℕ → Date
on y m d = record { year = y; month = m; day = d }

-- d days after the first of month m of year y; at most k months are counted
abbrev pub from_month : ℕ → ℕ → ℕ → ℕ → Date
from_month zero y m d = on y m (d + 1)
from_month (suc k) y m d =
    elim (nat_lt d (month_days y m)) [ true ↦ on y m (d + 1) | false ↦ from_month k y (m + 1) (d - month_days y m) ]

-- d days after the first of January of year y; at most k years are counted
abbrev pub from_year : ℕ → ℕ → ℕ → Date
from_year zero y d = from_month 11 y 1 d
from_year (suc k) y d =
    elim (nat_lt d (year_days y)) [ true ↦ from_month 11 y 1 d | false ↦ from_year k (y + 1) (d - year_days y) ]

-- the date of day n: a year takes a day at least, so n years suffice
abbrev pub date : ℕ → Date
date n = from_year n 1970 n

-- day 0 was a Thursday, 4, where Sunday is 0
abbrev pub weekday : ℕ → ℕ
weekday n = (n + 4) % 7

-- the day after a date
abbrev pub following : Date → Date
following d =
    cond (nat_lt d.day (month_days d.year d.month)) (on d.year d.month (d.day + 1))
    (cond (nat_lt d.month 12) (on d.year (d.month + 1) 1) (on (d.year + 1) 1 1))

-- in the calendar's own words: day 0 is 1970-01-01, and each day's date follows that of the day before
abbrev pub DaysFollow : Type 0
DaysFollow = (date 0 ≡ on 1970 1 1) × ((n : ℕ) → date (n + 1) ≡ following (date n))
