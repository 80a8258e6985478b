-- A year or a month further.
use Rattle.std.proofs.Common.{◌≡◌, ℕ, zero, suc, ◌+◌, ◌-◌, ◌<◌, ◌≤◌, Bool, true, false, cond, refl, arith, le-ltb, lt-ltb}
use Rattle.calendar.specs.Calendar.{on, from_year, from_month, year_days, month_days, leap}

pub year_long : (y : ℕ) → 365 ≤ year_days y
year_long y = go (leap y)
  where
    go : (b : Bool) → 365 ≤ cond b 366 365
    go true = omega arith
    go false = omega arith

pub year_short : (y : ℕ) → year_days y ≤ 366
year_short y = go (leap y)
  where
    go : (b : Bool) → cond b 366 365 ≤ 366
    go true = omega arith
    go false = omega arith

pub year_go : (k j y d : ℕ) → k ≡ suc j → year_days y ≤ d → from_year k y d ≡ from_year j (y + 1) (d - year_days y)
year_go k j y d e h = rw (e, le-ltb _ _ h, from_year) refl

pub year_stop : (k y d : ℕ) → d < year_days y → from_year k y d ≡ from_month 11 y 1 d
year_stop zero y d h = refl
year_stop (suc k) y d h = rw (lt-ltb _ _ h, from_year) refl

pub month_go : (k j y m d : ℕ) → k ≡ suc j → month_days y m ≤ d → from_month k y m d ≡ from_month j y (m + 1) (d - month_days y m)
month_go k j y m d e h = rw (e, le-ltb _ _ h, from_month) refl

pub month_stop : (k y m d : ℕ) → d < month_days y m → from_month k y m d ≡ on y m (d + 1)
month_stop zero y m d h = refl
month_stop (suc k) y m d h = rw (lt-ltb _ _ h, from_month) refl
