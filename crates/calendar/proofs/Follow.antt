-- The date of the next day.
use Rattle.std.proofs.Common.{◌≡◌, ℕ, zero, suc, ◌+◌, ◌-◌, ◌<◌, ◌≤◌, Bool, true, false, cond, eqb, ◌⊎◌, sym, refl, ap, ◌∙◌, inl, inr, add-one, arith}
use Rattle.std.proofs.lemmas.Bool.{lt-ltb, le-ltb, cases_order}
use Rattle.calendar.specs.Calendar.{on, from_year, from_month, year_days, month_days, leap, following, DaysFollow}
use Rattle.calendar.proofs.Count.{year_long, year_go, year_stop, month_go, month_stop}

-- every month has a day
month_some : (y m : ℕ) → 27 < month_days y m
month_some y m = go (eqb m 2) (leap y) _
  where
    go : (a b c : Bool) → 27 < cond a (cond b 29 28) (cond c 30 31)
    go true true c = omega arith
    go true false c = omega arith
    go false b true = omega arith
    go false b false = omega arith

-- the day after one that is not its month's last
within : (y m d : ℕ) → d + 1 < month_days y m → following (on y m (d + 1)) ≡ on y m (d + 1 + 1)
within y m d h = rw (lt-ltb _ _ h) refl

-- the day after its month's last, but in December
next_month : (y m d : ℕ) → d + 1 ≡ month_days y m → m < 12 → following (on y m (d + 1)) ≡ on y (m + 1) 1
next_month y m d e h = rw (le-ltb (d + 1) (month_days y m) (omega arith), lt-ltb m 12 h) refl

-- the days of month m and the k months after it
abbrev days_of : ℕ → ℕ → ℕ → ℕ
days_of zero y m = month_days y m
days_of (suc k) y m = month_days y m + days_of k y (m + 1)

first_of : (k y m : ℕ) → from_month k y m 0 ≡ on y m 1
first_of k y m = let h = month_some y m in month_stop k y m 0 (omega arith)

-- within a year: the months m to m + k, the last of which is December
months_follow : (y k m d : ℕ) → m + k ≡ 12 → d + 1 < days_of k y m →
    from_month k y m (d + 1) ≡ following (from_month k y m d)
months_follow y zero m d e h = sym (within y m d h)
months_follow y (suc k) m d e h =
    go (cases_order (d + 1) (month_days y m)) (months_follow y k (m + 1) (d - month_days y m) (omega arith))
  where
    go : (d + 1 ≡ month_days y m) ⊎ ((d + 1 < month_days y m) ⊎ (month_days y m < d + 1)) →
        (d - month_days y m + 1 < days_of k y (m + 1) →
        from_month k y (m + 1) (d - month_days y m + 1) ≡ following (from_month k y (m + 1) (d - month_days y m))) →
        from_month (suc k) y m (d + 1) ≡ following (from_month (suc k) y m d)
    go (inl last) ih =
        let none : d + 1 - month_days y m ≡ 0 = omega arith in
        month_go (suc k) k y m (d + 1) refl (omega arith)
        ∙ ap (from_month k y (m + 1)) none ∙ first_of k y (m + 1)
        ∙ sym (ap following (month_stop (suc k) y m d (omega arith)) ∙ next_month y m d last (omega arith))
    go (inr (inl early)) ih =
        month_stop (suc k) y m (d + 1) early
        ∙ sym (ap following (month_stop (suc k) y m d (omega arith)) ∙ within y m d early)
    go (inr (inr late)) ih =
        let on_by_one : d + 1 - month_days y m ≡ d - month_days y m + 1 = omega arith in
        month_go (suc k) k y m (d + 1) refl (omega arith)
        ∙ ap (from_month k y (m + 1)) on_by_one
        ∙ ih (omega arith)
        ∙ sym (ap following (month_go (suc k) k y m d refl (omega arith)))

-- months have days
days_some : (k y m : ℕ) → 0 < days_of k y m
days_some zero y m = let h = month_some y m in omega arith
days_some (suc k) y m = let h = month_some y m in omega arith

-- the last of them is December's thirty-first
last_day : (y k m : ℕ) → m + k ≡ 12 → from_month k y m (days_of k y m - 1) ≡ on y 12 31
last_day y zero m e = let q : m ≡ 12 = omega arith in rw q refl
last_day y (suc k) m e =
    let more = days_some k y (m + 1) in
    let left : month_days y m + days_of k y (m + 1) - 1 - month_days y m ≡ days_of k y (m + 1) - 1 = omega arith in
    month_go (suc k) k y m (month_days y m + days_of k y (m + 1) - 1) refl (omega arith)
    ∙ ap (from_month k y (m + 1)) left
    ∙ last_day y k (m + 1) (omega arith)

-- the months of a year have all its days
year_of_months : (y : ℕ) → days_of 11 y 1 ≡ year_days y
year_of_months y = go (leap y) refl
  where
    go : (b : Bool) → leap y ≡ b → days_of 11 y 1 ≡ year_days y
    go true e = rw e refl
    go false e = rw e refl

-- over the years: k of them are enough for d days
years_follow : (k y d : ℕ) → d ≤ k → from_year (suc k) y (d + 1) ≡ following (from_year k y d)
years_follow zero y d few =
    let long = year_long y in
    year_stop 1 y (d + 1) (omega arith)
    ∙ months_follow y 11 1 d refl (rw year_of_months (omega arith))
years_follow (suc k) y d few =
    go (cases_order (d + 1) (year_days y)) (years_follow k (y + 1) (d - year_days y))
  where
    go : (d + 1 ≡ year_days y) ⊎ ((d + 1 < year_days y) ⊎ (year_days y < d + 1)) →
        (d - year_days y ≤ k →
        from_year (suc k) (y + 1) (d - year_days y + 1) ≡ following (from_year k (y + 1) (d - year_days y))) →
        from_year (suc (suc k)) y (d + 1) ≡ following (from_year (suc k) y d)
    go (inl last) ih =
        let none : d + 1 - year_days y ≡ 0 = omega arith in
        let d_last : d ≡ days_of 11 y 1 - 1 = omega (arith, year_of_months y) in
        let long = year_long (y + 1) in
        year_go (suc (suc k)) (suc k) y (d + 1) refl (omega arith)
        ∙ ap (from_year (suc k) (y + 1)) none
        ∙ year_stop (suc k) (y + 1) 0 (omega arith)
        ∙ first_of 11 (y + 1) 1
        ∙ sym (ap following (year_stop (suc k) y d (omega arith) ∙ ap (from_month 11 y 1) d_last ∙ last_day y 11 1 refl))
    go (inr (inl early)) ih =
        year_stop (suc (suc k)) y (d + 1) early
        ∙ months_follow y 11 1 d refl (rw year_of_months early)
        ∙ sym (ap following (year_stop (suc k) y d (omega arith)))
    go (inr (inr late)) ih =
        let on_by_one : d + 1 - year_days y ≡ d - year_days y + 1 = omega arith in
        let long = year_long y in
        year_go (suc (suc k)) (suc k) y (d + 1) refl (omega arith)
        ∙ ap (from_year (suc k) (y + 1)) on_by_one
        ∙ ih (omega arith)
        ∙ sym (ap following (year_go (suc k) k y d refl (omega arith)))

pub days_follow : DaysFollow
days_follow = (refl, λ n. ap (λ (k : ℕ). from_year k 1970 (n + 1)) (add-one n) ∙ years_follow n 1970 n (omega arith))
