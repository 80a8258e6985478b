-- Every Friday at nine.
use Rattle.std.proofs.Common.{◌≡◌, ℕ, zero, suc, ◌+◌, ◌-◌, ◌/◌, ◌%◌, ◌<◌, ◌≤◌, Bool, true, false, ◌&&◌, ltb, codes, refl, ap, ◌∙◌, subst, arith}
use Rattle.std.proofs.Math.Decide.{ℕ_discrete}
use Rattle.std.proofs.lemmas.Bool.{and_from, and_parts, or_right}
use Rattle.fields.specs.Values.{field_reading, field_set}
use Rattle.fields.specs.declared.element.Field.TheVariants.{Minute, Hour, Month, Weekday}
use Rattle.schedule.specs.Match.{held}
use Rattle.crontab.specs.Words.{past}
use Rattle.crontab.specs.Line.{field_at}
use Rattle.calendar.specs.declared.Date.{Date}
use Rattle.calendar.specs.Calendar.{date, from_year, from_month, month_days, year_days, on}
use Rattle.worked_cases.specs.Due.{AnyFriday}

-- the month of a date lies between two
abbrev Between : ℕ → ℕ → Date → Type 0
Between a b d = (a ≤ d.month) × (d.month ≤ b)

month_within : (k y m d : ℕ) → Between m (m + k) (from_month k y m d)
month_within zero y m d = (omega arith, omega arith)
month_within (suc k) y m d = go (ltb d (month_days y m)) (month_within k y (m + 1) (d - month_days y m))
  where
    go : (b : Bool) → Between (m + 1) (m + 1 + k) (from_month k y (m + 1) (d - month_days y m)) →
        Between m (m + suc k) (elim b [ true ↦ on y m (d + 1) | false ↦ from_month k y (m + 1) (d - month_days y m) ])
    go true h = (omega arith, omega arith)
    go false h = (omega arith, omega arith)

year_within : (k y d : ℕ) → Between 1 12 (from_year k y d)
year_within zero y d = month_within 11 y 1 d
year_within (suc k) y d = go (ltb d (year_days y)) (year_within k (y + 1) (d - year_days y))
  where
    go : (b : Bool) → Between 1 12 (from_year k (y + 1) (d - year_days y)) →
        Between 1 12 (elim b [ true ↦ from_month 11 y 1 d | false ↦ from_year k (y + 1) (d - year_days y) ])
    go true h = month_within 11 y 1 d
    go false h = h

-- a test that holds of each number below n
abbrev all : ℕ → (ℕ → Bool) → Bool
all zero p = true
all (suc n) p = p n && all n p

all_at : (n : ℕ) (p : ℕ → Bool) (k : ℕ) → all n p ≡ true → k < n → p k ≡ true
all_at zero p k e h = absurd (omega arith)
all_at (suc n) p k e h =
    let q = and_parts (p n) (all n p) e in
    elim (ℕ_discrete k n) [ yes r ↦ ap p r ∙ q.0 | no r ↦ all_at n p k q.1 (omega arith) ]

-- every month is held by a starred month field
every_month : (n : ℕ) → 1 ≤ n → n ≤ 12 → held (field_set Month (codes "*")) n ≡ true
every_month n l h =
    let k : n - 1 + 1 ≡ n = omega arith in
    subst (λ (x : ℕ). held (field_set Month (codes "*")) x ≡ true) k
    (all_at 12 (λ x. held (field_set Month (codes "*")) (x + 1)) (n - 1) refl (omega arith))

pub any_friday : AnyFriday
unfolding field_reading past field_at
any_friday m nine friday =
    let minute : m % 60 ≡ 0 = omega arith in
    let hour : m % 1440 / 60 ≡ 9 = omega arith in
    let month = year_within (m / 1440) 1970 (m / 1440) in
    and_from _ _ (ap (held (field_set Minute (codes "0"))) minute)
    (and_from _ _ (ap (held (field_set Hour (codes "9"))) hour)
    (and_from _ _ (every_month (date (m / 1440)).month month.0 month.1)
    (or_right _ _ (ap (held (field_set Weekday (codes "5"))) friday))))
