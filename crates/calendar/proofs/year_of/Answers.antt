use Rattle.std.proofs.Common.{◌≡◌, ℕ, ◌+◌, ◌-◌, ◌≤◌, sym, ap, ◌∙◌, arith}
use Rattle.calendar.specs.Calendar.{from_year, year_days}
use Rattle.calendar.proofs.Count.{year_long, year_go}
use Rattle.calendar.proofs.year_of.Goals as goal

pub years-preserved : goal.years-preserved
years-preserved c =
    let y = c.years.year in
    let d = c.years.days in
    let n = c.args.n in
    let i = c.years.invariant in
    let q : c.days_in_year-days.result ≡ year_days y = c.days_in_year-days.ensures in
    let w : year_days y ≤ d = omega (arith, c.days_in_year.ensures) in
    let l = year_long y in (
      omega arith,
      omega arith,
      ap (λ (x : ℕ). from_year (n + 1970 - (y + 1)) (y + 1) (d - x)) q
          ∙ sym (year_go (n + 1970 - y) (n + 1970 - (y + 1)) y d (omega arith) w) ∙ i.2,
    )
