use Rattle.std.proofs.Common.{◌≡◌, ◌+◌, ◌-◌, ◌*◌, ◌≤◌}
use Rattle.calendar.specs.Calendar.{from_year, date}
use Rattle.calendar.proofs.year_of.Given as goal

abbrev pub invariant-years : goal.invariant-years
invariant-years l =
    (1970 ≤ l.year)
    × (365 * (l.year - 1970) + l.days ≤ l.n)
    × (from_year (l.n + 1970 - l.year) l.year l.days ≡ date l.n)

abbrev pub decreases-years : goal.decreases-years
decreases-years l = l.days
