use Rattle.std.proofs.Common.{◌≡◌, ◌-◌, ◌≤◌}
use Rattle.calendar.specs.Calendar.{from_month}
use Rattle.calendar.proofs.month_of.Given as goal

abbrev pub invariant-loop-month : goal.invariant-loop-month
invariant-loop-month l =
    (l.days ≤ l.fn.p.days) × (from_month (12 - l.month) l.fn.p.year l.month l.days ≡ from_month 11 l.fn.p.year 1 l.fn.p.days)
