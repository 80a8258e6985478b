use Rattle.std.proofs.Common.{◌≡◌, ℕ, ◌+◌, ◌-◌, ◌<◌, ◌≤◌, sym, ap, ◌∙◌, arith}
use Rattle.calendar.specs.Calendar.{from_month, month_days}
use Rattle.calendar.proofs.Count.{month_go, month_stop}
use Rattle.calendar.proofs.month_of.Goals as goal

pub returns-then-days-length : goal.returns-then-days-length
returns-then-days-length c =
    let l = c.loop-month in
    let h : l.days < month_days c.args.p.year l.month = omega (arith, c.days_in_month-length.ensures) in
    sym (month_stop (12 - l.month) c.args.p.year l.month l.days h) ∙ l.invariant.1

pub loop-month-preserved : goal.loop-month-preserved
loop-month-preserved c =
    let y = c.args.p.year in
    let l = c.loop-month in
    let q : c.days_in_month-length.result ≡ month_days y l.month = c.days_in_month-length.ensures in
    let h : month_days y l.month ≤ l.days = omega (arith, q) in (
      omega arith,
      ap (λ (x : ℕ). from_month (12 - (l.month + 1)) y (l.month + 1) (l.days - x)) q
          ∙ sym (month_go (12 - l.month) (12 - (l.month + 1)) y l.month l.days (omega arith) h) ∙ l.invariant.1,
    )
