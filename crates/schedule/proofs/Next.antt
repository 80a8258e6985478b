-- The first line of a minute that is due.
use Rattle.std.proofs.Common.{◌≡◌, ℕ, ◌<◌, ◌≤◌, min, List, length, true, false, ◌⊎◌, Some, None, Option, ap, inl, inr, arith, MatchOption}
use Rattle.std.specs.List.{slice_get}
use Rattle.std.proofs.lemmas.Option.{slice_get_past}
use Rattle.std.proofs.lemmas.Bool.{cases_lt}
use Rattle.zone.specs.declared.window.Window.{Window}
use Rattle.crontab.specs.declared.job.Job.{Job}
use Rattle.schedule.specs.Due.{line_due, FirstDue}

-- lines that the file lacks are not due
pub first_known :
    (w : Window) (js : List Job) (a b n : ℕ) (r : Option ℕ) → n ≡ min (length js) b
    → MatchOption r ((k : ℕ) → a ≤ k → k < n → line_due w (slice_get js k) ≡ false)
    (λ i. (a ≤ i) × (i < n) × (line_due w (slice_get js i) ≡ true)
    × ((k : ℕ) → a ≤ k → k < i → line_due w (slice_get js k) ≡ false))
    → FirstDue w js a b r
first_known w js a b n None e h = λ k low high. go k low high (cases_lt k n)
  where
    go : (k : ℕ) → a ≤ k → k < b → (k < n) ⊎ (n ≤ k) → line_due w (slice_get js k) ≡ false
    go k low high (inl lt) = h k low lt
    go k low high (inr ge) = ap (line_due w) (slice_get_past js k (omega arith))
first_known w js a b n (Some i) e h = (h.0, omega arith, h.2, h.3)
