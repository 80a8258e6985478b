-- The least label that passes a test.
use Rattle.std.specs.Prelude.{◌≡◌, ℕ, ◌<◌, ◌≤◌, Bool, true, false, Some, None, Option}
use Rattle.zone.specs.declared.label.Label.{Label}

-- above low, up to high
abbrev pub Least : (ℕ → Bool) → ℕ → ℕ → Option Label → Type 0
Least p low high None = (m : ℕ) → low < m → m ≤ high → p m ≡ false
Least p low high (Some l) =
    (low < l.0) × (l.0 ≤ high)
    × (p l.0 ≡ true)
    × ((m : ℕ) → low < m → m < l.0 → p m ≡ false)
