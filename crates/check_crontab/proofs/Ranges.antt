-- The first number of a range that passes a test, or the range's end.
use Rattle.std.proofs.Common.{ℕ, ◌<◌, ◌≤◌, Option, Some, None, MatchOption}
use Rattle.std.specs.Option.{unwrap_or}

-- none before it passes
pub none_before : (Yes No : ℕ → Type 0) (a b : ℕ) (r : Option ℕ)
    → MatchOption r
    ((k : ℕ) → a ≤ k → k < b → No k)
    (λ x. (a ≤ x) × (x < b) × Yes x × ((k : ℕ) → a ≤ k → k < x → No k))
    → (k : ℕ) → a ≤ k → k < unwrap_or r b → No k
none_before Yes No a b None none = none
none_before Yes No a b (Some x) (low, high, passes, before) = before
