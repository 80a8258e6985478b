-- Runs of the values that a field holds.
use Rattle.std.specs.Prelude.{◌≡◌, ℕ, ◌+◌, ◌<◌, ◌≤◌, Bool, true, false, Some, None, Option, slice_index_or}
use Rattle.fields.specs.declared.values.Values.{Values}
use Rattle.check_crontab.specs.declared.runs.Run.{Run}

-- is the number k one of the values?
abbrev pub held : Values → ℕ → Bool
held v k = slice_index_or v.has k false

-- from the number i up to j, j not among them, each is one of the values (b is true), or none is (b is false)
abbrev pub same : Bool → Values → ℕ → ℕ → Type 0
same b v i j = (k : ℕ) → i ≤ k → k < j → held v k ≡ b

-- the longest run that begins with the first of the values from the number i on; none if there is no such value
abbrev pub NextRun : Values → ℕ → Option Run → Type 0
NextRun v i None = same false v i 64
NextRun v i (Some r) =
    (i ≤ r.first) × (r.first ≤ r.last) × (r.last < 64)
    × same false v i r.first
    × same true v r.first (r.last + 1)
    × (held v (r.last + 1) ≡ false)
