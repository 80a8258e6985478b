-- Zones: an offset for each minute, the next change, and the law that every zone owes.
use Rattle.std.specs.Prelude.{◌≡◌, ℕ, zero, suc, ◌+◌, ◌-◌, ◌<◌, ◌≤◌, max, ℤ, pos, negsuc, ◌-ℤ◌, Some, None, Option, unsigned_abs}
use Rattle.time.specs.Limits.{first_told, last_minute}
use Rattle.zone.specs.Limits.{most_offset, most_change, least_apart, look_back}

-- minute u, moved by an offset
abbrev pub shifted : ℕ → ℤ → ℕ
shifted u (pos n) = u + n
shifted u (negsuc n) = u - suc n

-- what the local clock shows at minute u
abbrev pub label : (ℕ → ℤ) → ℕ → ℕ
label off u = shifted u (off u)

-- the offset at v differs from that a minute before
abbrev pub Changes : (ℕ → ℤ) → ℕ → Type 0
Changes off v = off v ≡ off (v - 1) → ⊥

-- by how much
abbrev pub change : (ℕ → ℤ) → ℕ → ℕ
change off v = unsigned_abs (off v -ℤ off (v - 1))

-- the least minute above u, to the last, at which the offset changes, or none
abbrev pub NextChange : (ℕ → ℤ) → ℕ → Option ℕ → Type 0
NextChange off u None = (v : ℕ) → u < v → v ≤ last_minute → off v ≡ off (v - 1)
NextChange off u (Some v) =
    (u < v)
    × (v ≤ last_minute)
    × Changes off v
    × ((w : ℕ) → u < w → w < v → off w ≡ off (w - 1))

-- the law: offsets within 15 hours, changes of less than three hours, and at least a day between two of them
pub record Law (off : ℕ → ℤ) : Type 0 where
  pub range : (v : ℕ) → first_told ≤ v → v ≤ last_minute → unsigned_abs (off v) ≤ most_offset
  pub step : (v : ℕ) → first_told < v → v ≤ last_minute → change off v ≤ most_change
  pub apart :
      (v w : ℕ) →
      first_told < v →
      v < w →
      w ≤ last_minute →
      Changes off v →
      Changes off w →
      v + least_apart ≤ w

-- the greatest label of the k minutes before u
abbrev pub highest : (ℕ → ℤ) → ℕ → ℕ → ℕ
highest off zero u = 0
highest off (suc k) u = max (label off (u - suc k)) (highest off k u)

-- the greatest label that the clock showed lately before u: not an abbrev, since a proof would open each minute of it
unfoldable pub reached : (ℕ → ℤ) → ℕ → ℕ
reached off u = highest off look_back u
