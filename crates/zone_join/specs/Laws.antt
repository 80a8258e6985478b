-- When two zones can be joined, in the words of the law.
use Rattle.std.specs.Prelude.{ℕ, ◌≤◌, ℤ, Decides}
use Rattle.zone.specs.Offsets.{Law}
use Rattle.zone_join.specs.Joined.{joined, accepts}
use Rattle.zone_join.specs.Limits.{first_join, last_join}

-- the joined offsets obey the law, and t leaves room on both sides
pub record Joinable (f g : ℕ → ℤ) (t : ℕ) : Type 0 where
  pub late : first_join ≤ t
  pub early : t ≤ last_join
  pub law : Law (joined f g t)

-- a join is taken exactly if it is so
abbrev pub AcceptsJoinable : Type 0
AcceptsJoinable = (f g : ℕ → ℤ) (t : ℕ) → Decides (accepts f g t) (Joinable f g t)
