-- What stays the same during a service. Of the zone and the crontab it says only which positions are due, and where the
-- command of each job line lies.
use Rattle.std.specs.Prelude.{◌≡◌, Bool, true, false, ℕ, ◌≤◌, ◌<◌}
use Rattle.disk.specs.Limits.{fewest_blocks, most_blocks}
use Rattle.journal_model.specs.Positions.{minute_of, line_of}
use Rattle.time.specs.Limits.{first_minute, last_minute, lines}
use Rattle.time.specs.Position.{rank_of}

pub record Setting : Type 0 where
  -- at this minute this line is due
  pub due : ℕ → ℕ → Bool
  -- how many job lines the file has
  pub job_lines : ℕ
  pub few_lines : job_lines ≤ lines
  pub due_in_file : (minute line : ℕ) → due minute line ≡ true → line < job_lines
  -- where the command of a line begins in the file, and how long it is
  pub place : ℕ → ℕ
  pub size : ℕ → ℕ
  -- the first minute: lines are run from here on
  pub first : ℕ
  pub first_not_early : first_minute ≤ first
  pub first_not_late : first ≤ last_minute
  -- how many blocks the disk has
  pub blocks : ℕ
  pub many_blocks : fewest_blocks ≤ blocks
  pub few_blocks : blocks ≤ most_blocks

-- the position of this rank is due: it is a ticket
abbrev pub due_at : Setting → ℕ → Bool
due_at σ r = σ.due (minute_of r) (line_of r)

-- the first position of the first minute
abbrev pub first_position : Setting → ℕ
first_position σ = rank_of σ.first 0

-- no position from a up to, and without, b is due
abbrev pub NoneDue : Setting → ℕ → ℕ → Type 0
NoneDue σ a b = (u : ℕ) → a ≤ u → u < b → due_at σ u ≡ false
